-- A run of stores in two parts. Assumes nothing.
use mathlib.Core.Path.{◌≡◌, ◌∙◌}
use mathlib.Core.List.{List, [], ◌∷◌, ◌++◌}
use Prim.Native.Nat.{ℕ, suc, ◌+◌}
use native.Mathlib.Nat.{add-zero, add-suc, suc-add}
use lib.ListN.{length, set}
use lib.Seq.{sets}

pub sets_append : {A : Type 0} (l : List A) (n : ℕ) (a b : List A) → sets l n (a ++ b) ≡ sets (sets l n a) (n + length a) b
sets_append l n [] b = rw add-zero
sets_append l n (x ∷ a) b = sets_append (set l n x) (suc n) a b ∙ rw (suc-add, add-suc)
