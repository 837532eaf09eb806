-- So many places: numbers, then zeros. Assumes nothing.
use mathlib.Core.Path.{◌≡◌, sym, ap, ◌∙◌}
use mathlib.Core.List.{List, [], ◌∷◌, ◌++◌, append_assoc}
use Prim.Native.Nat.{ℕ, suc, ◌+◌, ◌-◌, ◌<◌, ◌≤◌}
use native.Mathlib.Omega.{arith}
use lib.ListN.{length, set, replicate, length-append, length-replicate}
use lib.Seq.{set_at}
use Rattle.base_lists.specs.Room.{padded}

module _ {E : Type 0} (n : ℕ) (zero : E) where
  pub padded_length : (l : List E) → length l ≤ n → length (padded n zero l) ≡ n
  padded_length l h = let r = length-replicate (n - length l) zero in simp length-append (omega arith)

  -- one more number
  pub padded_more : (out l : List E) (i : ℕ) (v : E) → i ≡ length l → length l < n → out ≡ padded n zero l → set out i v ≡ padded n zero (l ++ (v ∷ []))
  padded_more out l i v e h o =
      let k = n - length (l ++ (v ∷ [])) in
      let m : length (l ++ (v ∷ [])) ≡ length l + 1 = length-append l (v ∷ []) in
      let j : n - length l ≡ suc k = omega arith in
      ap (λ z. set z i v) (o ∙ ap (λ z. l ++ replicate z zero) j) ∙ set_at l zero (replicate k zero) v i (sym e)
      ∙ sym (append_assoc l (v ∷ []) (replicate k zero))
