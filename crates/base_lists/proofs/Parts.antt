-- `All` of a part of a list, and of one element. Assumes nothing.
use mathlib.Core.Path.{sym, subst}
use mathlib.Core.List.{List, [], ◌∷◌}
use Prim.Native.Nat.{ℕ, zero, suc, ◌<◌}
use native.Mathlib.Omega.{arith}
use lib.ListN.{length, get_or, take, drop, take-append-drop}
use Rattle.base_lists.specs.All.{All, none, more}
use Rattle.base_lists.proofs.Joined.{all_left, all_right}

module _ {A : Type 0} where
  module _ {P : A → Type 0} where
    pub all_take : (n : ℕ) (l : List A) → All P l → All P (take n l)
    all_take n l h = all_left (take n l) (drop n l) (subst (λ (k : List A). All P k) (sym (take-append-drop n l)) h)

    pub all_drop : (n : ℕ) (l : List A) → All P l → All P (drop n l)
    all_drop n l h = all_right (take n l) (drop n l) (subst (λ (k : List A). All P k) (sym (take-append-drop n l)) h)

    pub all_at : (l : List A) (i : ℕ) (d : A) → All P l → i < length l → P (get_or l i d)
    all_at [] i d none h = absurd (omega arith)
    all_at (x ∷ l) zero d (more p h) g = p
    all_at (x ∷ l) (suc i) d (more p h) g = all_at l i d h (omega arith)

  pub all_both : {P Q : A → Type 0} {l : List A} → All P l → All Q l → All (λ a. P a × Q a) l
  all_both none none = none
  all_both (more p h) (more q g) = more (p, q) (all_both h g)
