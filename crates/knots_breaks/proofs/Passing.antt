-- Strict mode: whole numbers ascend, and those of them that pass lie between the ends of the range. Assumes nothing.
use Rattle.std.proofs.Common.{◌≡◌, ℕ, zero, suc, ◌≤◌, Bool, true, false, cond, T, List, [], ◌∷◌, length, pos, sym, refl, ap, subst, arith}
use lib.Ieee.{Float, binary64, fits, lt, le}
use lib.Ieee.Fits.{of_int-fits}
use Rattle.arith.specs.Notation.{◌⊕◌, ◌⊖◌, ◌⊗◌, count, plus_zero}
use Rattle.arith.specs.Constants.{billionth}
use Rattle.arith_order.proofs.Lerp.{whole_le}
use Rattle.arith_order.proofs.Modest.{Modest}
use Rattle.base_lists.specs.All.{All, none, more}
use Rattle.base_lists.specs.Own.Way.{Up}
use Rattle.base_lists.specs.Own.Sub.{Pairwise, empty, first}
use Rattle.base_lists.proofs.Order.{sub_pairwise}
use Rattle.base_lists.proofs.Joined.{all_map, Within}
use Rattle.knots_sort.specs.Sort.{inserted, sorted}
use Rattle.knots_inside.specs.Breaks.{is_strict, retained_knots, apart, deduped, passing_upward, passing_knots, inside_upward, inside_of}
use Rattle.knots_inside.proofs.Kept.{passing_sub}
use Rattle.knots_inside.proofs.Between.{Between, inside_between}
use Rattle.knots_breaks.specs.Breaks.{wholes}

-- ---- a knot that passes is what `inside` leaves of it alone, so what is known of that holds of the knot
retained_alone : (epsilon above below : Float) (l : List Float) → All (λ k. k ∷ [] ≡ deduped epsilon (sorted (retained_knots above below (k ∷ [])))) (retained_knots above below l)
unfolding retained_knots inserted sorted apart deduped
retained_alone epsilon above below [] = none
retained_alone epsilon above below (k ∷ l) = go (is_strict above below k) refl (retained_alone epsilon above below l)
  where
    alone : Float → Type 0
    alone k = k ∷ [] ≡ deduped epsilon (sorted (retained_knots above below (k ∷ [])))

    go : (b : Bool) → b ≡ is_strict above below k → All alone (retained_knots above below l)
        → All alone (cond b (k ∷ retained_knots above below l) (retained_knots above below l))
    go true e h = more (ap (λ (b : Bool). deduped epsilon (sorted (cond b (k ∷ []) []))) e) h
    go false e h = h

module _ (knots : List Float) where
  upward_alone : (lo hi : Float) → All (λ k. k ∷ [] ≡ inside_upward (k ∷ []) lo hi) (passing_upward knots lo hi)
  unfolding passing_upward inside_upward
  upward_alone lo hi = go (lt plus_zero (hi ⊖ lo))
    where
      epsilon : Float
      epsilon = (hi ⊖ lo) ⊗ billionth

      kept : List Float → List Float
      kept l = retained_knots (lo ⊕ epsilon) (hi ⊖ epsilon) l

      go : (b : Bool) → All (λ k. k ∷ [] ≡ cond b (deduped epsilon (sorted (kept (k ∷ [])))) []) (cond b (kept knots) [])
      go true = retained_alone epsilon (lo ⊕ epsilon) (hi ⊖ epsilon) knots
      go false = none

  passing_alone : (lo hi : Float) → All (λ k. k ∷ [] ≡ inside_of (k ∷ []) lo hi) (passing_knots knots lo hi)
  unfolding passing_knots inside_of
  passing_alone lo hi = go (le lo hi)
    where
      go : (b : Bool) → All (λ k. k ∷ [] ≡ cond b (inside_upward (k ∷ []) lo hi) (inside_upward (k ∷ []) hi lo)) (cond b (passing_upward knots lo hi) (passing_upward knots hi lo))
      go true = upward_alone lo hi
      go false = upward_alone hi lo

-- a list in order, each of whose elements lies between the ends by itself
each_within : (a b : Float) (l : List Float) → All (λ k. Within Up a (k ∷ []) b) l → Pairwise Up l → Within Up a l b
each_within a b l h order = record { from = all_map (λ k w. only w.from) h; to = all_map (λ k w. only w.to) h; pairs = order }
  where
    only : {P : Float → Type 0} {k : Float} → All P (k ∷ []) → P k
    only (more p none) = p

each_between : (lo hi : Float) (l : List Float) → All (λ k. Between lo hi (k ∷ [])) l → Pairwise Up l → Between lo hi l
each_between lo hi l = go (lt hi lo)
  where
    go : (b : Bool) → All (λ k. cond b (Within Up hi (k ∷ []) lo) (Within Up lo (k ∷ []) hi)) l → Pairwise Up l → cond b (Within Up hi l lo) (Within Up lo l hi)
    go true = each_within hi lo l
    go false = each_within lo hi l

pub passing_between : (knots : List Float) → Pairwise Up knots → (lo hi : Float) → T (fits binary64 lo) → T (fits binary64 hi) → Modest lo → Modest hi → Between lo hi (passing_knots knots lo hi)
passing_between knots order lo hi F G L H =
    each_between lo hi (passing_knots knots lo hi)
    (all_map (λ k e. subst (λ (l : List Float). Between lo hi l) (sym e) (inside_between (k ∷ []) lo hi F G L H)) (passing_alone knots lo hi))
    (sub_pairwise (passing_sub knots lo hi) order)

-- ---- whole numbers
wholes_above : (j k n : ℕ) → j ≤ k → All (Up (count j)) (wholes k n)
unfolding wholes
wholes_above j k zero h = none
wholes_above j k (suc n) h = more (whole_le binary64 j k h) (wholes_above j (suc k) n (omega arith))

pub wholes_ascend : (k n : ℕ) → Pairwise Up (wholes k n)
unfolding wholes
wholes_ascend k zero = empty
wholes_ascend k (suc n) = first (wholes_above k (suc k) n (omega arith)) (wholes_ascend (suc k) n)

pub wholes_fit : (k n : ℕ) → All (λ x. T (fits binary64 x)) (wholes k n)
unfolding wholes
wholes_fit k zero = none
wholes_fit k (suc n) = more (of_int-fits binary64 (pos k)) (wholes_fit (suc k) n)

pub wholes_length : (k n : ℕ) → length (wholes k n) ≡ n
unfolding wholes
wholes_length k zero = refl
wholes_length k (suc n) = ap suc (wholes_length (suc k) n)
