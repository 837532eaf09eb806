-- What `retained_knots`, `passing_knots`, `deduped` and so `inside_of` leave of a list: what holds of each knot holds of each break. Assumes nothing.
use mathlib.Core.Path.{◌≡◌, refl, sym, subst}
use mathlib.Core.Bool.{Bool, true, false, cond, ◌&&◌}
use mathlib.Core.List.{List, [], ◌∷◌}
use lib.Dec.{T}
use lib.Ieee.{Float, lt, le}
use lib.Ieee.Scale.{finite}
use lib.Ieee.Fits.{and_l, and_r}
use Rattle.arith.specs.Notation.{◌⊕◌, ◌⊖◌, ◌⊗◌, plus_zero}
use Rattle.base_lists.specs.All.{All, none, more}
use Rattle.base_lists.specs.Own.Sub.{Sub, end, keep, skip}
use Rattle.std.specs.Prelude.{filter}
use Rattle.arith.proofs.Cmp.{finite_number}
use Rattle.base_lists.proofs.Order.{sub_all}
use Rattle.base_lists.proofs.Joined.{all_map}
use Rattle.knots_sort.specs.Sort.{sorted}
use Rattle.knots_sort.proofs.Merged.{sorted_all}
use Rattle.arith.specs.Constants.{billionth}
use Rattle.knots_sort.specs.Own.Sortable.{Number}
use Rattle.knots_inside.specs.Breaks.{is_strict, retained_knots, is_near, apart, deduped, passing_upward, passing_knots, inside_upward, inside_of, InsidePassing}

-- ---- retain
pub record Strict (above below k : Float) : Type 0 where
  pub is_finite : T (finite k)
  pub over : T (lt above k)
  pub under : T (lt k below)

pub retained_all : (above below : Float) (l : List Float) → All (Strict above below) (retained_knots above below l)
unfolding retained_knots
retained_all above below [] = none
retained_all above below (k ∷ l) = go (is_strict above below k) (λ h. h) (retained_all above below l)
  where
    go : (b : Bool) → (T b → T (is_strict above below k)) → All (Strict above below) (retained_knots above below l)
        → All (Strict above below) (cond b (k ∷ retained_knots above below l) (retained_knots above below l))
    go true f h =
        let r = and_r (finite k) (lt above k && lt k below) (f tt) in
        more (record { is_finite = and_l (finite k) (lt above k && lt k below) (f tt); over = and_l (lt above k) (lt k below) r; under = and_r (lt above k) (lt k below) r }) h
    go false f h = h

filter_sub : {A : Type 0} (p : A → Bool) (l : List A) → Sub (filter p l) l
filter_sub p [] = end
filter_sub {A} p (k ∷ l) = go (p k) (filter_sub p l)
  where
    go : (b : Bool) → Sub (filter p l) l → Sub (cond b (k ∷ filter p l) (filter p l)) (k ∷ l)
    go true h = keep h
    go false h = skip h

pub retained_sub : (above below : Float) (l : List Float) → Sub (retained_knots above below l) l
unfolding retained_knots
retained_sub above below l = filter_sub (is_strict above below) l

-- ---- what passes
none_sub : (l : List Float) → Sub [] l
none_sub [] = end
none_sub (k ∷ l) = skip (none_sub l)

module _ (knots : List Float) where
  upward_sub : (lo hi : Float) → Sub (passing_upward knots lo hi) knots
  unfolding passing_upward
  upward_sub lo hi = go (lt plus_zero (hi ⊖ lo))
    where
      epsilon : Float
      epsilon = (hi ⊖ lo) ⊗ billionth

      go : (b : Bool) → Sub (cond b (retained_knots (lo ⊕ epsilon) (hi ⊖ epsilon) knots) []) knots
      go true = retained_sub (lo ⊕ epsilon) (hi ⊖ epsilon) knots
      go false = none_sub knots

  pub passing_sub : (lo hi : Float) → Sub (passing_knots knots lo hi) knots
  unfolding passing_knots
  passing_sub lo hi = go (le lo hi)
    where
      go : (b : Bool) → Sub (cond b (passing_upward knots lo hi) (passing_upward knots hi lo)) knots
      go true = upward_sub lo hi
      go false = upward_sub hi lo

-- what passes is finite, so that it can be sorted
pub passing_numbers : (knots : List Float) (lo hi : Float) → All Number (passing_upward knots lo hi)
unfolding passing_upward
passing_numbers knots lo hi = go (lt plus_zero (hi ⊖ lo))
  where
    epsilon : Float
    epsilon = (hi ⊖ lo) ⊗ billionth

    go : (b : Bool) → All Number (cond b (retained_knots (lo ⊕ epsilon) (hi ⊖ epsilon) knots) [])
    go true = all_map (λ x p. finite_number x p.is_finite) (retained_all (lo ⊕ epsilon) (hi ⊖ epsilon) knots)
    go false = none

-- ---- dedup
apart_sub : (epsilon last : Float) (l : List Float) → Sub (apart epsilon last l) l
unfolding apart
apart_sub epsilon last [] = end
apart_sub epsilon last (k ∷ l) = go (is_near epsilon k last) (apart_sub epsilon last l) (apart_sub epsilon k l)
  where
    go : (b : Bool) → Sub (apart epsilon last l) l → Sub (apart epsilon k l) l → Sub (elim b [ true ↦ apart epsilon last l | false ↦ k ∷ apart epsilon k l ]) (k ∷ l)
    go true u v = skip u
    go false u v = keep v

pub deduped_sub : (epsilon : Float) (l : List Float) → Sub (deduped epsilon l) l
unfolding deduped
deduped_sub epsilon [] = end
deduped_sub epsilon (k ∷ l) = keep (apart_sub epsilon k l)

-- ---- inside
pub inside_passing : InsidePassing
unfolding passing_upward inside_upward sorted deduped
inside_passing knots lo hi = go (lt plus_zero (hi ⊖ lo))
  where
    epsilon : Float
    epsilon = (hi ⊖ lo) ⊗ billionth

    kept : List Float
    kept = retained_knots (lo ⊕ epsilon) (hi ⊖ epsilon) knots

    go : (b : Bool) → cond b (deduped epsilon (sorted kept)) [] ≡ deduped epsilon (sorted (cond b kept []))
    go true = refl
    go false = refl

module _ {P : Float → Type 0} (knots : List Float) (h : All P knots) where
  between_all : (lo hi : Float) → All P (inside_upward knots lo hi)
  between_all lo hi =
      subst (All P) (sym (inside_passing knots lo hi))
      (sub_all (deduped_sub ((hi ⊖ lo) ⊗ billionth) (sorted (passing_upward knots lo hi))) (sorted_all (passing_upward knots lo hi) (sub_all (upward_sub knots lo hi) h)))

  pub inside_all : (lo hi : Float) → All P (inside_of knots lo hi)
  unfolding inside_of
  inside_all lo hi = go (le lo hi)
    where
      go : (b : Bool) → All P (cond b (inside_upward knots lo hi) (inside_upward knots hi lo))
      go true = between_all lo hi
      go false = between_all hi lo
