-- What is sorted stands in order, and what stands in order is sorted. Assumes nothing.
use mathlib.Core.Path.{◌≡◌, refl, sym, ap, ◌∙◌}
use mathlib.Core.Bool.{Bool, true, false, cond}
use mathlib.Core.List.{List, [], ◌∷◌}
use Prim.Native.Nat.{suc, ◌+◌, ◌≤◌}
use native.Mathlib.Omega.{arith}
use lib.ListN.{length}
use lib.Ieee.{Float, lt, eq}
use Rattle.std.specs.Prelude.{Some, None}
use Rattle.std.specs.List.{IsAllAdjacentAnswer}
use Rattle.std.specs.Ordering.{is_le, is_some_and, partial_le, float_partial_cmp}
use Rattle.std.proofs.Common.{Less, Equal, Greater}
use Rattle.std.proofs.lemmas.Float.{le_of_lt, le_of_eq}
use Rattle.std.proofs.lemmas.Bool.{false≢true}
use Rattle.arith_order.proofs.Signed.{refuted, le_trans, lt→le, lt→nle, nlt→le}
use Rattle.base_lists.specs.All.{All, none, more}
use Rattle.base_lists.specs.Own.Sub.{Pairwise, empty, first}
use Rattle.base_lists.proofs.Joined.{all_map}
use Rattle.base_lists.specs.Own.Way.{Up}
use Rattle.knots_sort.specs.Own.Sortable.{Number}
use Rattle.knots_sort.specs.Sort.{inserted, sorted}
use Rattle.knots_sort.proofs.Merged.{put_all, sorted_all}

put_pairs : (x : Float) (l : List Float) → Number x → All Number l → Pairwise Up l → Pairwise Up (inserted x l)
unfolding inserted
put_pairs x [] X none empty = first none empty
put_pairs x (y ∷ l) X (more Y L) (first p h) = go (lt y x) refl (put_pairs x l X L h)
  where
    go : (b : Bool) → lt y x ≡ b → Pairwise Up (inserted x l) → Pairwise Up (cond b (y ∷ inserted x l) (x ∷ y ∷ l))
    go true e g = first (put_all x l (lt→le y x (rw e tt)) p) g
    go false e g = let q = nlt→le y x Y X (rw e tt) in first (more q (all_map (λ z r. le_trans x y z q r) p)) (first p h)

pub sorted_pairs : (l : List Float) → All Number l → Pairwise Up (sorted l)
unfolding sorted
sorted_pairs [] none = empty
sorted_pairs (x ∷ l) (more X L) = put_pairs x (sorted l) X (sorted_all l L) (sorted_pairs l L)

-- x before what is not below it
put_first : (x : Float) (l : List Float) → All (Up x) l → inserted x l ≡ x ∷ l
unfolding inserted
put_first x [] none = refl
put_first x (y ∷ l) (more p h) = rw (refuted (lt y x) (λ q. lt→nle y x q p))

pub sorted_same : (l : List Float) → Pairwise Up l → sorted l ≡ l
unfolding sorted
sorted_same [] empty = refl
sorted_same (x ∷ l) (first p h) = ap (inserted x) (sorted_same l h) ∙ put_first x l p

pub put_length : (x : Float) (l : List Float) → length (inserted x l) ≡ suc (length l)
unfolding inserted
put_length x [] = refl
put_length x (y ∷ l) = go (lt y x) (put_length x l)
  where
    go : (b : Bool) → length (inserted x l) ≡ suc (length l) → length (cond b (y ∷ inserted x l) (x ∷ y ∷ l)) ≡ suc (suc (length l))
    go true h = ap suc h
    go false h = refl

pub sorted_length : (l : List Float) → length (sorted l) ≡ length l
unfolding sorted
sorted_length [] = refl
sorted_length (x ∷ l) = put_length x (sorted l) ∙ ap suc (sorted_length l)

-- ---- what `is_sorted` of std tells
partial_up : (x y : Float) → partial_le float_partial_cmp x y ≡ true → Up x y
partial_up x y h = go (lt x y) (eq x y) (lt y x) refl refl h
  where
    go : (a b c : Bool) → lt x y ≡ a → eq x y ≡ b → is_some_and is_le (cond a (Some Less) (cond b (Some Equal) (cond c (Some Greater) None))) ≡ true → Up x y
    go true b c p q e = le_of_lt x y (rw p tt)
    go false true c p q e = le_of_eq x y (rw q tt)
    go false false true p q e = absurd (false≢true e)
    go false false false p q e = absurd (false≢true e)

-- the answer of `is_sorted`
abbrev pub Told : List Float → Bool → Type 0
Told l r = IsAllAdjacentAnswer (λ x y b. partial_le float_partial_cmp x y ≡ b) l r

-- at true each is at most the next, and so at most every later one
pub told_sorted : (l : List Float) (r : Bool) → Told l r → r ≡ true → l ≡ sorted l
told_sorted l r t e = sym (sorted_same l (pairs l (rw e at t)))
  where
    before_all : (x y : Float) (l : List Float) → Up x y → Pairwise Up (y ∷ l) → Pairwise Up (x ∷ y ∷ l)
    before_all x y l q (first p g) = first (more q (all_map (λ z r. le_trans x y z q r) p)) (first p g)

    pairs : (l : List Float) → Told l true → Pairwise Up l
    pairs [] h = empty
    pairs (x ∷ []) h = first none empty
    pairs (x ∷ y ∷ l) h =
        before_all x y l (partial_up x y (h 0 x (omega arith)))
        (pairs (y ∷ l) (λ k d p. let n : suc k + 1 ≡ suc (k + 1) = omega arith in let g = h (suc k) d (omega arith) in rw n at g))

-- at false there are two
pub told_two : (l : List Float) (r : Bool) → Told l r → r ≡ false → 2 ≤ length l
told_two l r t e = let h = rw e at t in omega (arith, h.1)
