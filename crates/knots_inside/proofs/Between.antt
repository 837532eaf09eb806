-- The breaks inside a range ascend between its ends, which is what sampling asks of them. Assumes nothing.
use mathlib.Core.Path.{◌≡◌, refl, subst}
use mathlib.Core.Bool.{Bool, true, false, cond, not}
use mathlib.Core.List.{List, []}
use Prim.Native.Nat.{◌≤◌}
use native.Mathlib.Omega.{arith}
use lib.Dec.{T}
use lib.Ieee.{Float, binary64, fits, mul, of_bits, lt, le}
use lib.Ieee.Scale.{finite}
use lib.Ieee.Fits.{sub-fits}
use Rattle.arith_order.proofs.Signed.{plus, neg', le_trans, lt→le, lt→nle, nlt→le, number_left}
use Rattle.arith_order.proofs.Mono.{add_grows, sub_shrinks, mul_mono_by}
use Rattle.arith_order.proofs.Lerp.{zero_f, one_f, part_finite}
use Rattle.arith_order.proofs.Modest.{big, Modest, modest_finite, sub_finite, sub_up}
use Rattle.arith.proofs.Cmp.{finite_number}
use Rattle.arith.specs.Notation.{◌⊕◌, ◌⊖◌, ◌⊗◌, plus_zero}
use Rattle.base_lists.specs.Own.Way.{Up}
use Rattle.base_lists.specs.All.{All}
use Rattle.base_lists.proofs.Order.{sub_all, sub_pairwise}
use Rattle.base_lists.proofs.Joined.{all_map, Within, within_none}
use Rattle.knots_sort.specs.Own.Sortable.{Number}
use Rattle.knots_sort.specs.Sort.{sorted}
use Rattle.knots_sort.proofs.Merged.{sorted_all}
use Rattle.knots_sort.proofs.Sorted.{sorted_pairs}
use Rattle.arith.specs.Constants.{billionth}
use Rattle.knots_inside.specs.Breaks.{retained_knots, deduped, inside_upward, inside_of}
use Rattle.knots_inside.proofs.Kept.{Strict, retained_all, deduped_sub}

-- ---- 1e-9, and the width of a range times it
record Small : Type 0 where
  pub finite_is : T (finite billionth)
  pub low : T (le zero_f billionth)
  pub high : T (le billionth one_f)
  pub plain : neg' billionth ≤ plus billionth
  pub of_zero : zero_f ⊗ billionth ≡ zero_f

small : Small
unfolding of_bits le mul
small = record { finite_is = tt; low = tt; high = tt; plain = omega arith; of_zero = refl }

epsilon_finite : (w : Float) → T (fits binary64 w) → T (finite w) → T (finite (w ⊗ billionth))
epsilon_finite w F W = part_finite binary64 w billionth F W small.finite_is small.low small.high

epsilon_up : (w : Float) → T (finite w) → T (le zero_f w) → T (le zero_f (w ⊗ billionth))
epsilon_up w W h = subst (λ (z : Float). T (le z (w ⊗ billionth))) small.of_zero (mul_mono_by binary64 zero_f w billionth tt W small.finite_is small.plain h)

-- ---- inside
-- a list that ascends between the smaller and the larger end of a range, which may run backwards
abbrev pub Between : Float → Float → List Float → Type 0
Between lo hi l = cond (lt hi lo) (Within Up hi l lo) (Within Up lo l hi)

module _ (knots : List Float) where
  ascends : (a b : Float) → T (fits binary64 a) → T (fits binary64 b) → Modest a → Modest b → T (le a b) → Within Up a (inside_upward knots a b) b
  unfolding inside_upward
  ascends a b F G A B h = go (lt plus_zero w)
    where
      w : Float
      w = b ⊖ a

      e : Float
      e = w ⊗ billionth

      W : T (finite w)
      W = sub_finite b a B A

      E : T (finite e)
      E = epsilon_finite w (sub-fits binary64 b a) W

      Z : T (le zero_f e)
      Z = epsilon_up w W (sub_up b a (modest_finite b B) (modest_finite a A) h)

      kept : List Float
      kept = retained_knots (a ⊕ e) (b ⊖ e) knots

      strict : All (Strict (a ⊕ e) (b ⊖ e)) kept
      strict = retained_all (a ⊕ e) (b ⊖ e) knots

      low : (k : Float) → Strict (a ⊕ e) (b ⊖ e) k → Up a k
      low k p = le_trans a (a ⊕ e) k (add_grows binary64 a e F (modest_finite a A) E Z) (lt→le (a ⊕ e) k p.over)

      high : (k : Float) → Strict (a ⊕ e) (b ⊖ e) k → Up k b
      high k p = le_trans k (b ⊖ e) b (lt→le k (b ⊖ e) p.under) (sub_shrinks binary64 b e G (modest_finite b B) E Z)

      all : Within Up a (sorted kept) b
      all = record {
        from = sorted_all kept (all_map low strict);
        to = sorted_all kept (all_map high strict);
        pairs = sorted_pairs kept (all_map (λ k p. finite_number k p.is_finite) strict);
      }

      go : (t : Bool) → Within Up a (cond t (deduped e (sorted kept)) []) b
      go true = let s = deduped_sub e (sorted kept) in record { from = sub_all s all.from; to = sub_all s all.to; pairs = sub_pairwise s all.pairs }
      go false = within_none Up le_trans a b

  -- what sampling asks of the breaks of a range whose ends are modest
  pub inside_between : (lo hi : Float) → T (fits binary64 lo) → T (fits binary64 hi) → Modest lo → Modest hi → Between lo hi (inside_of knots lo hi)
  unfolding inside_of
  inside_between lo hi F G L H = go (lt hi lo) (le lo hi) (λ h. h) (λ h. h) (λ p q. lt→nle hi lo p q) (λ p. nlt→le hi lo (num hi H) (num lo L) p)
    where
      num : (x : Float) → Modest x → Number x
      num x X = number_left x (big 60 false) X.1

      go : (t u : Bool) → (T t → T (lt hi lo)) → (T u → T (le lo hi)) → (T t → T u → ⊥) → (T (not t) → T u)
          → cond t (Within Up hi (cond u (inside_upward knots lo hi) (inside_upward knots hi lo)) lo) (Within Up lo (cond u (inside_upward knots lo hi) (inside_upward knots hi lo)) hi)
      go true true p q r s = absurd (r tt tt)
      go true false p q r s = ascends hi lo G F H L (lt→le hi lo (p tt))
      go false true p q r s = ascends lo hi F G L H (q tt)
      go false false p q r s = absurd (s tt)
