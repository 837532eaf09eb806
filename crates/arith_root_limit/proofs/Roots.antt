-- Comparisons of roots that are decided by what stands under them. Assumes nothing.
use mathlib.Core.Path.{◌≡◌, refl, sym, subst}
use mathlib.Core.Bool.{Bool, true, false}
use lib.Dec.{T}
use lib.Ieee.{Float, nan, binary64, of_bits, fits, lt, le, mul}
use lib.Ieee.Bits.{is_true}
use lib.Ieee.Fits.{mul-fits}
use Rattle.arith_order.proofs.Signed.{zero_f}
use Rattle.arith_order.proofs.Laws.{refuted, number_left, number_right, le_trans, lt→le, lt→nle, le_lt_trans, lt_le_trans}
use Rattle.arith.proofs.Cmp.{holds}
use Rattle.arith.specs.Notation.{◌⊗◌, bits, plus_zero}
use Rattle.arith_root.specs.Root.{root_of}
use Rattle.arith_root.proofs.Laws.{root_zero, rooted, root_over, root_reflects}
use Rattle.arith_root.proofs.Squares.{square_low, root_under_square, root_over_square}
use Rattle.arith_root.proofs.Apart.{apart}
use Rattle.arith_root_limit.specs.Own.Limit.{cut_if, square_if, a_little_more, just_less, just_more, low_cut, high_cut, Stands}

-- a test of a root, and of what it is
pub root_at_most : {d e : Float} (limit : Float) → d ≡ e → le d limit ≡ true → le e limit ≡ true
root_at_most limit q h = rw (sym q) h

pub root_beyond : {d e : Float} (limit : Float) → d ≡ e → lt limit d ≡ true → lt limit e ≡ true
root_beyond limit q h = rw (sym q) h

pub of_roots : {d e : Float} (s b : Float) → d ≡ root_of s → e ≡ root_of b → lt d e ≡ lt (root_of s) (root_of b)
of_roots s b p q = rw (p, q)

module _ (s cut limit : Float) (F : T (fits binary64 s)) (G : T (fits binary64 cut)) where
  pub not_above : le (root_of cut) limit ≡ true → le s cut ≡ true → false ≡ lt limit (root_of s)
  not_above h k = sym (refuted (lt limit (root_of s)) (λ (t : T (lt limit (root_of s))).
      lt→nle cut s (root_reflects cut s G F (le_lt_trans (root_of cut) limit (root_of s) (holds h) t)) (holds k)))

  pub over : lt limit (root_of cut) ≡ true → le cut s ≡ true → true ≡ lt limit (root_of s)
  over h k = sym (is_true (lt limit (root_of s)) (root_over s cut limit F G (holds h) (holds k)))

  pub not_within : lt limit (root_of cut) ≡ true → le cut s ≡ true → false ≡ le (root_of s) limit
  not_within h k = sym (refuted (le (root_of s) limit) (lt→nle limit (root_of s) (root_over s cut limit F G (holds h) (holds k))))

-- where s is not below b, neither is its root
pub root_not_below : (s b : Float) → T (fits binary64 s) → T (fits binary64 b) → lt s b ≡ false → lt (root_of s) (root_of b) ≡ false
root_not_below s b F G h = refuted (lt (root_of s) (root_of b)) (λ (t : T (lt (root_of s) (root_of b))). subst T h (root_reflects s b F G t))

-- where s is above zero, and a millionth more is below b, so is its root
pub surely_below : (s b : Float) → T (fits binary64 s) → T (fits binary64 b) → lt s b ≡ true → lt plus_zero s ≡ true → lt (s ⊗ a_little_more) b ≡ true → true ≡ lt (root_of s) (root_of b)
unfolding of_bits
surely_below s b F G h p k = sym (is_true (lt (root_of s) (root_of b)) (apart s b F G (holds p) (holds h) (holds k)))

zero_low : (s : Float) → le plus_zero s ≡ true → T (le zero_f s)
unfolding of_bits
zero_low s h = holds h

-- ---- a square as a cut: what lies beyond it, and that it serves
module _ (k s : Float) (F : T (fits binary64 k)) (G : T (fits binary64 s)) where
  pub below_square : (b : Bool) → T (le zero_f s) → T (lt s (square_if b k)) → (b ≡ true) × T (le (root_of s) k)
  unfolding of_bits
  below_square b p = go (lt plus_zero k) b refl
    where
      go : (a b : Bool) → lt plus_zero k ≡ a → T (lt s (cut_if a (cut_if b (k ⊗ k)))) → (b ≡ true) × T (le (root_of s) k)
      go true true e h = (refl, root_under_square k s F G (holds e) p h)
      go true false e h = absurd (number_right s nan (lt→le s nan h))
      go false b e h = absurd (number_right s nan (lt→le s nan h))

  pub above_square : (b : Bool) → T (lt (square_if b k) s) → (b ≡ true) × T (lt zero_f k) × T (lt zero_f s) × T (le k (root_of s))
  unfolding of_bits
  above_square b = go (lt plus_zero k) b refl
    where
      go : (a b : Bool) → lt plus_zero k ≡ a → T (lt (cut_if a (cut_if b (k ⊗ k))) s)
          → (b ≡ true) × T (lt zero_f k) × T (lt zero_f s) × T (le k (root_of s))
      go true true e h = (refl, holds e, le_lt_trans zero_f (k ⊗ k) s (square_low k F (holds e)) h, root_over_square k s F G (holds e) h)
      go true false e h = absurd (number_left nan s (lt→le nan s h))
      go false b e h = absurd (number_left nan s (lt→le nan s h))

-- a root is above zero where what stands under it is
pub root_above_zero : (s : Float) → T (fits binary64 s) → lt plus_zero (root_of s) ≡ lt plus_zero s
unfolding of_bits fits lt mul
root_above_zero s F = go (lt plus_zero s) refl
  where
    -- its square is zero
    tiny : Float
    tiny = bits 0x0010000000000000

    go : (b : Bool) → lt plus_zero s ≡ b → lt plus_zero (root_of s) ≡ b
    go true e = let t = above_square tiny s tt F true (holds e) in is_true (lt plus_zero (root_of s)) (lt_le_trans plus_zero tiny (root_of s) tt t.3)
    go false e = refuted (lt plus_zero (root_of s)) (λ (t : T (lt plus_zero (root_of s))). subst T e (root_reflects plus_zero s tt F (rw root_zero t)))

-- a limit's cuts stand
pub stands : (at : Float) → Stands at
unfolding low_cut high_cut
stands at = record {
  low_stands = λ (s : Float) (G : T (fits binary64 s)) (z : le plus_zero s ≡ true) (h : lt s (low_cut at) ≡ true).
      let k = at ⊗ just_less in
      let t = below_square k s (mul-fits binary64 at just_less) G (le k at) (zero_low s z) (holds h) in
      is_true (le (root_of s) at) (le_trans (root_of s) k at t.1 (holds t.0));
  high_stands = λ (s : Float) (G : T (fits binary64 s)) (h : lt (high_cut at) s ≡ true).
      let k = at ⊗ just_more in
      let t = above_square k s (mul-fits binary64 at just_more) G (lt at k) (holds h) in
      is_true (lt at (root_of s)) (lt_le_trans at k (root_of s) (holds t.0) t.3);
}

-- so what is below the low cut has no root above the limit, also where it is below zero and has none
pub low_not_above : (at s : Float) → T (fits binary64 s) → lt s (low_cut at) ≡ true → false ≡ lt at (root_of s)
unfolding of_bits
low_not_above at s F h = sym (refuted (lt at (root_of s)) (λ (t : T (lt at (root_of s))).
    let z = rooted s (number_right at (root_of s) (lt→le at (root_of s) t)) in
    lt→nle at (root_of s) t (holds ((stands at).low_stands s F (is_true (le plus_zero s) z) h))))

-- and what is above the high one none within it
pub high_not_within : (at s : Float) → T (fits binary64 s) → lt (high_cut at) s ≡ true → false ≡ le (root_of s) at
high_not_within at s F h = sym (refuted (le (root_of s) at) (lt→nle at (root_of s) (holds ((stands at).high_stands s F h))))

-- what is below the low cut has a root within the limit where it has one
pub low_within : (at s : Float) → T (fits binary64 s) → lt s (low_cut at) ≡ true → le plus_zero s ≡ le (root_of s) at
unfolding of_bits
low_within at s F h = go (le (root_of s) at) refl
  where
    go : (t : Bool) → le (root_of s) at ≡ t → le plus_zero s ≡ t
    go true e = is_true (le plus_zero s) (rooted s (number_left (root_of s) at (holds e)))
    go false e = refuted (le plus_zero s) (λ (z : T (le plus_zero s)).
        subst T e (holds ((stands at).low_stands s F (is_true (le plus_zero s) z) h)))
