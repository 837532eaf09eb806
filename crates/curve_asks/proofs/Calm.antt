-- A range that is calm leads no part of a segment to a parameter that is too far. Assumes nothing.
use mathlib.Core.Path.{◌≡◌, refl}
use mathlib.Core.Bool.{Bool, true, false, ◌&&◌}
use mathlib.Core.Logic.{inl, inr}
use Prim.Native.Nat.{ℕ, ◌+◌, ◌*◌, ◌≤◌}
use native.Mathlib.Nat.{zero-mul, mul-zero, mul-pos, mul-le-mul_right}
use native.Mathlib.Omega.{arith}
use lib.Dec.{T}
use lib.Ieee.{Float, nan, inf, fin, binary64, of_bits, of_int, fits, neg, add, sub, mul, le, lt}
use lib.Ieee.Fits.{and_l, and_r, sub-fits}
use lib.Ieee.Scale.{finite}
use lib.Ieee.Positive.{den, den_pos}
use Rattle.arith_order.proofs.Signed.{zero_f, one_f, plus, neg', le→, no_sign, ring}
use Rattle.arith_order.proofs.Rounds.{add_rounds, mul_rounds}
use Rattle.arith_order.proofs.Middle.{zero_fits, above, under}
use Rattle.arith_order.proofs.Lerp.{part_finite}
use Rattle.arith_order.proofs.Modest.{big}
use Rattle.arith_order.proofs.Laws.{number_right, le_refl, le_trans, le_total, lt→nle, refuted, between, add_mono_right, sub_shrinks, mul_mono_right, mul_turns_right, Modest, modest_finite, sub_finite, sub_up, sub_down}
use Rattle.arith.specs.Notation.{one}
use Rattle.arith.proofs.Cmp.{holds}
use Rattle.math.specs.declared.Interval.{Interval}
use Rattle.math.specs.Math.{at}
use Rattle.curve_parameter.specs.Run.{own_parameter}
use Rattle.curve_parameter.proofs.Taken.{Part}
use Rattle.curve_asks.specs.Asks.{farthest, is_far}
use Rattle.curve_asks.specs.Own.Risk.{in_reach, is_calm}

-- ---- a number that is near is not far
abbrev pub Near : Float → Type 0
Near u = T (le (neg farthest) u) × T (le u farthest)

pub near : (u : Float) → T (in_reach u) → Near u
near u h = (and_l (le (neg farthest) u) (le u farthest) h, and_r (le (neg farthest) u) (le u farthest) h)

pub not_far : (u : Float) → Near u → is_far u ≡ false
unfolding is_far
not_far u h =
    rw (
      refuted (lt farthest u) (λ (l : T (lt farthest u)). lt→nle farthest u l h.1),
      refuted (lt u (neg farthest)) (λ (l : T (lt u (neg farthest))). lt→nle u (neg farthest) l h.0),
    )

nan_not_far : is_far nan ≡ false
unfolding is_far lt neg of_int
nan_not_far = refl

pub near_modest : (u : Float) → Near u → Modest u
unfolding neg of_int le
near_modest u h = (le_trans (big 60 true) (neg farthest) u tt h.0, le_trans u farthest (big 60 false) h.1 tt)

-- ---- a sum with what is not below zero stays at or above a float that the other part is at or above, and the other way round
over_law : (pa na da pl nl dl px nx dx : ℕ) → pa * dl + nl * da ≤ pl * da + na * dl → nx ≤ px
    → pa * (dl * dx) + (nl * dx + nx * dl) * da ≤ (pl * dx + px * dl) * da + na * (dl * dx)
over_law pa na da pl nl dl px nx dx h k =
    let a = mul-le-mul_right dx h in
    let b = mul-le-mul_right (dl * da) k in
    simp ring (omega (arith, simp ring at a, simp ring at b))

module _ (a lo x : Float) (F : T (fits binary64 a)) (A : T (finite a)) (L : T (finite lo)) (X : T (finite x)) where
  add_over : T (le a lo) → T (le zero_f x) → T (le a (add binary64 lo x))
  add_over h k =
      above binary64 a (add binary64 lo x) (plus lo * den x + plus x * den lo) (neg' lo * den x + neg' x * den lo) (den lo * den x) F A
      (add_rounds binary64 lo x L X) (mul-pos (den_pos lo) (den_pos x))
      (over_law (plus a) (neg' a) (den a) (plus lo) (neg' lo) (den lo) (plus x) (neg' x) (den x) (le→ a lo A L h)
      (omega (arith, le→ zero_f x tt X k, zero-mul (den x))))

  add_under : T (le lo a) → T (le x zero_f) → T (le (add binary64 lo x) a)
  add_under h k =
      under binary64 a (add binary64 lo x) (plus lo * den x + plus x * den lo) (neg' lo * den x + neg' x * den lo) (den lo * den x) F A
      (add_rounds binary64 lo x L X) (mul-pos (den_pos lo) (den_pos x))
      (omega (
        arith,
        over_law (neg' a) (plus a) (den a) (neg' lo) (plus lo) (den lo) (neg' x) (plus x) (den x) (omega (arith, le→ lo a L A h))
            (omega (arith, le→ x zero_f X tt k, zero-mul (den x))),
      ))

-- ---- a product with what is not below zero has the sign of the other factor
module _ (d q : Float) (D : T (finite d)) (Q : T (finite q)) (low : T (le zero_f q)) where
  sign_law : (pd nd pq c : ℕ) → nd ≤ pd → 0 * c + (pd * 0 + nd * pq) * 1 ≤ (pd * pq + nd * 0) * 1 + 0 * c
  sign_law pd nd pq c h = let k = mul-le-mul_right pq h in omega (arith, zero-mul c, mul-zero pd, mul-zero nd)

  mul_over : T (le zero_f d) → T (le zero_f (mul binary64 d q))
  mul_over h =
      above binary64 zero_f (mul binary64 d q) (plus d * plus q + neg' d * neg' q) (plus d * neg' q + neg' d * plus q) (den d * den q)
      (zero_fits binary64) tt (mul_rounds binary64 d q D Q) (mul-pos (den_pos d) (den_pos q))
      (rw (no_sign q Q low) (sign_law (plus d) (neg' d) (plus q) (den d * den q) (omega (arith, le→ zero_f d tt D h, zero-mul (den d)))))

  mul_under : T (le d zero_f) → T (le (mul binary64 d q) zero_f)
  mul_under h =
      under binary64 zero_f (mul binary64 d q) (plus d * plus q + neg' d * neg' q) (plus d * neg' q + neg' d * plus q) (den d * den q)
      (zero_fits binary64) tt (mul_rounds binary64 d q D Q) (mul-pos (den_pos d) (den_pos q))
      (rw (no_sign q Q low) (turned (plus d) (neg' d) (plus q) (den d * den q) (omega (arith, le→ d zero_f D tt h, zero-mul (den d)))))
    where
      turned : (pd nd pq c : ℕ) → pd ≤ nd → (pd * pq + nd * 0) * 1 + 0 * c ≤ 0 * c + (pd * 0 + nd * pq) * 1
      turned pd nd pq c h = let k = mul-le-mul_right pq h in omega (arith, zero-mul c, mul-zero pd, mul-zero nd)

-- ---- from lo towards hi
farthest_fits : (T (fits binary64 (neg farthest)) × T (finite (neg farthest))) × (T (fits binary64 farthest) × T (finite farthest))
unfolding fits neg of_int
farthest_fits = ((tt, tt), (tt, tt))

module _ (lo hi q : Float) (l : Near lo) (h : Near hi) (e : Near (add binary64 lo (mul binary64 (sub binary64 hi lo) one_f)))
    (low : T (le zero_f q)) (high : T (le q one_f)) where
  L : T (finite lo)
  L = modest_finite lo (near_modest lo l)

  H : T (finite hi)
  H = modest_finite hi (near_modest hi h)

  D : T (finite (sub binary64 hi lo))
  D = sub_finite hi lo (near_modest hi h) (near_modest lo l)

  Q : T (finite q)
  Q = between zero_f q one_f tt tt low high

  X : T (finite (mul binary64 (sub binary64 hi lo) q))
  X = part_finite binary64 (sub binary64 hi lo) q (sub-fits binary64 hi lo) D Q low high

  «E» : T (finite (mul binary64 (sub binary64 hi lo) one_f))
  «E» = part_finite binary64 (sub binary64 hi lo) one_f (sub-fits binary64 hi lo) D tt between_ends.0 between_ends.1
    where
      between_ends : T (le zero_f one_f) × T (le one_f one_f)
      between_ends = (le_trans zero_f q one_f low high, le_refl one_f tt)

  on_the_way : Near (add binary64 lo (mul binary64 (sub binary64 hi lo) q))
  on_the_way = elim (le_total lo hi (number_right (neg farthest) lo l.0) (number_right (neg farthest) hi h.0)) [ inl g ↦ rises g | inr g ↦ falls g ]
    where
      rises : T (le lo hi) → Near (add binary64 lo (mul binary64 (sub binary64 hi lo) q))
      rises g =
          let d = sub binary64 hi lo in
          let p = sub_up hi lo H L g in (
            add_over (neg farthest) lo (mul binary64 d q) farthest_fits.0.0 farthest_fits.0.1 L X l.0 (mul_over d q D Q low p),
            le_trans (add binary64 lo (mul binary64 d q)) (add binary64 lo (mul binary64 d one_f)) farthest
                (add_mono_right binary64 (mul binary64 d q) (mul binary64 d one_f) lo X «E» L (mul_mono_right binary64 q one_f d Q tt D p high)) e.1,
          )

      falls : T (le hi lo) → Near (add binary64 lo (mul binary64 (sub binary64 hi lo) q))
      falls g =
          let d = sub binary64 hi lo in
          let p = sub_down hi lo H L g in (
            le_trans (neg farthest) (add binary64 lo (mul binary64 d one_f)) (add binary64 lo (mul binary64 d q)) e.0
                (add_mono_right binary64 (mul binary64 d one_f) (mul binary64 d q) lo «E» X L (mul_turns_right binary64 q one_f d Q tt D p high)),
            add_under farthest lo (mul binary64 d q) farthest_fits.1.0 farthest_fits.1.1 L X l.1 (mul_under d q D Q low p),
          )

-- ---- THE LAW of calm ranges: a part of the way, a NaN or from 0 to 1, is not too far
ends : (range : Interval) → is_calm range ≡ true
    → Near range.lo × Near range.hi × Near (add binary64 range.lo (mul binary64 (sub binary64 range.hi range.lo) one_f))
unfolding is_calm at of_bits
ends range c =
    let a = in_reach range.lo in
    let b = in_reach range.hi in
    let d = in_reach (at range one) in
    let h = holds c in
    let k = and_r a (b && d) h in
    (near range.lo (and_l a (b && d) h), near range.hi (and_l b d k), near (at range one) (and_r b d k))

calm_at : (range : Interval) → is_calm range ≡ true → (q : Float) → T (le zero_f q) → T (le q one_f) → is_far (at range q) ≡ false
unfolding at
calm_at range c q low high =
    let e = ends range c in
    not_far (add binary64 range.lo (mul binary64 (sub binary64 range.hi range.lo) q)) (on_the_way range.lo range.hi q e.0 e.1 e.2 low high)

mul_nan : (x : Float) → mul binary64 x nan ≡ nan
unfolding mul
mul_nan nan = refl
mul_nan (inf s) = refl
mul_nan (fin s m e) = refl

add_nan : (x : Float) → add binary64 x nan ≡ nan
unfolding add
add_nan nan = refl
add_nan (inf s) = refl
add_nan (fin s m e) = refl

pub calm_part : (range : Interval) → is_calm range ≡ true → (q : Float) → Part q → is_far (at range q) ≡ false
unfolding at
calm_part range c nan p = rw (mul_nan (sub binary64 range.hi range.lo), add_nan range.lo) nan_not_far
calm_part range c (inf s) p = calm_at range c (inf s) (p tt).0 (p tt).1
calm_part range c (fin s m e) p = calm_at range c (fin s m e) (p tt).0 (p tt).1

-- what is left of a part is one
left_of : (q : Float) → T (le zero_f q) → T (le q one_f) → T (le zero_f (sub binary64 one_f q)) × T (le (sub binary64 one_f q) one_f)
unfolding fits
left_of q low high =
    let Q = between zero_f q one_f tt tt low high in
    (sub_up one_f q tt Q high, sub_shrinks binary64 one_f q tt tt Q low)

left_part : (q : Float) → Part q → Part (sub binary64 one q)
unfolding of_bits sub add neg
left_part nan p h = absurd h
left_part (inf s) p h = left_of (inf s) (p tt).0 (p tt).1
left_part (fin s m e) p h = left_of (fin s m e) (p tt).0 (p tt).1

pub calm_own : (range : Interval) → is_calm range ≡ true → (same : Bool) (q : Float) → Part q → is_far (own_parameter range same q) ≡ false
unfolding own_parameter
calm_own range c true q p = calm_part range c q p
calm_own range c false q p = calm_part range c (sub binary64 one q) (left_part q p)
