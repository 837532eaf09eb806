-- Floats of magnitude at most 2 ^ 60: finite, with room to be doubled, and a difference of two is finite and has the sign of their order.
-- Assumes nothing.
use Prim.Native.Nat.{ℕ, ◌+◌, ◌*◌, ◌^◌, ◌≤◌, ◌<◌}
use native.Mathlib.Nat.{lt_of_lt_of_le, zero-mul, mul-pos, mul-one, mul-le-mul_right}
use native.Mathlib.Omega.{arith}
use mathlib.Core.Bool.{Bool, true, false}
use lib.IntN.{pos}
use lib.Dec.{T, lit≤}
use lib.Ieee.{Float, nan, inf, fin, binary64, sub, le, fits, add, mul}
use lib.Ieee.Scale.{finite}
use lib.Ieee.Positive.{den, den_pos}
use Rattle.arith_order.proofs.Signed.{plus, neg', le→, ring}
use Rattle.arith_order.proofs.Rounds.{sub_rounds, add_swap}
use Rattle.arith_order.proofs.Middle.{Room, zero_fits, above, under, between, half, middle_low, middle_high}
use Rattle.arith_order.proofs.Lerp.{zero_f, lerp, lerp_rises, lerp_falls}

-- ±2 ^ k
abbrev pub big : ℕ → Bool → Float
big k s = fin s 1 (pos k)

-- from -2 ^ 60 to 2 ^ 60
abbrev pub Modest : Float → Type 0
Modest x = T (le (big 60 true) x) × T (le x (big 60 false))

-- it is finite
pub modest_finite : (x : Float) → Modest x → T (finite x)
modest_finite x m = between (big 60 true) x (big 60 false) tt tt m.0 m.1

-- the two parts, each at most 2 ^ 60 denominators
modest_parts : (x : Float) → Modest x → (plus x ≤ 1152921504606846976 * den x + neg' x) × (neg' x ≤ 1152921504606846976 * den x + plus x)
modest_parts x m =
    let F = modest_finite x m in (
      omega (arith, le→ x (big 60 false) F tt m.1, zero-mul (den x), mul-one (plus x), mul-one (neg' x)),
      omega
          (arith, le→ (big 60 true) x tt F m.0, zero-mul (den x), mul-one (plus x), mul-one (neg' x)),
    )

-- one of the two is 0
one_part : (x : Float) → (plus x ≤ 1152921504606846976 * den x + neg' x) × (neg' x ≤ 1152921504606846976 * den x + plus x)
    → plus x + neg' x ≤ 1152921504606846976 * den x
one_part (fin true m e) h = omega arith
one_part (fin false m e) h = omega arith
one_part nan h = omega arith
one_part (inf s) h = omega arith

-- its double is finite
pub modest_room : (x : Float) → Modest x → Room binary64 x
modest_room x m = lt_of_lt_of_le (less (plus x + neg' x) (den x) (den_pos x) (one_part x (modest_parts x m))) (mul-le-mul_right (den x) (lit≤ tt))
  where
    less : (a d : ℕ) → 0 < d → a ≤ 1152921504606846976 * d → a * 2 < 4611686018427387904 * d
    less a d D h = omega arith

-- ---- hi - lo
both_fit : (s : Bool) → T (fits binary64 (big 62 s))
unfolding fits
both_fit s = tt

law : (ph nh dh pl nl dl : ℕ) → ph + nh ≤ 1152921504606846976 * dh → pl + nl ≤ 1152921504606846976 * dl
    → ph * dl + nl * dh ≤ 4611686018427387904 * (dh * dl)
law ph nh dh pl nl dl h k =
    let a = mul-le-mul_right dl h in
    let b = mul-le-mul_right dh k in
    simp ring (omega (arith, simp ring at a, simp ring at b))

-- a difference of two is finite
pub sub_finite : (hi lo : Float) → Modest hi → Modest lo → T (finite (sub binary64 hi lo))
sub_finite hi lo h l =
    let H = modest_finite hi h in
    let L = modest_finite lo l in
    let p = plus hi * den lo + neg' lo * den hi in
    let n = neg' hi * den lo + plus lo * den hi in
    let c = den hi * den lo in
    let C = mul-pos (den_pos hi) (den_pos lo) in
    let a = one_part hi (modest_parts hi h) in
    let b = one_part lo (modest_parts lo l) in
    let u = law (plus hi) (neg' hi) (den hi) (plus lo) (neg' lo) (den lo) a b in
    let v = law (neg' hi) (plus hi) (den hi) (neg' lo) (plus lo) (den lo) (omega arith) (omega arith) in
    between (big 62 true) (sub binary64 hi lo) (big 62 false) tt tt
    (above binary64 (big 62 true) (sub binary64 hi lo) p n c (both_fit true) tt (sub_rounds binary64 hi lo H L) C (wide n p c v))
    (under binary64 (big 62 false) (sub binary64 hi lo) p n c (both_fit false) tt (sub_rounds binary64 hi lo H L) C (wide' p n c u))
  where
    wide : (n p c : ℕ) → n ≤ 4611686018427387904 * c → 0 * c + n * 1 ≤ p * 1 + 4611686018427387904 * c
    wide n p c h = omega arith

    wide' : (p n c : ℕ) → p ≤ 4611686018427387904 * c → p * 1 + 0 * c ≤ 4611686018427387904 * c + n * 1
    wide' p n c h = omega arith

-- and not below zero from lo ≤ hi
pub sub_up : (hi lo : Float) → T (finite hi) → T (finite lo) → T (le lo hi) → T (le zero_f (sub binary64 hi lo))
sub_up hi lo H L h =
    above binary64 zero_f (sub binary64 hi lo) (plus hi * den lo + neg' lo * den hi) (neg' hi * den lo + plus lo * den hi) (den hi * den lo)
    (zero_fits binary64) tt (sub_rounds binary64 hi lo H L) (mul-pos (den_pos hi) (den_pos lo))
    (omega (arith, le→ lo hi L H h, zero-mul (den hi * den lo)))

-- and not above it from hi ≤ lo
pub sub_down : (hi lo : Float) → T (finite hi) → T (finite lo) → T (le hi lo) → T (le (sub binary64 hi lo) zero_f)
sub_down hi lo H L h =
    under binary64 zero_f (sub binary64 hi lo) (plus hi * den lo + neg' lo * den hi) (neg' hi * den lo + plus lo * den hi) (den hi * den lo)
    (zero_fits binary64) tt (sub_rounds binary64 hi lo H L) (mul-pos (den_pos hi) (den_pos lo))
    (omega (arith, le→ hi lo H L h, zero-mul (den hi * den lo)))

-- ---- the midpoint 0.5 * (a + b) lies between a and b where a ≤ b
pub middle : (a b : Float) → T (fits binary64 a) → T (fits binary64 b) → Modest a → Modest b → T (le a b)
    → T (le a (mul binary64 half (add binary64 a b))) × T (le (mul binary64 half (add binary64 a b)) b)
middle a b F G m k h =
    let A = modest_finite a m in
    let B = modest_finite b k in
    let r = modest_room a m in
    let t = modest_room b k in
    (middle_low binary64 a b F G A B r t h, middle_high binary64 a b F G A B r t h)

-- and between b and a where b ≤ a
pub middle_down : (a b : Float) → T (fits binary64 a) → T (fits binary64 b) → Modest a → Modest b → T (le b a)
    → T (le b (mul binary64 half (add binary64 a b))) × T (le (mul binary64 half (add binary64 a b)) a)
middle_down a b F G m k h = rw (add_swap binary64 a b (modest_finite a m) (modest_finite b k)) (middle b a G F k m h)

-- lo + (hi - lo) * (i / n) rises with i from lo ≤ hi, for n up to 2 ^ 53
pub rises : (lo hi : Float) (n i j : ℕ) → Modest lo → Modest hi → 0 < n → n ≤ 2 ^ 53 → i ≤ j → j ≤ n → T (le lo hi)
    → T (le (lerp binary64 lo hi i n) (lerp binary64 lo hi j n))
rises lo hi n i j l h np nb p q g = lerp_rises binary64 lo hi n i j (modest_finite lo l) (sub_finite hi lo h l) np nb p q
    (sub_up hi lo (modest_finite hi h) (modest_finite lo l) g)

-- and falls from hi ≤ lo
pub falls : (lo hi : Float) (n i j : ℕ) → Modest lo → Modest hi → 0 < n → n ≤ 2 ^ 53 → i ≤ j → j ≤ n → T (le hi lo)
    → T (le (lerp binary64 lo hi j n) (lerp binary64 lo hi i n))
falls lo hi n i j l h np nb p q g = lerp_falls binary64 lo hi n i j (modest_finite lo l) (sub_finite hi lo h l) np nb p q
    (sub_down hi lo (modest_finite hi h) (modest_finite lo l) g)
