-- Two roots are told apart by what stands under them: where that differs by one part in a million, the roots differ. Assumes nothing.
use Rattle.std.proofs.Common.{ℕ, ◌+◌, ◌*◌, ◌^◌, ◌<◌, ◌≤◌, true, false, T, refl, add-mul, mul-le-mul, lt_of_mul-lt-mul_right, mul-pos, lt_of_not-le, mul_right_comm, le_of_mul-le-mul_right, arith, lit<, pow_pos}
use lib.Ieee.{Float, nan, inf, fin, binary64, of_fields, of_bits, odd, fits, mul, lt, le}
use lib.Ieee.Exact.{HasValue}
use lib.Ieee.Positive.{positive, positive-finite, positive_of_value, values_of_le, mul_at}
use Rattle.arith_order.proofs.Signed.{zero_f}
use Rattle.arith_order.proofs.Rounds.{Rounds}
use Rattle.arith_order.proofs.Middle as middle
use Rattle.arith_order.proofs.Laws.{lt→le, lt→nle, nle→lt, lt_le_trans}
use Rattle.arith_root.specs.Root.{root_of}
use Rattle.arith_root.specs.Ieee.{Units}
use Rattle.arith_root.proofs.Laws.{units_number, units_below}
use Rattle.arith_root.proofs.Cases.{positive_above}
use Rattle.arith_root.proofs.Close.{close_root}
use Rattle.arith_root.proofs.Squares.{at_most}

-- ---- roots of a and of b units, for n and m of them: where b is at most a, m is above n by about two parts in 2 ^ 52 at most
near : (n m a b U : ℕ) → 0 < U → b ≤ a → m * U * 2 ^ 52 ≤ b * b * (2 ^ 52 + 1) → a * a * 2 ^ 52 < n * U * 2 ^ 52 + a * a
    → m * 2 ^ 52 < n * 2 ^ 52 + n + m
near n m a b U p h k l =
    let s : b * b ≤ a * a = mul-le-mul h h in
    let g : m * U * 2 ^ 52 < n * U * 2 ^ 52 + n * U + m * U = omega arith in
    lt_of_mul-lt-mul_right U (rw (add-mul (n * 2 ^ 52 + n) m U, add-mul (n * 2 ^ 52) n U, mul_right_comm m (2 ^ 52) U, mul_right_comm n (2 ^ 52) U) g)

-- ---- 1.000001, and a product with it that is below y
abbrev pub little : Float
little = of_bits binary64 0x3FF000010C6F7A0B

little_value : HasValue little false 0x1000010C6F7A0B (2 ^ 52)
unfolding of_bits of_fields odd
little_value = (refl, refl)

-- the product is n * 1.000001, rounded; rounding keeps the order, so a y above the product is above that
module _ (x y : Float) (n m : ℕ) (G : T (fits binary64 y)) (p : T (positive x)) (q : T (positive y)) (u : Units x n) (v : Units y m) where
  rounded : Rounds binary64 (mul binary64 x little) (n * 0x1000010C6F7A0B) 0 (2 ^ 1074 * 2 ^ 52)
  rounded = (
    false,
    n * 0x1000010C6F7A0B,
    mul_at binary64 x little n (2 ^ 1074) 0x1000010C6F7A0B (2 ^ 52) p (positive_of_value little 0x1000010C6F7A0B (2 ^ 52) little_value (lit< tt)) (pow_pos 1074) (pow_pos 52) u little_value,
    refl,
  )

  under_product : T (lt (mul binary64 x little) y) → n * 0x1000010C6F7A0B < m * 2 ^ 52
  under_product h = lt_of_not-le (λ (k : m * 2 ^ 52 ≤ n * 0x1000010C6F7A0B).
      lt→nle (mul binary64 x little) y h
      (middle.above binary64 y (mul binary64 x little) (n * 0x1000010C6F7A0B) 0 (2 ^ 1074 * 2 ^ 52) G (positive-finite y q) rounded (mul-pos (pow_pos 1074) (pow_pos 52))
      (at_most y m (n * 0x1000010C6F7A0B) (2 ^ 52) q v k)))

-- ---- both cannot be: m above n by one part in a million, and not by more than two in 2 ^ 52
at_most_twice : (n m : ℕ) → m * 2 ^ 52 < n * 2 ^ 52 + n + m → m ≤ 2 * n
at_most_twice n m h = omega arith

too_far : (n m k l : ℕ) → k + n * 4503599627 < l → l < k + n + m → m ≤ 2 * n → ⊥
too_far n m k l h j g = omega arith

far : (n m : ℕ) → n * 0x1000010C6F7A0B < m * 2 ^ 52 → m * 2 ^ 52 < n * 2 ^ 52 + n + m → ⊥
far n m h k = too_far n m (n * 2 ^ 52) (m * 2 ^ 52) (omega (arith, h)) k (at_most_twice n m k)

-- ---- √x < √y, for an x and a y that are positive and finite
finite_apart : (x y : Float) → T (fits binary64 x) → T (fits binary64 y) → T (positive x) → T (positive y) → T (lt (mul binary64 x little) y) → T (lt (root_of x) (root_of y))
finite_apart x y F G p q h =
    let X = close_root x F p in
    let Y = close_root y G q in
    let C = X.2 in
    let D = Y.2 in
    nle→lt (root_of x) (root_of y) (units_number (root_of x) C.a C.value) (units_number (root_of y) D.a D.value) (λ (k : T (le (root_of y) (root_of x))).
    far X.0 Y.0 (under_product x y X.0 Y.0 G p q X.1 Y.1 h)
    (near X.0 Y.0 C.a D.a (2 ^ 1074) (pow_pos 1074)
    (le_of_mul-le-mul_right (values_of_le (root_of y) (root_of x) D.a (2 ^ 1074) C.a (2 ^ 1074)
    (positive_of_value (root_of y) D.a (2 ^ 1074) D.value D.some) (positive_of_value (root_of x) C.a (2 ^ 1074) C.value C.some) D.value C.value k) (pow_pos 1074))
    D.below C.above))

-- ---- and for all
-- √x < √y, where x is above 0.0 and below y, and x * 1.000001 is too
pub apart : (x y : Float) → T (fits binary64 x) → T (fits binary64 y) → T (lt zero_f x) → T (lt x y) → T (lt (mul binary64 x little) y) → T (lt (root_of x) (root_of y))
apart nan y F G p h k = absurd (unfold lt in p)
apart (inf true) y F G p h k = absurd (unfold lt in p)
apart (inf false) nan F G p h k = absurd (unfold lt in h)
apart (inf false) (inf s) F G p h k = absurd (unfold lt in h)
apart (inf false) (fin s n d) F G p h k = absurd (unfold lt in h)
apart (fin true m e) y F G p h k = absurd (unfold lt in p)
apart (fin false m e) nan F G p h k = absurd (unfold lt in h)
apart (fin false m e) (inf true) F G p h k = absurd (unfold lt in h)
apart (fin false m e) (inf false) F G p h k = let C = (close_root (fin false m e) F (positive_above m e p)).2 in unfold root_of in units_below (root_of (fin false m e)) C.a C.value
apart (fin false m e) (fin true n d) F G p h k = absurd (unfold lt in h)
apart (fin false m e) (fin false n d) F G p h k =
    finite_apart (fin false m e) (fin false n d) F G (positive_above m e p)
    (positive_above n d (lt_le_trans zero_f (fin false m e) (fin false n d) p (lt→le (fin false m e) (fin false n d) h))) k
