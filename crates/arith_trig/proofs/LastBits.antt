-- A whole number from 2 ^ 52 to 2 ^ 53, as a float: its number and its bit pattern are equal modulo 4. Assumes nothing.
use Rattle.std.proofs.Common.{◌≡◌, ℕ, ◌+◌, ◌-◌, ◌*◌, ◌/◌, ◌%◌, ◌^◌, ◌<◌, ◌≤◌, Bool, true, false, not, ◌||◌, T, eqb, sym, ap, ◌∙◌, lt_of_lt_of_le, mul-le-mul_right, add-mul, mul-lt-mul_of_pos_right, lt_of_not-le, zero-mul, mul-one, mul_right_comm, not-le_of_lt, le_of_mul-le-mul_right, mul-div_cancel, arith, eqb→eq, pow_pos, pow_mono, pow-add}
use native.Mathlib.Nat.{div-eq_of_eq-mul_left}
use mathlib.Core.Bool.{beq}
use lib.Ieee.{Float, nan, inf, fin, binary64, up, down, size, eq, lt, le, is_nan, to_bits}
use lib.Ieee.Digits.{size-lt, size-le}
use lib.Ieee.Fits.{down_pos, and_l, and_r}
use lib.Ieee.Exact.{HasValue}
use lib.Ieee.Scale.{finite}
use lib.Ieee.Positive.{den}
use Rattle.arith_order.proofs.Signed.{P, N, plus, neg', le←}
use Rattle.arith.specs.Notation.{◌⊕◌, ◌⊖◌}
use Rattle.arith.proofs.Cmp.{never, holds}
use Rattle.arith.proofs.Whole.{bottom, top}
use Rattle.arith.proofs.Near.{base, base_f, sum_is, is_near_lem, off_parts, at_it}
use Rattle.arith_trig.specs.Trig.{quarter}

-- ---- the pattern
-- S * w of S's 53 digits, where w is 2 ^ l
size_is : (S l : ℕ) → 2 ^ 52 ≤ S → S < 2 ^ 53 → size (S * 2 ^ l) ≡ 53 + l
size_is S l a b =
    let w : S * 2 ^ l < 2 ^ (53 + l) = rw (pow-add 2 53 l) (mul-lt-mul_of_pos_right b (pow_pos l)) in
    let h : size (S * 2 ^ l) ≤ 53 + l = size-le (S * 2 ^ l) (53 + l) w in
    let g : 52 + l < size (S * 2 ^ l) = lt_of_not-le few in
    omega arith
  where
    v : 2 ^ (52 + l) ≤ S * 2 ^ l
    v = rw (pow-add 2 52 l) (mul-le-mul_right (2 ^ l) a)

    few : size (S * 2 ^ l) ≤ 52 + l → ⊥
    few g = not-le_of_lt (lt_of_lt_of_le (size-lt (S * 2 ^ l)) (pow_mono g)) v

abbrev pattern : ℕ → ℕ → ℕ
pattern n k = 0 + (k - 53) * 2 ^ 52 + n / 2 ^ (k - 53)

pattern_is : (S l : ℕ) → 2 ^ 52 ≤ S → S < 2 ^ 53 → pattern (S * 2 ^ l) (size (S * 2 ^ l)) ≡ l * 2 ^ 52 + S
pattern_is S l a b =
    ap (λ (k : ℕ). (0 + k * 2 ^ 52 + S * 2 ^ l / 2 ^ k)) (ap (λ (k : ℕ). k - 53) (size_is S l a b) ∙ drop l)
    ∙ ap (λ (q : ℕ). 0 + l * 2 ^ 52 + q) (mul-div_cancel S (pow_pos l))
    ∙ omega arith
  where
    drop : (l : ℕ) → 53 + l - 53 ≡ l
    drop l = omega arith

in_units : (a d S l : ℕ) → 0 < d → a * 1 ≡ S * d → a * 2 ^ l / d ≡ S * 2 ^ l
in_units a d S l D h = div-eq_of_eq-mul_left D (ap (λ (z : ℕ). z * 2 ^ l) (sym (mul-one a) ∙ h) ∙ mul_right_comm S d (2 ^ l))

last : (S l p : ℕ) → p ≡ l * 2 ^ 52 + S → p % 4 ≡ S % 4
last S l p h = omega arith

pub last_bits_lem : (s : Float) (S : ℕ) → HasValue s false S 1 → 2 ^ 52 ≤ S → S < 2 ^ 53 → to_bits binary64 s % 4 ≡ S % 4
unfolding to_bits
last_bits_lem nan S v a b = absurd v
last_bits_lem (inf s) S v a b = absurd v
last_bits_lem (fin true m e) S v a b = never v.0
last_bits_lem (fin false m e) S v a b =
    last S 1074 (to_bits binary64 (fin false m e))
    (ap (λ (n : ℕ). pattern n (size n)) (in_units (m * up e) (down e) S 1074 (down_pos e) v.1) ∙ pattern_is S 1074 a b)

-- ---- the number: k is S - base
at_number : (x y : Float) → T (finite x) → T (finite y) → T (eq x y) → plus x * den y + neg' y * den x ≡ plus y * den x + neg' x * den y
unfolding eq
at_number nan y f g h = absurd f
at_number (inf s) y f g h = absurd f
at_number (fin s m e) nan f g h = absurd g
at_number (fin s m e) (inf t) f g h = absurd g
at_number (fin s m e) (fin t n d) f g h =
    go s t (m * up e) (down d) (n * up d) (down e)
    (eqb→eq (m * up e * down d) (n * up d * down e) (and_l (eqb (m * up e * down d) (n * up d * down e)) (beq s t || eqb (m * up e * down d) 0) h))
    (and_r (eqb (m * up e * down d) (n * up d * down e)) (beq s t || eqb (m * up e * down d) 0) h)
  where
    go : (s t : Bool) (a d b c : ℕ) → a * d ≡ b * c → T (beq s t || eqb (a * d) 0) → P s a * d + N t b * c ≡ P t b * c + N s a * d
    go false false a d b c h k = omega (arith, zero-mul c, zero-mul d)
    go false true a d b c h k = omega (arith, zero-mul c, zero-mul d, eqb→eq (a * d) 0 k)
    go true false a d b c h k = omega (arith, zero-mul c, zero-mul d, eqb→eq (a * d) 0 k)
    go true true a d b c h k = omega (arith, zero-mul c, zero-mul d)

pub quarter_at : (k : Float) (S : ℕ) → T (finite k) → plus k + base * den k ≡ S * den k + neg' k → S % 4 ≡ quarter k
unfolding quarter
quarter_at nan S f h = absurd f
quarter_at (inf s) S f h = absurd f
quarter_at (fin false m e) S f h =
    let l : base ≤ S = le_of_mul-le-mul_right {k = down e} (omega arith) (down_pos e) in
    let k = S - base in
    let e1 : S * down e ≡ k * down e + base * down e = ap (λ (z : ℕ). z * down e) (omega arith) ∙ add-mul k base (down e) in
    let q : m * up e / down e ≡ k = div-eq_of_eq-mul_left (down_pos e) (omega arith) in
    omega arith
quarter_at (fin true m e) S f h =
    let l : S ≤ base = le_of_mul-le-mul_right {k = down e} (omega arith) (down_pos e) in
    let k = base - S in
    let e1 : base * down e ≡ k * down e + S * down e = ap (λ (z : ℕ). z * down e) (omega arith) ∙ add-mul k S (down e) in
    let q : m * up e / down e ≡ k = div-eq_of_eq-mul_left (down_pos e) (omega arith) in
    omega arith

has_number : (x : Float) (S : ℕ) → HasValue x false S 1 → T (not (is_nan x))
unfolding is_nan
has_number nan S v = absurd v
has_number (inf s) S v = absurd v
has_number (fin s m e) S v = tt

-- ---- as the function has it
module _ (k : Float) (a : le bottom (k ⊕ base_f) ≡ true) (b : lt (k ⊕ base_f) top ≡ true) where
  pub no_nan : T (not (is_nan (k ⊕ base_f)))
  no_nan = let w = sum_is k a b in has_number (k ⊕ base_f) w.number w.value

  pub quarter_near : eq (k ⊕ base_f ⊖ base_f) k ≡ true → to_bits binary64 (k ⊕ base_f) % 4 ≡ quarter k
  quarter_near h =
      let n = k ⊕ base_f ⊖ base_f in
      let w = sum_is k a b in
      let g = off_parts k a b in
      let f = (is_near_lem k a b).is_finite in
      let q = at_number n k g.0 f (holds h) in
      let e = at_it k n w.number f g (le← k n f g.0 (omega arith)) (le← n k g.0 f (omega arith)) in
      last_bits_lem (k ⊕ base_f) w.number w.value w.low w.high ∙ quarter_at k w.number f e
