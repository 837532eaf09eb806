-- What the tests at the head of `root` find, and what they leave: a positive finite float, whose pattern is above 0 and below the
-- infinity's. Assumes nothing.
use Rattle.std.proofs.Common.{◌≡◌, ℕ, zero, suc, ◌+◌, ◌-◌, ◌*◌, ◌/◌, ◌^◌, ◌<◌, ◌≤◌, true, false, ◌&&◌, ◌||◌, T, eqb, ltb, ℤ, sym, refl, ◌∙◌, subst, inl, inr, true≢false, zero-lt-suc, div-lt_iff_lt-mul, eq-zero-or-pos, mul-lt-mul_of_pos_right, mul-pos, mul_right_comm, arith, eqb→eq, ltb→lt, lt→ltb, pow_pos}
use mathlib.Core.Bool.{beq}
use lib.Ieee.{Float, nan, inf, fin, binary64, up, down, of_bits, to_bits, fits, is_nan, eq, lt, size}
use lib.Ieee.Bits.{is_true, of_bits-to_bits}
use lib.Ieee.Fits.{up_pos, down_pos, and_l, and_i, eq→eqb, kept-lt}
use lib.Ieee.Digits.{size-le}
use lib.Ieee.Positive.{positive}
use Rattle.arith_order.proofs.Middle.{parts}
use Rattle.arith_order.proofs.Signed.{zero_f}
use Rattle.arith_root.specs.Root.{root_of}

pub nan_root : (x : Float) → is_nan x ≡ true → x ≡ root_of x
unfolding root_of is_nan
nan_root nan h = refl
nan_root (inf s) h = absurd (true≢false (sym h))
nan_root (fin s m e) h = absurd (true≢false (sym h))

pub zero_root : (x : Float) → eq x zero_f ≡ true → x ≡ root_of x
unfolding root_of eq
zero_root nan h = absurd (true≢false (sym h))
zero_root (inf s) h = absurd (true≢false (sym h))
zero_root (fin s zero e) h = refl
zero_root (fin s (suc m) e) h =
    absurd (not_zero_lem (suc m * up e) (down e) (mul-pos (zero-lt-suc m) (up_pos e))
    (eqb→eq (suc m * up e * 1) (0 * 1 * down e)
    (and_l (eqb (suc m * up e * 1) (0 * 1 * down e)) (beq s false || eqb (suc m * up e * 1) 0) (subst T (sym h) tt))))
  where
    not_zero_lem : (a b : ℕ) → 0 < a → a * 1 ≡ 0 * 1 * b → ⊥
    not_zero_lem a b p h = omega arith

pub neg_root : (x : Float) → lt x zero_f ≡ true → nan ≡ root_of x
unfolding root_of lt
neg_root nan h = refl
neg_root (inf true) h = refl
neg_root (inf false) h = absurd (true≢false (sym h))
neg_root (fin true zero e) h = absurd (none (up e) (down e) (ltb→lt 0 (0 * up e * 1 + 0 * 1 * down e) (subst T (sym h) tt)))
  where
    none : (a b : ℕ) → 0 < 0 * a * 1 + 0 * 1 * b → ⊥
    none a b h = omega arith
neg_root (fin true (suc m) e) h = refl
neg_root (fin false m e) h = absurd (none (m * up e * 1) (down e) (ltb→lt (m * up e * 1) (0 * 1 * down e) (subst T (sym h) tt)))
  where
    none : (a b : ℕ) → a < 0 * 1 * b → ⊥
    none a b h = omega arith

pub inf_root : (x : Float) → eq x (inf false) ≡ true → x ≡ root_of x
unfolding root_of eq
inf_root nan h = absurd (true≢false (sym h))
inf_root (inf true) h = absurd (true≢false (sym h))
inf_root (inf false) h = refl
inf_root (fin s m e) h = absurd (true≢false (sym h))

-- ---- what is left
pub left : (x : Float) → is_nan x ≡ false → eq x zero_f ≡ false → lt x zero_f ≡ false → eq x (inf false) ≡ false → T (positive x)
unfolding is_nan eq lt
left nan a b c d = absurd (true≢false a)
left (inf true) a b c d = absurd (true≢false c)
left (inf false) a b c d = absurd (true≢false d)
left (fin true m e) a b c d = let z = both (m * up e * 1) (0 * 1 * down e) c in absurd (true≢false (sym (rw (z.0, z.1)) ∙ b))
  where
    both : (a b : ℕ) → ltb 0 (a + b) ≡ false → (a ≡ 0) × (b ≡ 0)
    both a b h = elim (eq-zero-or-pos (a + b)) [
      | inl z ↦ omega arith
      | inr p ↦ absurd
          (true≢false (sym (is_true (ltb 0 (a + b)) (lt→ltb 0 (a + b) p)) ∙ h))
    ]
left (fin false zero e) a b c d = absurd
    (true≢false (sym (is_true (eqb (0 * up e * 1) (0 * 1 * down e) && true)
    (and_i (eqb (0 * up e * 1) (0 * 1 * down e)) true (same (up e) (down e)) tt)) ∙ b))
  where
    same : (u w : ℕ) → T (eqb (0 * u * 1) (0 * 1 * w))
    same u w = let k : 0 * u * 1 ≡ 0 * 1 * w = omega arith in eq→eqb k
left (fin false (suc m) e) a b c d = lt→ltb 0 (suc m) (zero-lt-suc m)

-- ---- what is above zero and below +∞
pub positive_above : (m : ℕ) (e : ℤ) → T (lt zero_f (fin false m e)) → T (positive (fin false m e))
unfolding lt
positive_above zero e h = absurd (none (up e) (down e) (ltb→lt (0 * 1 * down e) (0 * up e * 1) h))
  where
    none : (a b : ℕ) → 0 * 1 * b < 0 * a * 1 → ⊥
    none a b h = omega arith
positive_above (suc m) e h = lt→ltb 0 (suc m) (zero-lt-suc m)

pub between : (x : Float) → T (lt zero_f x) → T (lt x (inf false)) → T (positive x)
between nan p q = absurd (unfold lt in p)
between (inf true) p q = absurd (unfold lt in p)
between (inf false) p q = absurd (unfold lt in q)
between (fin true m e) p q = absurd (unfold lt in p)
between (fin false m e) p q = positive_above m e p

-- ---- its pattern
above_zero : (x : Float) (b : ℕ) → T (positive x) → of_bits binary64 b ≡ x → 0 < b
unfolding of_bits
above_zero x zero p h = absurd (subst (λ (y : Float). T (positive y)) (sym h) p)
above_zero x (suc b) p h = zero-lt-suc b

below_infinity : (m : ℕ) (e : ℤ) → T (fits binary64 (fin false m e)) → to_bits binary64 (fin false m e) < 2047 * 2 ^ 52
unfolding to_bits
below_infinity m e F =
    let n = m * up e * 2 ^ 1074 / down e in
    let h : m * up e * 2 ^ 1074 < 2 ^ 2098 * down e = subst (λ (x : ℕ). m * up e * 2 ^ 1074 < x)
    (mul_right_comm (2 ^ 1024) (down e) (2 ^ 1074)) (mul-lt-mul_of_pos_right (parts binary64 false m e F).2 (pow_pos 1074)) in
    sum (size n) (n / 2 ^ (size n - 53)) (size-le n 2098 ((div-lt_iff_lt-mul (down_pos e)).1 h)) (kept-lt 53 n)
  where
    sum : (z q : ℕ) → z ≤ 2098 → q < 2 ^ 53 → 0 + (z - 53) * 2 ^ 52 + q < 2047 * 2 ^ 52
    sum z q h k = omega arith

pub pattern_range : (x : Float) → T (fits binary64 x) → T (positive x) → (0 < to_bits binary64 x) × (to_bits binary64 x < 2047 * 2 ^ 52)
pattern_range nan F p = absurd p
pattern_range (inf s) F p = absurd p
pattern_range (fin true m e) F p = absurd p
pattern_range (fin false m e) F p = (
  above_zero (fin false m e) (to_bits binary64 (fin false m e)) p
      (of_bits-to_bits binary64 (fin false m e) F),
  below_infinity m e F,
)
