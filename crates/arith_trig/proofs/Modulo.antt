-- k mod 4, from the size of k without its fraction. Assumes nothing.
use Rattle.std.proofs.Common.{◌≡◌, ℕ, zero, suc, ◌-◌, ◌*◌, ◌/◌, ◌%◌, ◌^◌, ◌<◌, ◌≤◌, Bool, true, false, T, ℤ, pos, negsuc, sym, refl, ap, ◌∙◌, mul_assoc, pow-suc, arith, lit≤, pow_pos}
use native.Mathlib.Nat.{zero-div}
use lib.Ieee.{Float, nan, inf, fin, binary64, up, down, lt, fits, to_unsigned}
use Rattle.arith_order.proofs.Middle.{parts}
use Rattle.arith.specs.Pick.{abs_of}
use Rattle.arith.proofs.Cmp.{zero_f, never, not_below, not_minus, minus_zero}
use Rattle.arith.proofs.Casts.{cut_is}
use Rattle.arith_trig.specs.Trig.{quarter}

abbrev high : Float
high = fin false 1 (pos 64)

-- it is 0, 1, 2 or 3
pub below_four : (k : Float) → quarter k < 4
unfolding quarter
below_four nan = omega arith
below_four (inf s) = omega arith
below_four (fin false m e) = omega arith
below_four (fin true m e) = omega arith

-- ---- |k| below 2 ^ 64
pub of_below : (k : Float) → lt (abs_of k) high ≡ true → lt k zero_f ≡ true → (4 - to_unsigned 64 (abs_of k) % 4) % 4 ≡ quarter k
unfolding lt quarter
of_below nan h b = never (sym h)
of_below (inf s) h b = never (sym h)
of_below (fin true m e) h b = ap (λ (n : ℕ). (4 - n % 4) % 4) (cut_is 64 (lit≤ tt) true m e h)
of_below (fin false m e) h b = absurd (not_minus m e b)

pub of_other : (k : Float) → lt (abs_of k) high ≡ true → lt k zero_f ≡ false → to_unsigned 64 (abs_of k) % 4 ≡ quarter k
unfolding lt quarter
of_other nan h b = never (sym h)
of_other (inf s) h b = never (sym h)
of_other (fin false m e) h b = ap (λ (n : ℕ). n % 4) (cut_is 64 (lit≤ tt) false m e h)
of_other (fin true m e) h b =
    let q : m * up e / down e ≡ 0 = ap (λ (a : ℕ). a / down e) (minus_zero m e b) ∙ zero-div (down e) in
    omega (arith, cut_is 64 (lit≤ tt) true m e h)

-- ---- |k| from 2 ^ 64 on is a multiple of 4
fours : (m w : ℕ) → m * (w * 2 * 2) / 1 % 4 ≡ 0
fours m w = simp mul_assoc (omega arith)

four : (m k : ℕ) → m < 2 ^ 53 → 2 ^ 64 ≤ m * 2 ^ k → m * 2 ^ k / 1 % 4 ≡ 0
four m zero h l = omega arith
four m (suc zero) h l = omega arith
four m (suc (suc k)) h l = ap (λ (n : ℕ). m * n / 1 % 4) (pow-suc 2 (suc k) ∙ ap (λ (n : ℕ). n * 2) (pow-suc 2 k)) ∙ fours m (2 ^ k)

large : (m : ℕ) (e : ℤ) → m < 2 ^ 53 → 2 ^ 64 * down e ≤ m * up e → m * up e / down e % 4 ≡ 0
large m (pos k) h l = four m k h (omega arith)
large m (negsuc k) h l = let w = 2 ^ suc k in let p = pow_pos (suc k) in omega arith

pub of_large : (k : Float) → T (fits binary64 k) → lt (abs_of k) high ≡ false → 0 ≡ quarter k
unfolding lt quarter
of_large nan F h = refl
of_large (inf s) F h = refl
of_large (fin s m e) F h = signed s (large m e (parts binary64 s m e F).0 (omega (arith, not_below (m * up e * 1) (1 * 2 ^ 64 * down e) h)))
  where
    signed : (s : Bool) → m * up e / down e % 4 ≡ 0 → 0 ≡ quarter (fin s m e)
    signed true z = omega arith
    signed false z = omega arith
