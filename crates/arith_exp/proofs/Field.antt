-- 2^k by its exponent's field: as the code has it, and what it is. Assumes nothing.
use mathlib.Core.Path.{◌≡◌, refl, sym, ap, subst, ◌∙◌}
use mathlib.Core.Bool.{Bool, true, false, not}
use Prim.Native.Nat.{ℕ, zero, suc, ◌+◌, ◌*◌, ◌/◌, ◌%◌, ◌^◌, ◌<◌, ◌≤◌, min}
use native.Mathlib.Omega.{arith}
use lib.IntN.{pos, negsuc}
use lib.Dec.{T, leb}
use lib.Count.{count_trailing_zeros}
use lib.Ieee.{Float, inf, fin, binary64, minus, odd, of_fields, of_bits, nan_bits, to_unsigned}
use lib.Ieee.Bits.{nan_bits_above}
use borrow.Author.Tests.{le-ltb, le-leb, lt-leb, leb-true, leb-false, ne_eqb}
use Rattle.arith.specs.Notation.{◌⊕◌, bits, count}
use Rattle.arith_exp.specs.Exp.{power_of_two}

-- ---- the code's way
pub no_nan : (n : ℕ) → n < 2047 → T (not (nan_bits binary64 (n * 0x10000000000000)))
no_nan n h =
    subst (λ b. T (not b))
    (sym (nan_bits_above binary64 (n * 0x10000000000000) ∙ le-ltb 0x7FF0000000000000 (n * 0x10000000000000 % 0x8000000000000000) (omega arith))) tt

module _ (k : Float) (n : ℕ) (N : n ≡ to_unsigned 64 (k ⊕ count 1023)) where
  pub below : n < 2047 → bits (n * 0x10000000000000) ≡ power_of_two k
  unfolding power_of_two
  below h = ap (λ (m : ℕ). bits (m * 2 ^ 52)) (let e : n ≡ min n 2047 = omega arith in e ∙ ap (λ (m : ℕ). min m 2047) N)

  pub above : 2047 ≤ n → inf false ≡ power_of_two k
  unfolding power_of_two of_bits
  above h = ap (λ (m : ℕ). bits (m * 2 ^ 52)) (let e : 2047 ≡ min n 2047 = omega arith in e ∙ ap (λ (m : ℕ). min m 2047) N)

-- ---- what it is: a field n from 1 to 2046 stands for 2^(n - 1023), exactly
normal : (n : ℕ) → 0 < n → n < 2047 → of_fields binary64 false n 0 ≡ fin false 1 (minus n 1023)
unfolding of_fields odd count_trailing_zeros
normal zero h k = absurd (omega arith)
normal (suc x) h k = rw (ne_eqb (suc x) 2047 (omega arith)) (ap (fin false 1) (shift x))
  where
    shift : (x : ℕ) → minus (x + 52) 1074 ≡ minus (suc x) 1023
    shift x = by (leb 1023 (suc x)) refl
      where
        by : (t : Bool) → leb 1023 (suc x) ≡ t → minus (x + 52) 1074 ≡ minus (suc x) 1023
        by true e = rw (le-leb 1074 (x + 52) (omega (arith, leb-true 1023 (suc x) e)), e) (ap pos (omega arith))
        by false e = rw (lt-leb 1074 (x + 52) (omega (arith, leb-false 1023 (suc x) e)), e) (ap negsuc (omega (arith, leb-false 1023 (suc x) e)))

pub exact : (n : ℕ) → 0 < n → n < 2047 → bits (n * 2 ^ 52) ≡ fin false 1 (minus n 1023)
unfolding of_bits
exact n h k =
    let field : n * 2 ^ 52 % 2 ^ 63 / 2 ^ 52 ≡ n = omega arith in
    let digits : n * 2 ^ 52 % 2 ^ 52 ≡ 0 = omega arith in
    rw (lt-leb (2 ^ 63) (n * 2 ^ 52) (omega arith), field, digits) (normal n h k)
