-- What is claimed of 2^k and of the constants of e^t. Each is proved in proofs/Laws.antt, as `power_exact` is. Definitions only.
-- `minus a b` is the integer a - b, `of_int binary64` the float of an integer, and `fin false 1 e` the number 2^e itself.
use Rattle.std.specs.Prelude.{◌≡◌, true, false, ℕ, ◌^◌, ◌<◌, ◌≤◌, Float}
use Rattle.std.specs.Float.{fin, binary64}
use Rattle.std.specs.Float.Ieee.{minus, of_int, neg, le, eq}
use Rattle.arith.specs.Constants.{nearest_float}
use Rattle.arith.specs.Notation.{count}
use Rattle.arith_exp.specs.Exp.{per_doubling, ln2_high, ln2_low, doublings, power_of_two}

-- for every whole k from -1022 to 1023 the power of the float of k is exactly 2^k: k is n - 1023, for n from 1 to 2046
abbrev pub PowerExact : Type 0
PowerExact = (n : ℕ) → 0 < n → n < 2047 → power_of_two (of_int binary64 (minus n 1023)) ≡ fin false 1 (minus n 1023)

-- the k of t is a whole number within 145 of 0, and its power is exactly 2^k: k is n - 1023, for n from 878 to 1168
pub record Doubles (t : Float) : Type 0 where
  pub n : ℕ
  pub low : 878 ≤ n
  pub high : n ≤ 1168
  pub is_whole : eq (doublings t) (of_int binary64 (minus n 1023)) ≡ true
  pub is_exact : power_of_two (doublings t) ≡ fin false 1 (minus n 1023)

-- and so it is for every t from -100 to 100
abbrev pub PowerInRange : Type 0
PowerInRange = (t : Float) → le (neg (count 100)) t ≡ true → le t (count 100) ≡ true → Doubles t

-- each constant is the float nearest to its decimal: 1.4426950408889634, 0.6931471803691238 and 1.9082149292705877e-10
pub record Decimals : Type 0 where
  pub is_per_doubling : per_doubling ≡ nearest_float 14426950408889634 (10 ^ 16)
  pub is_ln2_high : ln2_high ≡ nearest_float 6931471803691238 (10 ^ 16)
  pub is_ln2_low : ln2_low ≡ nearest_float 19082149292705877 (10 ^ 26)
