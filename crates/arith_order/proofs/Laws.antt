-- The laws of the order of floats that callers cite, in one place; each is proved in the module that its line names.
-- x ≤ y is `T (le x y)`, and x < y is `T (lt x y)`. `number x` says that x is no NaN, `finite x` that it is no infinity either,
-- `fits f x` that the format f holds x, and `Modest x` that x is from -2 ^ 60 to 2 ^ 60.
-- Assumes nothing.

-- ≤ is reflexive and total on numbers, transitive, and at most each other means equal
pub use Rattle.arith_order.specs.Own.Number.{number}
pub use Rattle.arith_order.proofs.Signed.{le_refl, le_trans, total as le_total, antisym}
-- x ≤ y and x < y hold of numbers only
pub use Rattle.arith_order.proofs.Signed.{number_left, number_right}
-- x < y is that not y ≤ x: from one to the other, and through both
pub use Rattle.arith_order.proofs.Signed.{lt→le, lt→nle, nlt→le, nle→lt, le_lt_trans, lt_le_trans}
-- two floats of a format that are at most each other are the same float, or both zeros
pub use Rattle.arith_order.proofs.Equal.{Zeros, eq→same, antisym_same}
-- and one that is below another is not equal to it
pub use Rattle.arith_order.proofs.Equal.{lt→neq}
-- what lies between two finite floats is finite
pub use Rattle.arith_order.proofs.Middle.{between}
-- x ≤ y gives -y ≤ -x
pub use Rattle.arith_order.proofs.Signed.{neg_le}
-- rounding is monotone for both signs: ±a / c ≤ ±b / d stays so when both are rounded
pub use Rattle.arith_order.proofs.Rounds.{round_le}
-- a test that cannot hold is false
pub use Rattle.arith_order.proofs.Signed.{refuted}
-- a finite sum or product has finite parts
pub use Rattle.arith_order.proofs.Rounds.{add_parts, mul_parts}
-- a sum with what is not below zero is not below the other part, and a difference not above it
pub use Rattle.arith_order.proofs.Mono.{add_grows, sub_shrinks}
-- a sum is monotone in each part, a difference in its first; in its second it turns the order
pub use Rattle.arith_order.proofs.Mono.{add_mono, add_mono_right, sub_mono, sub_turns}
-- a product with a number not below zero is monotone, with one not above zero it turns the order; a quotient by a number above zero is monotone,
-- and of one not below zero it turns the order of divisors from 1 on, and is not below zero
pub use Rattle.arith_order.proofs.Mono.{mul_mono, mul_mono_right, mul_turns, mul_turns_right, div_mono, div_turns, div_low}
-- n as f64 is finite and exact up to 2 ^ 53, and its order is that of the numbers
pub use Rattle.arith_order.proofs.Lerp.{whole, whole_le}
-- the midpoint 0.5 * (a + b) of two modest floats lies between them, whichever is the smaller
pub use Rattle.arith_order.proofs.Modest.{Modest, modest_finite, middle, middle_down}
-- hi - lo of two modest floats is finite, and has the sign of their order
pub use Rattle.arith_order.proofs.Modest.{sub_finite, sub_up, sub_down}
-- lo + (hi - lo) * (i / n) of two modest floats is monotone in i, for n up to 2 ^ 53: it rises from lo ≤ hi and falls from hi ≤ lo
pub use Rattle.arith_order.proofs.Modest.{rises, falls}
