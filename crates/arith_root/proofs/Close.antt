-- The square of a root is within one part in 2 ^ 52 of what stands under it. Assumes nothing.
use Rattle.std.proofs.Common.{ℕ, ◌+◌, ◌*◌, ◌^◌, ◌<◌, ◌≤◌, T, sym, subst, lt_of_lt_of_le, mul-le-mul_right, mul_comm, add-mul, mul-lt-mul_of_pos_right, mul-pos, mul_right_comm, arith, pow_pos}
use lib.Ieee.{Float, binary64, fits}
use lib.Ieee.Positive.{positive}
use Rattle.arith_root.specs.Root.{root_of}
use Rattle.arith_root.specs.Ieee.{Units}
use Rattle.arith_root.proofs.Whole.{square_of}
use Rattle.arith_root.proofs.RootDigits.{RootDigits, digits_root}

-- r is near the root of n units: with r of a units, n * 2 ^ 1074 is a * a, to one part in 2 ^ 52
pub record Close (n : ℕ) (r : Float) : Type 0 where
  pub a : ℕ
  pub value : Units r a
  pub some : 0 < a
  pub below : n * 2 ^ 1074 * 2 ^ 52 ≤ a * a * (2 ^ 52 + 1)
  pub above : a * a * 2 ^ 52 < n * 2 ^ 1074 * 2 ^ 52 + a * a

-- ---- with P = 2 ^ k: the root is q * P, for the q of 53 digits nearest to the root of N
module _ (N q P : ℕ) (lo : 2 ^ 52 ≤ q) where
  wide : q * 2 ^ 52 ≤ q * q
  wide = rw (mul_comm q (2 ^ 52)) (mul-le-mul_right q lo)

  high : N ≤ q * q + q → N * (P * P) * 2 ^ 52 ≤ q * P * (q * P) * (2 ^ 52 + 1)
  high h = let g : N * 2 ^ 52 ≤ q * q * (2 ^ 52 + 1) = omega (arith, wide) in
      rw (square_of q P) (moved N (q * q) (P * P) (mul-le-mul_right (P * P) g))
    where
      moved : (a b c : ℕ) → a * 2 ^ 52 * c ≤ b * (2 ^ 52 + 1) * c → a * c * 2 ^ 52 ≤ b * c * (2 ^ 52 + 1)
      moved a b c k = rw (mul_right_comm a c (2 ^ 52), mul_right_comm b c (2 ^ 52 + 1)) k

  low : 0 < P → q * q < N + q → q * P * (q * P) * 2 ^ 52 < N * (P * P) * 2 ^ 52 + q * P * (q * P)
  low p h = let g : q * q * 2 ^ 52 < N * 2 ^ 52 + q * q = omega (arith, wide) in
      rw (square_of q P) (moved N (q * q) (P * P) (mul-lt-mul_of_pos_right g (mul-pos p p)))
    where
      moved : (a b c : ℕ) → b * 2 ^ 52 * c < (a * 2 ^ 52 + b) * c → b * c * 2 ^ 52 < a * c * 2 ^ 52 + b * c
      moved a b c k = rw (mul_right_comm b c (2 ^ 52), mul_right_comm a c (2 ^ 52), ← add-mul (a * 2 ^ 52) b c) k

-- what has the digits of the root is close to it
close_digits : (n : ℕ) (r : Float) → RootDigits n r → Close n r
close_digits n r D =
    let N = D.N in
    let q = D.q in
    let P = 2 ^ D.k in
    record {
      a = q * P;
      value = D.value;
      some = mul-pos (lt_of_lt_of_le (pow_pos 52) D.least) (pow_pos D.k);
      below = subst (λ (x : ℕ). x * 2 ^ 52 ≤ q * P * (q * P) * (2 ^ 52 + 1)) (sym D.scale) (high N q P D.least D.near.1);
      above = subst (λ (x : ℕ). q * P * (q * P) * 2 ^ 52 < x * 2 ^ 52 + q * P * (q * P)) (sym D.scale) (low N q P D.least (pow_pos D.k) D.near.0);
    }

-- every positive finite binary64
pub close_root : (x : Float) → T (fits binary64 x) → T (positive x) → (n : ℕ) × Units x n × Close n (root_of x)
close_root x F p = let d = digits_root x F p in (d.0, d.1, close_digits d.0 (root_of x) d.2)
