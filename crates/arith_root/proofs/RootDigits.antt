-- The digits of a root: with n units under it, it is q * 2 ^ k units, for the whole number q of 53 digits that is nearest to √N, where
-- N * 2 ^ k * 2 ^ k is n * 2 ^ 1074. Assumes nothing.
use Rattle.std.proofs.Common.{◌≡◌, ℕ, ◌+◌, ◌*◌, ◌/◌, ◌%◌, ◌^◌, ◌<◌, ◌≤◌, T, sym, ap, ◌∙◌, subst, mod-lt, mul_assoc, div-lt_iff_lt-mul, div-add-mod', arith, lit<, pow-add}
use lib.Ieee.{Float, binary64, to_bits, fits}
use lib.Ieee.Bits.{of_bits-to_bits}
use lib.Ieee.Positive.{positive}
use Rattle.arith_root.specs.Root.{near_root, root_units, root_of}
use Rattle.arith_root.specs.Ieee.{Units}
use Rattle.arith_root.proofs.Whole.{IsNear, nearest}
use Rattle.arith_root.proofs.Grid.{under, under_range, q_range, Scaled, exact, root_units_lem, units_fit, units_units, units_of, value_of, root_at, scaled_bits, positive_units}
use Rattle.arith_root.proofs.Cases.{pattern_range}

-- r has the digits of the root of n units
pub record RootDigits (n : ℕ) (r : Float) : Type 0 where
  pub N : ℕ
  pub q : ℕ
  pub k : ℕ
  pub value : Units r (q * 2 ^ k)
  pub format : T (fits binary64 r)
  -- N has 105 digits at least, and q has 53
  pub long : 2 ^ 104 ≤ N
  pub least : 2 ^ 52 ≤ q
  pub near : IsNear q N
  pub scale : n * 2 ^ 1074 ≡ N * (2 ^ k * 2 ^ k)

module _ (n M z : ℕ) (h : Scaled n M z) where
  -- n * 2 ^ 106 is N times an even power of two, and 1074 is 106 and twice 484
  scaled : n * 2 ^ 1074 ≡ under M z * (2 ^ ((z + 1) / 2 + 484) * 2 ^ ((z + 1) / 2 + 484))
  scaled =
      let j = (z + 1) / 2 in
      let w : 2 * j + 968 ≡ j + 484 + (j + 484) = omega arith in
      sym (mul_assoc n (2 ^ 106) (2 ^ 968))
      ∙ ap (λ (x : ℕ). x * 2 ^ 968) (exact n M z h)
      ∙ mul_assoc (under M z) (2 ^ (2 * j)) (2 ^ 968)
      ∙ ap (λ (x : ℕ). under M z * x) (sym (pow-add 2 (2 * j) 968) ∙ ap (λ (x : ℕ). 2 ^ x) w ∙ pow-add 2 (j + 484) (j + 484))

  digits_units : RootDigits n (root_units n)
  digits_units =
      let N = under M z in
      let q = near_root N in
      let k = (z + 1) / 2 + 484 in
      let r = under_range M z h.least h.most in
      let g = q_range M z h.least h.most in
      let f : k ≤ 2000 = omega (arith, h.few) in
      record {
        N = N;
        q = q;
        k = k;
        value = rw (root_units_lem n M z h) (units_units q k g.0 g.1 f);
        format = rw (root_units_lem n M z h) (units_fit q k g.0 g.1 f);
        long = r.0;
        least = g.0;
        near = nearest N (omega arith) (omega arith);
        scale = scaled;
      }

-- every positive finite binary64
pub digits_root : (x : Float) → T (fits binary64 x) → T (positive x) → (n : ℕ) × Units x n × RootDigits n (root_of x)
digits_root x F p =
    let b = to_bits binary64 x in
    let r = pattern_range x F p in
    let y = b / 2 ^ 52 in
    let t = b % 2 ^ 52 in
    let g : 0 < y * 2 ^ 52 + t = subst (λ (w : ℕ). 0 < w) (sym (div-add-mod' b (2 ^ 52))) r.0 in
    let s = scaled_bits y t ((div-lt_iff_lt-mul (lit< tt)).1 r.1) (mod-lt b (lit< tt)) g in
    let v : Units x (units_of y t) = subst (λ (w : Float). Units w (units_of y t)) (of_bits-to_bits binary64 x F) (value_of b r.1) in (
      units_of y t,
      v,
      subst (λ (w : Float). RootDigits (units_of y t) w) (sym (root_at x (units_of y t) v (positive_units y t g)))
          (digits_units (units_of y t) s.0 s.1 s.2),
    )
