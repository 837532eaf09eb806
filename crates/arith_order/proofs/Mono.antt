-- Sums, differences, products and quotients of finite floats keep the order, or turn it. Nothing is asked of what they round to: an
-- infinity is in order too.
-- Assumes nothing.
use mathlib.Core.Path.{◌≡◌}
use Prim.Native.Nat.{ℕ, ◌+◌, ◌-◌, ◌*◌, ◌≤◌, ◌<◌}
use native.Mathlib.Nat.{zero-mul, add-zero, mul-one, mul-le-mul_right, mul-le-mul_left, mul-pos}
use native.Mathlib.Omega.{arith}
use lib.Dec.{T}
use lib.Ieee.{Float, Format, fits, neg, add, sub, mul, div, le, lt}
use lib.Ieee.Scale.{finite}
use lib.Ieee.Positive.{den, den_pos}
use Rattle.arith_order.proofs.Signed.{plus, neg', le→, lt→, neg_le, no_minus, no_sign, le_trans, zero_f, one_f, ring}
use Rattle.arith_order.proofs.Rounds.{rounds_le, add_rounds, sub_rounds, mul_rounds, div_rounds, add_swap, mul_swap, neg_finite}
use Rattle.arith_order.proofs.Middle.{zero_fits, above, under}

add_law : (px nx dx py ny dy pz nz dz : ℕ) → px * dy + ny * dx ≤ py * dx + nx * dy
    → (px * dz + pz * dx) * (dy * dz) + (ny * dz + nz * dy) * (dx * dz) ≤ (py * dz + pz * dy) * (dx * dz) + (nx * dz + nz * dx) * (dy * dz)
add_law px nx dx py ny dy pz nz dz h = let a = mul-le-mul_right (dz * dz) h in simp ring (omega (arith, simp ring at a))

-- x ≤ y gives x + z ≤ y + z
pub add_mono : (f : Format) (x y z : Float) → T (finite x) → T (finite y) → T (finite z) → T (le x y) → T (le (add f x z) (add f y z))
add_mono f x y z a b c h =
    rounds_le f (add f x z) (add f y z) (plus x * den z + plus z * den x) (neg' x * den z + neg' z * den x) (den x * den z)
    (plus y * den z + plus z * den y) (neg' y * den z + neg' z * den y) (den y * den z)
    (add_rounds f x z a c) (add_rounds f y z b c) (mul-pos (den_pos x) (den_pos z)) (mul-pos (den_pos y) (den_pos z))
    (add_law (plus x) (neg' x) (den x) (plus y) (neg' y) (den y) (plus z) (neg' z) (den z) (le→ x y a b h))

-- and z + x ≤ z + y
pub add_mono_right : (f : Format) (x y z : Float) → T (finite x) → T (finite y) → T (finite z) → T (le x y) → T (le (add f z x) (add f z y))
add_mono_right f x y z a b c h = rw (add_swap f z x c a, add_swap f z y c b) (add_mono f x y z a b c h)

-- x ≤ y gives x - z ≤ y - z
pub sub_mono : (f : Format) (x y z : Float) → T (finite x) → T (finite y) → T (finite z) → T (le x y) → T (le (sub f x z) (sub f y z))
unfolding sub
sub_mono f x y z a b c h = add_mono f x y (neg z) a b (neg_finite z c) h

-- and z - y ≤ z - x
pub sub_turns : (f : Format) (x y z : Float) → T (finite x) → T (finite y) → T (finite z) → T (le x y) → T (le (sub f z y) (sub f z x))
unfolding sub
sub_turns f x y z a b c h = add_mono_right f (neg y) (neg x) z (neg_finite y b) (neg_finite x a) c (neg_le x y h)

-- ---- a + e is not below a, a - e not above a, for an e that is not negative
grows_law : (pa na da pe de : ℕ) → pa * (da * de) + (na * de + 0 * da) * da ≤ (pa * de + pe * da) * da + na * (da * de)
grows_law pa na da pe de = simp (ring, zero-mul, add-zero) (omega arith)

shrinks_law : (pa na da pe de : ℕ) → (pa * de + 0 * da) * da + na * (da * de) ≤ pa * (da * de) + (na * de + pe * da) * da
shrinks_law pa na da pe de = simp (ring, zero-mul, add-zero) (omega arith)

module _ (f : Format) (a e : Float) (F : T (fits f a)) (A : T (finite a)) (E : T (finite e)) (h : T (le zero_f e)) where
  pub add_grows : T (le a (add f a e))
  add_grows =
      above f a (add f a e) (plus a * den e + plus e * den a) (neg' a * den e + neg' e * den a) (den a * den e) F A (add_rounds f a e A E) (mul-pos (den_pos a) (den_pos e))
      (rw (no_sign e E h) (grows_law (plus a) (neg' a) (den a) (plus e) (den e)))

  pub sub_shrinks : T (le (sub f a e) a)
  sub_shrinks =
      under f a (sub f a e) (plus a * den e + neg' e * den a) (neg' a * den e + plus e * den a) (den a * den e) F A (sub_rounds f a e A E) (mul-pos (den_pos a) (den_pos e))
      (rw (no_sign e E h) (shrinks_law (plus a) (neg' a) (den a) (plus e) (den e)))

-- ---- products
mul_law : (px nx dx py ny dy w nz dz : ℕ) → px * dy + ny * dx ≤ py * dx + nx * dy
    → (px * (nz + w) + nx * nz) * (dy * dz) + (py * nz + ny * (nz + w)) * (dx * dz) ≤ (py * (nz + w) + ny * nz) * (dx * dz) +
    (px * nz + nx * (nz + w)) * (dy * dz)
mul_law px nx dx py ny dy w nz dz h = let a = mul-le-mul_right (w * dz) h in simp ring (omega (arith, simp ring at a))

over : (p n : ℕ) → n ≤ p → n + (p - n) ≡ p
over p n h = omega arith

pub mul_mono_by : (f : Format) (x y z : Float) → T (finite x) → T (finite y) → T (finite z) → neg' z ≤ plus z → T (le x y)
    → T (le (mul f x z) (mul f y z))
mul_mono_by f x y z a b c g h =
    rounds_le f (mul f x z) (mul f y z) (plus x * plus z + neg' x * neg' z) (plus x * neg' z + neg' x * plus z) (den x * den z)
    (plus y * plus z + neg' y * neg' z) (plus y * neg' z + neg' y * plus z) (den y * den z)
    (mul_rounds f x z a c) (mul_rounds f y z b c) (mul-pos (den_pos x) (den_pos z)) (mul-pos (den_pos y) (den_pos z))
    (rw (over (plus z) (neg' z) g) at
    (mul_law (plus x) (neg' x) (den x) (plus y) (neg' y) (den y) (plus z - neg' z) (neg' z) (den z) (le→ x y a b h)))

pub mul_turns_by : (f : Format) (x y z : Float) → T (finite x) → T (finite y) → T (finite z) → plus z ≤ neg' z → T (le x y)
    → T (le (mul f y z) (mul f x z))
mul_turns_by f x y z a b c g h =
    rounds_le f (mul f y z) (mul f x z) (plus y * plus z + neg' y * neg' z) (plus y * neg' z + neg' y * plus z) (den y * den z)
    (plus x * plus z + neg' x * neg' z) (plus x * neg' z + neg' x * plus z) (den x * den z)
    (mul_rounds f y z b c) (mul_rounds f x z a c) (mul-pos (den_pos y) (den_pos z)) (mul-pos (den_pos x) (den_pos z))
    (turned (plus x) (neg' x) (plus y) (neg' y) (plus z) (neg' z)
    (rw (over (neg' z) (plus z) g) at
    (mul_law (plus x) (neg' x) (den x) (plus y) (neg' y) (den y) (neg' z - plus z) (plus z) (den z) (le→ x y a b h))))
  where
    turned : (px nx py ny pz nz : ℕ)
        → (px * nz + nx * pz) * (den y * den z) + (py * pz + ny * nz) * (den x * den z) ≤ (py * nz + ny * pz) * (den x * den z) +
        (px * pz + nx * nz) * (den y * den z)
        → (py * pz + ny * nz) * (den x * den z) + (px * nz + nx * pz) * (den y * den z) ≤ (px * pz + nx * nz) * (den y * den z) +
        (py * nz + ny * pz) * (den x * den z)
    turned px nx py ny pz nz k = omega arith

-- x ≤ y gives x * z ≤ y * z for a z not below zero
pub mul_mono : (f : Format) (x y z : Float) → T (finite x) → T (finite y) → T (finite z) → T (le zero_f z) → T (le x y)
    → T (le (mul f x z) (mul f y z))
mul_mono f x y z a b c g h = mul_mono_by f x y z a b c (omega (arith, le→ zero_f z tt c g, zero-mul (den z))) h

-- and y * z ≤ x * z for a z not above it
pub mul_turns : (f : Format) (x y z : Float) → T (finite x) → T (finite y) → T (finite z) → T (le z zero_f) → T (le x y)
    → T (le (mul f y z) (mul f x z))
mul_turns f x y z a b c g h = mul_turns_by f x y z a b c (omega (arith, le→ z zero_f c tt g, zero-mul (den z))) h

-- z * x ≤ z * y, and z * y ≤ z * x
pub mul_mono_right : (f : Format) (x y z : Float) → T (finite x) → T (finite y) → T (finite z) → T (le zero_f z) → T (le x y)
    → T (le (mul f z x) (mul f z y))
mul_mono_right f x y z a b c g h = rw (mul_swap f z x c a, mul_swap f z y c b) (mul_mono f x y z a b c g h)

pub mul_turns_right : (f : Format) (x y z : Float) → T (finite x) → T (finite y) → T (finite z) → T (le z zero_f) → T (le x y)
    → T (le (mul f z y) (mul f z x))
mul_turns_right f x y z a b c g h = rw (mul_swap f z x c a, mul_swap f z y c b) (mul_turns f x y z a b c g h)

-- ---- quotients
div_law : (px nx dx py ny dy pz dz : ℕ) → px * dy + ny * dx ≤ py * dx + nx * dy
    → px * dz * (pz * dy) + ny * dz * (pz * dx) ≤ py * dz * (pz * dx) + nx * dz * (pz * dy)
div_law px nx dx py ny dy pz dz h = let a = mul-le-mul_right (pz * dz) h in simp ring (omega (arith, simp ring at a))

pub div_mono_by : (f : Format) (x y z : Float) → T (finite x) → T (finite y) → T (finite z) → 0 < plus z → T (le x y) → T (le (div f x z) (div f y z))
div_mono_by f x y z a b c g h =
    rounds_le f (div f x z) (div f y z) (plus x * den z) (neg' x * den z) (plus z * den x) (plus y * den z) (neg' y * den z) (plus z * den y)
    (div_rounds f x z a c g) (div_rounds f y z b c g) (mul-pos g (den_pos x)) (mul-pos g (den_pos y))
    (div_law (plus x) (neg' x) (den x) (plus y) (neg' y) (den y) (plus z) (den z) (le→ x y a b h))

-- x ≤ y gives x / z ≤ y / z for a z above zero
pub div_mono : (f : Format) (x y z : Float) → T (finite x) → T (finite y) → T (finite z) → T (lt zero_f z) → T (le x y)
    → T (le (div f x z) (div f y z))
div_mono f x y z a b c g h = div_mono_by f x y z a b c (omega (arith, lt→ zero_f z tt c g, zero-mul (den z))) h

-- ---- the greater the divisor, the less the quotient
turns_law : (px dx py dy pz dz : ℕ) → py * dz ≤ pz * dy → px * dz * (py * dx) + 0 * dy * (pz * dx) ≤ px * dy * (pz * dx) + 0 * dz * (py * dx)
turns_law px dx py dy pz dz h = let k = mul-le-mul_left (px * dx) h in simp (ring, zero-mul, add-zero) (simp ring at k)

-- what is at least 1 is above zero
over_one : (z : Float) → T (finite z) → T (le one_f z) → (0 < plus z) × (neg' z ≡ 0)
over_one z F h =
    let k : den z + neg' z ≤ plus z = omega (arith, le→ one_f z tt F h, zero-mul (den z), mul-one (plus z), mul-one (neg' z)) in
    (omega (arith, k, den_pos z), no_minus z (omega (arith, k)))

-- x / z ≤ x / y from 1 ≤ y ≤ z
pub div_turns : (f : Format) (x y z : Float) → T (finite x) → T (finite y) → T (finite z) → T (le zero_f x) → T (le one_f y) → T (le y z) → T (le (div f x z) (div f x y))
div_turns f x y z X Y Z x0 y1 h =
    let u = over_one y Y y1 in
    let v = over_one z Z (le_trans one_f y z y1 h) in
    rounds_le f (div f x z) (div f x y) (plus x * den z) (neg' x * den z) (plus z * den x) (plus x * den y) (neg' x * den y) (plus y * den x)
    (div_rounds f x z X Z v.0) (div_rounds f x y X Y u.0) (mul-pos v.0 (den_pos x)) (mul-pos u.0 (den_pos x))
    (rw (no_sign x X x0) (turns_law (plus x) (den x) (plus y) (den y) (plus z) (den z)
    (omega (arith, rw (u.1, v.1) at (le→ y z Y Z h), zero-mul (den y), zero-mul (den z)))))

-- and x / z is not below zero
pub div_low : (f : Format) (x z : Float) → T (finite x) → T (finite z) → T (le zero_f x) → T (le one_f z) → T (le zero_f (div f x z))
div_low f x z X Z x0 z1 =
    let v = over_one z Z z1 in
    above f zero_f (div f x z) (plus x * den z) (neg' x * den z) (plus z * den x) (zero_fits f) tt (div_rounds f x z X Z v.0)
    (mul-pos v.0 (den_pos x)) (rw (no_sign x X x0) (omega (arith, zero-mul (plus z * den x), zero-mul (den z))))
