-- Roots of whole numbers: `isqrt` is the whole part of the root, `near_root` the whole number nearest to it, and whatever q lies near enough
-- is `near_root`, however it was found.
-- Assumes nothing.
use Rattle.std.proofs.Common.{◌≡◌, ℕ, zero, suc, ◌+◌, ◌*◌, ◌/◌, ◌%◌, ◌^◌, ◌<◌, ◌≤◌, Bool, true, false, cond, not, T, ltb, leb, sym, ap, ◌∙◌, lt_of_lt_of_le, le_of_suc-le-suc, lt_irrefl, mul-le-mul_right, zero-lt-suc, mul_comm, div-lt_iff_lt-mul, add-mul, mul-le-mul, le_antisymm, one-mul, pow-suc, lt_of_not-le, div-add-mod', arith, ltb→lt, leb→le, nltb→le}
use lib.Dec.{nleb→lt}
use Rattle.arith_order.proofs.Signed.{ring}
use Rattle.arith_root.specs.Root.{isqrt, near_root}

pub not_above : (r s : ℕ) → (s < r → ⊥) → r ≤ s
not_above r s h = le_of_suc-le-suc (lt_of_not-le {n = suc s} {m = r} h)

pub sq_lt : (r b : ℕ) → r * r < b * b → r < b
sq_lt r b h = lt_of_not-le (λ (k : b ≤ r). lt_irrefl (r * r) (lt_of_lt_of_le h (mul-le-mul k k)))

-- the square of a product
pub square_of : (q P : ℕ) → q * P * (q * P) ≡ q * q * (P * P)
square_of q P = simp ring

-- ---- the whole part: r * r ≤ n < (r + 1) * (r + 1)
abbrev IsRoot : ℕ → ℕ → Type 0
IsRoot r n = (r * r ≤ n) × (n < (r + 1) * (r + 1))

step : (p n : ℕ) → IsRoot p (n / 4) → (o : Bool) → (T o → (2 * p + 1) * (2 * p + 1) ≤ n) → (T (not o) → n < (2 * p + 1) * (2 * p + 1))
    → IsRoot (cond o (2 * p + 1) (2 * p)) n
step p n h true f g = (f tt, simp ring (omega (arith, simp ring at h.1)))
step p n h false f g = (simp ring (omega (arith, h.0)), g tt)

isqrt_is : (d n : ℕ) → n < 4 ^ d → IsRoot (isqrt d n) n
unfolding isqrt
isqrt_is zero n h = (omega arith, omega arith)
isqrt_is (suc d) n h =
    let r = 2 * isqrt d (n / 4) in
    step (isqrt d (n / 4)) n (isqrt_is d (n / 4) ((div-lt_iff_lt-mul (zero-lt-suc 3)).1 (rw pow-suc at h))) (leb ((r + 1) * (r + 1)) n)
    (leb→le ((r + 1) * (r + 1)) n) (nleb→lt ((r + 1) * (r + 1)) n)

-- ---- the nearest: (q - 1/2)² < n < (q + 1/2)², that is q * q - q < n ≤ q * q + q
abbrev pub IsNear : ℕ → ℕ → Type 0
IsNear q n = (q * q < n + q) × (n ≤ q * q + q)

near_case : (s n : ℕ) → IsRoot s n → 0 < n → (o : Bool) → (T o → s * s + s < n) → (T (not o) → n ≤ s * s + s) → IsNear (cond o (s + 1) s) n
near_case s n h p true f g = (simp ring (omega (arith, f tt)), simp ring (omega (arith, simp ring at h.1)))
near_case zero n h p false f g = absurd (lt_irrefl 0 (lt_of_lt_of_le p (g tt)))
near_case (suc s) n h p false f g = (omega (arith, h.0), g tt)

pub nearest : (n : ℕ) → 0 < n → n < 4 ^ 53 → IsNear (near_root n) n
unfolding near_root
nearest n p b = let s = isqrt 53 n in near_case s n (isqrt_is 53 n b) p (ltb (s * s + s) n) (ltb→lt (s * s + s) n) (nltb→le (s * s + s) n)

-- only one number is
one_way : (q p n : ℕ) → p * p < n + p → n ≤ q * q + q → p ≤ q
one_way q p n a b = not_above p q (λ (k : q < p). bad (more k p) (more k q) (mul_comm p q))
  where
    more : q < p → (x : ℕ) → (q + 1) * x ≤ p * x
    more k x = mul-le-mul_right x (omega arith)

    bad : (q + 1) * p ≤ p * p → (q + 1) * q ≤ p * q → p * q ≡ q * p → ⊥
    bad x y z = omega (arith, simp (add-mul, one-mul) at x, simp (add-mul, one-mul) at y)

pub near_only : (q n : ℕ) → 0 < n → n < 4 ^ 53 → IsNear q n → q ≡ near_root n
near_only q n p b x = let h = nearest n p b in le_antisymm (one_way (near_root n) q n x.0 h.1) (one_way q (near_root n) n h.0 x.1)

-- ---- by what is left: n = r * r + rest
pub is_r : (r rest n : ℕ) → r * r + rest ≡ n → 0 < n → n < 4 ^ 53 → rest ≤ r → r ≡ near_root n
is_r zero rest n e p b h = omega arith
is_r (suc r) rest n e p b h = near_only (suc r) n p b (omega arith, omega arith)

pub is_next : (r rest n : ℕ) → r * r + rest ≡ n → n < 4 ^ 53 → r < rest → rest ≤ 3 * r + 2 → r + 1 ≡ near_root n
is_next r rest n e b h k = near_only (r + 1) n (omega arith) b (simp ring (omega arith), simp ring (omega arith))

-- ---- the check of `is_nearest`: with r = q - 1 = a * 2 ^ 26 + c, what is left is worked out in parts, none of which wraps
pub product : (x y : ℕ) → x ≤ 2 ^ 28 → y ≤ 2 ^ 28 → x * y < 2 ^ 60
product x y h k = omega (arith, mul-le-mul h k)

unwrapped : (a b r : ℕ) → (r + b) % 2 ^ 64 ≡ a → r < 2 ^ 60 → b < 2 ^ 60 → a ≡ r + b
unwrapped a b r e h k = omega arith

square : (a c B : ℕ) → (a * B + c) * (a * B + c) ≡ a * a * B * B + 2 * a * c * B + c * c
square a c B = simp ring (omega arith)

parts_sum : (n r a c d e rest : ℕ) → r ≡ a * 2 ^ 26 + c → n ≡ d + a * a → d * 2 ^ 26 ≡ e + 2 * a * c → e * 2 ^ 26 ≡ rest + c * c
    → r * r + rest ≡ n * 2 ^ 52
parts_sum n r a c d e rest p x y z = omega (arith, ap (λ (x : ℕ). x * x) p ∙ square a c (2 ^ 26))

pub accepted : (n q r d e rest : ℕ) → n < 2 ^ 54 → (r + 1) % 2 ^ 64 ≡ q → r < 2 ^ 53
    → (d + r / 2 ^ 26 * (r / 2 ^ 26)) % 2 ^ 64 ≡ n → d < 2 ^ 30
    → (e + 2 * (r / 2 ^ 26) * (r % 2 ^ 26)) % 2 ^ 64 ≡ d * 2 ^ 26 → e < 2 ^ 32
    → (rest + r % 2 ^ 26 * (r % 2 ^ 26)) % 2 ^ 64 ≡ e * 2 ^ 26 → r < rest → rest ≤ 3 * r + 2 → q ≡ near_root (n * 2 ^ 52)
accepted n q r d e rest b v small x dl y el z h k =
    let a = r / 2 ^ 26 in
    let c = r % 2 ^ 26 in
    unwrapped q 1 r v (omega arith) (omega arith)
    ∙ is_next r rest (n * 2 ^ 52)
    (parts_sum n r a c d e rest (sym (div-add-mod' r (2 ^ 26)))
    (unwrapped n (a * a) d x (omega arith) (product a a (omega arith) (omega arith)))
    (unwrapped (d * 2 ^ 26) (2 * a * c) e y (omega arith) (product (2 * a) c (omega arith) (omega arith)))
    (unwrapped (e * 2 ^ 26) (c * c) rest z (omega arith) (product c c (omega arith) (omega arith))))
    (omega arith) h k
