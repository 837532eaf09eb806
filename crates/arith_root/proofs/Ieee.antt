-- `root_of` is the square root of IEEE 754, rounded to nearest even, on every binary64 (`ieee_root`). Assumes nothing.
use Rattle.std.proofs.Common.{◌≡◌, ℕ, zero, suc, ◌+◌, ◌-◌, ◌*◌, ◌^◌, ◌<◌, ◌≤◌, Bool, true, false, not, T, leb, ◌⊎◌, pos, negsuc, sym, refl, ap, ◌∙◌, subst, inl, inr, le_trans, le_of_eq, lt_of_lt_of_le, lt_of_le_of_lt, le_of_lt, lt_irrefl, mul-le-mul_right, mul_assoc, suc-mul, mul-le-mul, lt_of_mul-lt-mul_right, eq-or-lt_of_le, mul-le-mul_left, mul-lt-mul_of_pos_right, mul-pos, mul-one, sub-add_cancel, mul_right_comm, arith, leb→le, pow_pos, pow_mono, pow-add}
use native.Mathlib.Nat.{eq_of_mul-eq-mul_right}
use lib.Dec.{nleb→lt}
use lib.Ieee.{Float, nan, inf, fin, binary64, fits, lt, eq}
use lib.Ieee.Bits.{is_true}
use lib.Ieee.Positive.{positive}
use Rattle.arith_order.proofs.Middle.{parts, shallow}
use Rattle.arith_order.proofs.Signed.{zero_f, ring}
use Rattle.arith_root.specs.Root.{root_of}
use Rattle.arith_root.specs.Ieee.{Units, Nearest, SquareRoot}
use Rattle.arith_root.proofs.Whole.{square_of}
use Rattle.arith_root.proofs.Cases.{zero_root, neg_root, between}
use Rattle.arith_root.proofs.RootDigits.{RootDigits, digits_root}

-- ---- a binary64 is m * 2 ^ j units for an m of at most 53 digits
grid : (y : Float) (b : ℕ) → T (fits binary64 y) → Units y b → (m : ℕ) × (j : ℕ) × (m < 2 ^ 53) × (b ≡ m * 2 ^ j)
grid nan b F u = absurd u
grid (inf s) b F u = absurd u
grid (fin s m (pos k)) b F u = (
  m,
  k + 1074,
  (parts binary64 s m (pos k) F).0,
  sym (u.1 ∙ mul-one b) ∙ mul_assoc m (2 ^ k) (2 ^ 1074)
      ∙ ap (λ (x : ℕ). m * x) (sym (pow-add 2 k 1074)),
)
grid (fin s m (negsuc k)) b F u =
    let p = parts binary64 s m (negsuc k) F in
    let e : 2 ^ (1074 - suc k) * 2 ^ suc k ≡ 2 ^ 1074 = sym (pow-add 2 (1074 - suc k) (suc k))
    ∙ ap (λ (x : ℕ). 2 ^ x) (sub-add_cancel (shallow (suc k) 1074 p.1)) in (
      m,
      1074 - suc k,
      p.0,
      eq_of_mul-eq-mul_right (2 ^ suc k) (pow_pos (suc k)) b (m * 2 ^ (1074 - suc k)) (sym u.1 ∙ ap (λ (x : ℕ). x * 2 ^ 1074)
          (mul-one m) ∙ ap (λ (x : ℕ). m * x) (sym e) ∙ sym (mul_assoc m (2 ^ (1074 - suc k)) (2 ^ suc k))),
    )

-- so it is a multiple of 2 ^ k units, or below 2 ^ 52 * 2 ^ k of them
spaced : (m j k : ℕ) → m < 2 ^ 53 → ((c : ℕ) × (m * 2 ^ j ≡ c * 2 ^ k)) ⊎ (m * 2 ^ j < 2 ^ 52 * 2 ^ k)
spaced m j k h = go (leb k j) (leb→le k j) (nleb→lt k j)
  where
    go : (o : Bool) → (T o → k ≤ j) → (T (not o) → j < k) → ((c : ℕ) × (m * 2 ^ j ≡ c * 2 ^ k)) ⊎ (m * 2 ^ j < 2 ^ 52 * 2 ^ k)
    go true f g = inl (
      m * 2 ^ (j - k),
      ap (λ (x : ℕ). m * x) (ap (λ (x : ℕ). 2 ^ x) (sym (sub-add_cancel (f tt))) ∙ pow-add 2 (j - k) k)
          ∙ sym (mul_assoc m (2 ^ (j - k)) (2 ^ k)),
    )
    go false f g =
        let w : 2 ^ 53 * 2 ^ j ≡ 2 ^ 52 * 2 ^ (1 + j) = mul_assoc (2 ^ 52) 2 (2 ^ j) ∙ ap (λ (x : ℕ). 2 ^ 52 * x) (sym (pow-add 2 1 j)) in
        inr (lt_of_lt_of_le (mul-lt-mul_of_pos_right h (pow_pos j)) (le_trans (le_of_eq w) (mul-le-mul_left (2 ^ 52) (pow_mono {j = k}
        (omega (arith, g tt))))))

-- ---- the squares of the midpoints, with P = 2 ^ k: r is q * P and y is b
upper : (q N P b : ℕ) → 0 < P → N ≤ q * q + q → (q + 1) * P ≤ b → N * 4 * (P * P) < (q * P + b) * (q * P + b)
upper q N P b p h l =
    let c : (2 * q + 1) * P ≤ q * P + b = simp ring (omega (arith, simp ring at l)) in
    let s : N * 4 < (2 * q + 1) * (2 * q + 1) = simp ring (omega arith) in
    lt_of_lt_of_le (mul-lt-mul_of_pos_right s (mul-pos p p)) (le_trans (le_of_eq (sym (square_of (2 * q + 1) P))) (mul-le-mul c c))

lower : (q N P b : ℕ) → 0 < P → q * q < N + q → b + P ≤ q * P → (q * P + b) * (q * P + b) < N * 4 * (P * P)
lower zero N P b p h l = absurd (lt_irrefl 0 (lt_of_lt_of_le p (bad l)))
  where
    bad : b + P ≤ 0 * P → P ≤ 0
    bad l = omega arith
lower (suc q) N P b p h l =
    let e : suc q ≡ q + 1 = omega arith in
    let c : suc q * P + b ≤ (2 * q + 1) * P = rw e (simp ring (omega (arith, simp ring at (rw e at l)))) in
    let s : (2 * q + 1) * (2 * q + 1) < N * 4 = simp ring (omega (arith, simp ring at (rw e at h))) in
    lt_of_le_of_lt (le_trans (mul-le-mul c c) (le_of_eq (square_of (2 * q + 1) P))) (mul-lt-mul_of_pos_right s (mul-pos p p))

-- below a power of two the floats are twice as dense, and there √N is not below q
edge : (N P b : ℕ) → 0 < P → 2 ^ 104 ≤ N → b < 2 ^ 52 * P → (2 ^ 52 * P + b) * (2 ^ 52 * P + b) < N * 4 * (P * P)
edge N P b p h l =
    let c : 2 ^ 52 * P + b < 2 ^ 53 * P = omega arith in
    let s : 2 ^ 53 * 2 ^ 53 ≤ N * 4 = omega arith in
    lt_of_lt_of_le (lt_of_le_of_lt (mul-le-mul_left (2 ^ 52 * P + b) (le_of_lt c)) (mul-lt-mul_of_pos_right c (mul-pos (pow_pos 53) p)))
    (le_trans (le_of_eq (square_of (2 ^ 53) P)) (mul-le-mul_right (P * P) s))

-- ---- so the next float up is (q + 1) * P at least, and the next one down (q - 1) * P at most, but for q = 2 ^ 52
step_up : (q k m j : ℕ) → 2 ^ 52 ≤ q → m < 2 ^ 53 → q * 2 ^ k < m * 2 ^ j → (q + 1) * 2 ^ k ≤ m * 2 ^ j
step_up q k m j lo h l =
    elim (spaced m j k h) [
      | inl (c, e) ↦ let w : q + 1 ≤ c = less c (lt_of_mul-lt-mul_right (2 ^ k) (rw e at l)) in rw e (mul-le-mul_right (2 ^ k) w)
      | inr s ↦ absurd (lt_irrefl (q * 2 ^ k) (lt_of_lt_of_le l (le_trans (le_of_lt s) (mul-le-mul_right (2 ^ k) lo))))
    ]
  where
    less : (c : ℕ) → q < c → q + 1 ≤ c
    less c h = omega arith

step_down : (q k m j : ℕ) → 2 ^ 52 ≤ q → m < 2 ^ 53 → m * 2 ^ j < q * 2 ^ k
    → (m * 2 ^ j + 2 ^ k ≤ q * 2 ^ k) ⊎ ((q ≡ 2 ^ 52) × (m * 2 ^ j < 2 ^ 52 * 2 ^ k))
step_down q k m j lo h l =
    elim (spaced m j k h) [
      | inl (c, e) ↦ inl (rw e (whole c (lt_of_mul-lt-mul_right (2 ^ k) (rw e at l))))
      | inr s ↦ elim (eq-or-lt_of_le lo) [ inl e ↦ inr (sym e, s) | inr g ↦ inl (le_trans (under (m * 2 ^ j) s) (mul-le-mul_right (2 ^ k) g)) ]
    ]
  where
    whole : (c : ℕ) → c < q → c * 2 ^ k + 2 ^ k ≤ q * 2 ^ k
    whole c h = simp (suc-mul) at (mul-le-mul_right (2 ^ k) h)

    under : (b : ℕ) → b < 2 ^ 52 * 2 ^ k → b + 2 ^ k ≤ suc (2 ^ 52) * 2 ^ k
    under b h = omega arith

lower_side : (q N k m j : ℕ) → 2 ^ 104 ≤ N → q * q < N + q → 2 ^ 52 ≤ q → m < 2 ^ 53 → m * 2 ^ j < q * 2 ^ k
    → (q * 2 ^ k + m * 2 ^ j) * (q * 2 ^ k + m * 2 ^ j) < N * 4 * (2 ^ k * 2 ^ k)
lower_side q N k m j lo c g h l = elim
    (step_down q k m j g h l) [
      | inl d ↦ lower q N (2 ^ k) (m * 2 ^ j) (pow_pos k) c d
      | inr (e, s) ↦ rw e
          (edge N (2 ^ k) (m * 2 ^ j) (pow_pos k) lo s)
    ]

-- what has the digits of the root is nearest to it
nearest_digits : (n : ℕ) (r : Float) → RootDigits n r → Nearest n r
nearest_digits n r D =
    let N = D.N in
    let q = D.q in
    let k = D.k in
    let P = 2 ^ k in
    let e : n * 2 ^ 1076 ≡ N * 4 * (P * P) = sym (mul_assoc n (2 ^ 1074) 4) ∙ ap (λ (x : ℕ). x * 4) D.scale ∙ mul_right_comm N (P * P) 4 in
    record {
      a = q * P;
      value = D.value;
      format = D.format;
      above = λ y b F u l.
          let d = grid y b F u in
          subst (λ (x : ℕ). x < (q * P + b) * (q * P + b)) (sym e)
          (upper q N P b (pow_pos k) D.near.1 (rw d.3 (step_up q k d.0 d.1 D.least d.2 (rw d.3 at l))));
      below = λ y b F u l.
          let d = grid y b F u in
          subst (λ (x : ℕ). (q * P + b) * (q * P + b) < x) (sym e)
          (rw d.3 (lower_side q N k d.0 d.1 D.long D.near.0 D.least d.2 (rw d.3 at l)));
    }

-- every positive finite binary64
pub nearest_root : (x : Float) → T (fits binary64 x) → T (positive x) → (n : ℕ) × Units x n × Nearest n (root_of x)
nearest_root x F p = let d = digits_root x F p in (d.0, d.1, nearest_digits d.0 (root_of x) d.2)

pub ieee_root : (x : Float) → T (fits binary64 x) → SquareRoot x (root_of x)
ieee_root x F =
    record {
      of_nan = λ e. ap root_of e ∙ (unfold root_of in refl);
      of_infinity = λ e. ap root_of e ∙ (unfold root_of in refl);
      of_negative = λ t. sym (neg_root x (is_true (lt x zero_f) t));
      of_zero = λ t. sym (zero_root x (is_true (eq x zero_f) t));
      of_positive = λ p q. nearest_root x F (between x p q);
    }

-- so what `root` answers by its definition is that root
pub as_ieee : (x r : Float) → T (fits binary64 x) → r ≡ root_of x → (r ≡ root_of x) × SquareRoot x r
as_ieee x r F e = (e, subst (SquareRoot x) (sym e) (ieee_root x F))
