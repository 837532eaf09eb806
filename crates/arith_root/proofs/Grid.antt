-- From bit patterns to whole numbers of units and back, for the root of a positive finite binary64. A unit is 2 ^ -1074, and every such
-- float is a whole number of them.
-- Assumes nothing.
use Rattle.std.proofs.Common.{◌≡◌, ℕ, zero, suc, ◌+◌, ◌-◌, ◌*◌, ◌/◌, ◌%◌, ◌^◌, ◌<◌, ◌≤◌, Bool, true, false, cond, not, T, eqb, ltb, leb, ℤ, sym, refl, ap, ◌∙◌, subst, true≢false, le_trans, le_of_eq, lt_of_lt_of_le, lt_of_le_of_lt, le_of_lt, lt_irrefl, mul-le-mul_right, mod-lt, mod-eq_of_lt, mul_assoc, suc-mul, mul_comm, mul-le-mul, le_antisymm, mul-le-mul_left, mul-lt-mul_of_pos_right, mul-pos, one-mul, pow-suc, lt_of_not-le, zero-add, zero-mul, mul-one, mul-div_cancel, mul_left_comm, arith, lit<, lit≤, eqb→eq, ltb→lt, lt→ltb, leb→le, pow_pos, pow_mono, pow-add}
use lib.Dec.{not_T}
use lib.Count.{count_leading_zeros, leading_top}
use lib.Ieee.{Float, nan, inf, fin, binary64, up, down, size, odd, units, of_fields, of_bits, to_bits, fits, nan_bits}
use lib.Ieee.Bits.{is_true, is_false, of_bits-to_bits, nan_bits_above}
use lib.Ieee.Fits.{down_pos, odd-fits}
use lib.Ieee.Digits.{size-lt, size-le}
use lib.Ieee.Exact.{odd_sign, units_val}
use Rattle.arith_root.specs.Root.{near_root, root_units, root_of}
use Rattle.arith_root.specs.Ieee.{Units}
use Rattle.arith_root.proofs.Whole.{not_above, nearest}

-- ---- its root, and its pattern
cut : (m : ℕ) (e : ℤ) (a : ℕ) → m * up e * 2 ^ 1074 ≡ a * down e → m * up e * 2 ^ 1074 / down e ≡ a
cut m e a h = ap (λ (x : ℕ). x / down e) h ∙ mul-div_cancel a (down_pos e)

pub root_at : (v : Float) (a : ℕ) → Units v a → 0 < a → root_of v ≡ root_units a
unfolding root_of
root_at nan a h p = absurd h
root_at (inf s) a h p = absurd h
root_at (fin true m e) a h p = absurd (true≢false h.0)
root_at (fin false zero e) a h p = absurd
    (lt_irrefl 0 (lt_of_lt_of_le (mul-pos p (down_pos e)) (le_of_eq (sym h.1 ∙ ap (λ (x : ℕ). x * 2 ^ 1074) (zero-mul (up e))
    ∙ zero-mul (2 ^ 1074)))))
root_at (fin false (suc m) e) a h p = ap root_units (cut (suc m) e a h.1)

bits_at : (v : Float) (a : ℕ) → Units v a → to_bits binary64 v ≡ (size a - 53) * 2 ^ 52 + a / 2 ^ (size a - 53)
unfolding to_bits
bits_at nan a h = absurd h
bits_at (inf s) a h = absurd h
bits_at (fin true m e) a h = absurd (true≢false h.0)
bits_at (fin false m e) a h = ap (λ (n : ℕ). 0 + (size n - 53) * 2 ^ 52 + n / 2 ^ (size n - 53)) (cut m e a h.1)
    ∙ ap (λ (x : ℕ). x + a / 2 ^ (size a - 53)) (zero-add ((size a - 53) * 2 ^ 52))

-- ---- how many binary digits a number has
size_is : (n z : ℕ) → 2 ^ z ≤ n → n < 2 ^ (z + 1) → size n ≡ z + 1
size_is n z lo hi = le_antisymm (size-le n (z + 1) hi)
    (not_above (z + 1) (size n) (λ (k : size n < z + 1). lt_irrefl n (lt_of_lt_of_le (size-lt n) (le_trans (pow_mono {j = z} (omega arith)) lo))))

-- q * 2 ^ k, for a q of 53
pub size_shift : (q k : ℕ) → 2 ^ 52 ≤ q → q < 2 ^ 53 → size (q * 2 ^ k) ≡ 52 + k + 1
size_shift q k lo hi =
    size_is (q * 2 ^ k) (52 + k)
    (subst (λ (x : ℕ). x ≤ q * 2 ^ k) (sym (pow-add 2 52 k)) (mul-le-mul_right (2 ^ k) lo))
    (subst (λ (x : ℕ). q * 2 ^ k < x) (sym (pow-add 2 53 k) ∙ ap (λ (x : ℕ). 2 ^ x) e) (mul-lt-mul_of_pos_right hi (pow_pos k)))
  where
    e : 53 + k ≡ 52 + k + 1
    e = omega arith

-- ---- out: the pattern of q * 2 ^ k units, for a q of 53 digits
module _ (q k : ℕ) (lo : 2 ^ 52 ≤ q) (hi : q < 2 ^ 53) (under : k ≤ 2000) where
  finite : q * 2 ^ k < 2 ^ 2098
  finite = lt_of_le_of_lt (mul-le-mul (le_of_lt hi) (pow_mono {j = 2000} under)) (lit< tt)

  pub units_fit : T (fits binary64 (units binary64 false q k))
  unfolding units
  units_fit =
      subst (λ (b : Bool). T (fits binary64 (cond b (odd 54 false q k 1074) (inf false))))
      (sym (is_true (ltb (q * 2 ^ k) (2 ^ 2098)) (lt→ltb (q * 2 ^ k) (2 ^ 2098) finite)))
      (odd-fits binary64 54 false q k (lt_of_lt_of_le hi (lit≤ tt)) (le_of_lt hi) finite)

  pub units_units : Units (units binary64 false q k) (q * 2 ^ k)
  units_units = units_val binary64 false q k finite

  pattern : (size (q * 2 ^ k) - 53) * 2 ^ 52 + q * 2 ^ k / 2 ^ (size (q * 2 ^ k) - 53) ≡ k * 2 ^ 52 + q
  pattern =
      let z = size_shift q k lo hi in
      let w : size (q * 2 ^ k) - 53 ≡ k = omega arith in
      ap (λ (x : ℕ). x * 2 ^ 52 + q * 2 ^ k / 2 ^ x) w ∙ ap (λ (x : ℕ). k * 2 ^ 52 + x) (mul-div_cancel q (pow_pos k))

  out : of_bits binary64 (k * 2 ^ 52 + q) ≡ units binary64 false q k
  out = ap (λ (x : ℕ). of_bits binary64 x) (sym (bits_at (units binary64 false q k) (q * 2 ^ k) units_units ∙ pattern))
      ∙ of_bits-to_bits binary64 (units binary64 false q k) units_fit

-- ---- in: the units of the pattern with the field x and the digits t
abbrev pub units_of : ℕ → ℕ → ℕ
units_of zero t = t
units_of (suc x) t = (2 ^ 52 + t) * 2 ^ x

fields_value : (x t : ℕ) → x < 2047 → Units (of_fields binary64 false x t) (units_of x t)
unfolding of_fields
fields_value zero t h = subst (λ (y : ℕ). Units (odd 53 false t 0 1074) y) (mul-one t) (odd_sign 53 false t 0 1074)
fields_value (suc x) t h =
    subst (λ (b : Bool). Units (cond b (cond (eqb t 0) (inf false) nan) (odd 53 false (2 ^ 52 + t) x 1074)) ((2 ^ 52 + t) * 2 ^ x))
    (sym (is_false (eqb (suc x) 2047) (not_T (eqb (suc x) 2047) (λ (u : T (eqb (suc x) 2047)). bad (eqb→eq (suc x) 2047 u)))))
    (odd_sign 53 false (2 ^ 52 + t) x 1074)
  where
    bad : suc x ≡ 2047 → ⊥
    bad e = omega arith

module _ (b : ℕ) (h : b < 2047 * 2 ^ 52) where
  pub value_of : Units (of_bits binary64 b) (units_of (b / 2 ^ 52) (b % 2 ^ 52))
  unfolding of_bits
  value_of =
      let s : leb (2 ^ 63) b ≡ false = is_false (leb (2 ^ 63) b) (not_T (leb (2 ^ 63) b) (λ (u : T (leb (2 ^ 63) b)). bad (leb→le (2 ^ 63) b u))) in
      let r : b % 2 ^ 63 ≡ b = mod-eq_of_lt (omega arith) in
      subst (λ (o : Bool). Units (of_fields binary64 o (b % 2 ^ 63 / 2 ^ 52) (b % 2 ^ 52)) (units_of (b / 2 ^ 52) (b % 2 ^ 52))) (sym s)
      (subst (λ (y : ℕ). Units (of_fields binary64 false (y / 2 ^ 52) (b % 2 ^ 52)) (units_of (b / 2 ^ 52) (b % 2 ^ 52))) (sym r)
      (fields_value (b / 2 ^ 52) (b % 2 ^ 52) (omega arith)))
    where
      bad : 2 ^ 63 ≤ b → ⊥
      bad k = omega arith

  pub no_nan_pattern : T (not (nan_bits binary64 b))
  no_nan_pattern = subst (λ (o : Bool). T (not o)) (sym (nan_bits_above binary64 b))
      (not_T (ltb (2047 * 2 ^ 52) (b % 2 ^ 63)) (λ (t : T (ltb (2047 * 2 ^ 52) (b % 2 ^ 63))). bad (ltb→lt (2047 * 2 ^ 52) (b % 2 ^ 63) t)))
    where
      bad : 2047 * 2 ^ 52 < b % 2 ^ 63 → ⊥
      bad k = omega arith

-- ---- the number N under the root: m, doubled where z is even, times 2 ^ 52
abbrev pub under : ℕ → ℕ → ℕ
under m z = m * (2 - z % 2) * 2 ^ 52

twice : (z : ℕ) → 2 * 2 ^ z ≡ (2 - z % 2) * 2 ^ (2 * ((z + 1) / 2))
twice z = go (z % 2) refl
  where
    go : (r : ℕ) → z % 2 ≡ r → 2 * 2 ^ z ≡ (2 - r) * 2 ^ (2 * ((z + 1) / 2))
    go zero e = let w : z ≡ 2 * ((z + 1) / 2) = omega arith in ap (λ (x : ℕ). 2 * 2 ^ x) w
    go (suc zero) e =
        let w : 1 + z ≡ 2 * ((z + 1) / 2) = omega arith in
        sym (pow-add 2 1 z) ∙ ap (λ (x : ℕ). 2 ^ x) w ∙ sym (one-mul (2 ^ (2 * ((z + 1) / 2))))
    go (suc (suc r)) e = omega arith

four_pow : (y : ℕ) → 4 ^ y ≡ 2 ^ (2 * y)
four_pow zero = refl
four_pow (suc y) =
    let e : 2 * suc y ≡ 2 * y + 2 = omega arith in
    pow-suc 4 y ∙ ap (λ (x : ℕ). x * 4) (four_pow y) ∙ sym (pow-add 2 (2 * y) 2) ∙ ap (λ (x : ℕ). 2 ^ x) (sym e)

-- n has z digits, and M is n moved to 53 digits
pub record Scaled (n M z : ℕ) : Type 0 where
  pub least : 2 ^ 52 ≤ M
  pub most : M < 2 ^ 53
  pub few : z ≤ 2100
  pub digits : size n ≡ z
  pub same : n * 2 ^ 53 ≡ M * 2 ^ z

pub under_range : (M z : ℕ) → 2 ^ 52 ≤ M → M < 2 ^ 53 → (2 ^ 104 ≤ under M z) × (under M z + 2 ^ 53 ≤ 2 ^ 106)
under_range M z a b = go (z % 2) (mod-lt z (lit< tt))
  where
    go : (r : ℕ) → r < 2 → (2 ^ 104 ≤ M * (2 - r) * 2 ^ 52) × (M * (2 - r) * 2 ^ 52 + 2 ^ 53 ≤ 2 ^ 106)
    go zero h = (omega arith, omega arith)
    go (suc zero) h = (omega arith, omega arith)
    go (suc (suc r)) h = omega arith

below_square : (b N q : ℕ) → N + suc b ≤ suc b * suc b → q * q < N + q → suc b ≤ q → ⊥
below_square b N q h k l = omega (arith, simp suc-mul at (mul-le-mul_right q l), simp suc-mul at h, mul-le-mul_left b l)

module _ (M z : ℕ) (lo : 2 ^ 52 ≤ M) (hi : M < 2 ^ 53) where
  -- the root's digits: 53 of them
  pub q_range : (2 ^ 52 ≤ near_root (under M z)) × (near_root (under M z) < 2 ^ 53)
  q_range = let h = under_range M z lo hi in let g = nearest (under M z) (omega arith) (omega arith) in
      (low (under M z) (near_root (under M z)) h.0 g.1, high (under M z) (near_root (under M z)) h.1 g.0)
    where
      low : (N q : ℕ) → 2 ^ 104 ≤ N → N ≤ q * q + q → 2 ^ 52 ≤ q
      low N q h k = not_above (2 ^ 52) q (λ (l : q < 2 ^ 52). bad (simp suc-mul at (mul-le-mul_right q l)) l)
        where
          bad : q * q + q ≤ 2 ^ 52 * q → q < 2 ^ 52 → ⊥
          bad x y = omega arith

      high : (N q : ℕ) → N + 2 ^ 53 ≤ 2 ^ 106 → q * q < N + q → q < 2 ^ 53
      high N q h k = lt_of_not-le (λ (l : 2 ^ 53 ≤ q). below_square (2 ^ 53 - 1) N q h k l)

  -- a pattern of the root fits a word
  pub room : (p q : ℕ) → p ≤ 2000 → q ≡ near_root (under M z) → p * 2 ^ 52 + q < 2 ^ 64
  room p q k e = short (near_root (under M z)) e q_range.1
    where
      short : (r : ℕ) → q ≡ r → r < 2 ^ 53 → p * 2 ^ 52 + q < 2 ^ 64
      short r e h = omega arith

module _ (n M z : ℕ) (h : Scaled n M z) where
  pub exact : n * 2 ^ 106 ≡ under M z * 2 ^ (2 * ((z + 1) / 2))
  exact = sym (mul_assoc n (2 ^ 53) (2 ^ 53)) ∙ ap (λ (x : ℕ). x * 2 ^ 53) h.same ∙ split M (2 ^ z)
      ∙ ap (λ (x : ℕ). M * x * 2 ^ 52) (twice z) ∙ moved M (2 - z % 2) (2 ^ (2 * ((z + 1) / 2)))
    where
      split : (a b : ℕ) → a * b * 2 ^ 53 ≡ a * (2 * b) * 2 ^ 52
      split a b = omega (arith, mul_left_comm a 2 b)

      moved : (a b c : ℕ) → a * (b * c) * 2 ^ 52 ≡ a * b * 2 ^ 52 * c
      moved a b c = simp (mul_assoc, mul_comm)

  under_root : n * 4 ^ 53 / 4 ^ ((z + 1) / 2) ≡ under M z
  under_root = ap (λ (x : ℕ). n * 4 ^ 53 / x) (four_pow ((z + 1) / 2)) ∙ ap (λ (x : ℕ). x / 2 ^ (2 * ((z + 1) / 2))) exact
      ∙ mul-div_cancel (under M z) (pow_pos (2 * ((z + 1) / 2)))

  pub root_units_lem : root_units n ≡ units binary64 false (near_root (under M z)) ((z + 1) / 2 + 484)
  unfolding root_units
  root_units_lem = ap (λ (y : ℕ). units binary64 false (near_root (n * 4 ^ 53 / 4 ^ ((y + 1) / 2))) ((y + 1) / 2 + 484)) h.digits
      ∙ ap (λ (x : ℕ). units binary64 false (near_root x) ((z + 1) / 2 + 484)) under_root

  pub root_bits : of_bits binary64 (((z + 1) / 2 + 484) * 2 ^ 52 + near_root (under M z)) ≡ root_units n
  root_bits = let q = q_range M z h.least h.most in out (near_root (under M z)) ((z + 1) / 2 + 484) q.0 q.1
      (omega (arith, h.few)) ∙ sym root_units_lem

-- ---- a normal pattern with the field suc x and the digits t
pub scaled_normal : (x t : ℕ) → suc x < 2047 → t < 2 ^ 52 → Scaled (units_of (suc x) t) (t + 2 ^ 52) (suc x + 52)
scaled_normal x t h k =
    let c : 2 ^ 52 + t ≡ t + 2 ^ 52 = omega arith in
    let z : 52 + x + 1 ≡ suc x + 52 = omega arith in
    let w : 53 + x ≡ suc x + 52 = omega arith in
    record {
      least = omega arith;
      most = omega arith;
      few = omega arith;
      digits = size_shift (2 ^ 52 + t) x (omega arith) (omega arith) ∙ z;
      same = mul_assoc (2 ^ 52 + t) (2 ^ x) (2 ^ 53)
          ∙ ap (λ (y : ℕ). (2 ^ 52 + t) * y) (mul_comm (2 ^ x) (2 ^ 53) ∙ sym (pow-add 2 53 x) ∙ ap (λ (y : ℕ). 2 ^ y) w)
          ∙ ap (λ (y : ℕ). y * 2 ^ (suc x + 52)) c;
    }

-- ---- a subnormal one with the digits t, and l zeros above them in a word
pub record Moved (t l : ℕ) : Type 0 where
  pub low : 11 ≤ l
  pub high : l ≤ 64
  pub scaled : Scaled t (t * 2 ^ (l - 11) % 2 ^ 64) (64 - l)

moved_at : (t l j : ℕ) → l + suc j ≡ 64 → 2 ^ j ≤ t → t < 2 ^ suc j → t < 2 ^ 52 → Moved t l
moved_at t l j e lo hi h =
    let d : j < 52 = lt_of_not-le (λ (k : 52 ≤ j). lt_irrefl t (lt_of_lt_of_le h (le_trans (pow_mono {j = j} k) lo))) in
    let a : 11 ≤ l = omega arith in
    let x : t * 2 ^ (l - 11) < 2 ^ 53 = subst (λ (y : ℕ). t * 2 ^ (l - 11) < y)
    (sym (pow-add 2 (suc j) (l - 11)) ∙ ap (λ (y : ℕ). 2 ^ y) (f1 a)) (mul-lt-mul_of_pos_right hi (pow_pos (l - 11))) in
    let y : 2 ^ 52 ≤ t * 2 ^ (l - 11) = subst (λ (y : ℕ). y ≤ t * 2 ^ (l - 11)) (sym (pow-add 2 j (l - 11)) ∙ ap (λ (y : ℕ). 2 ^ y) (f2 a))
    (mul-le-mul_right (2 ^ (l - 11)) lo) in
    let r : t * 2 ^ (l - 11) ≡ t * 2 ^ (l - 11) % 2 ^ 64 = sym (mod-eq_of_lt (lt_of_lt_of_le x (lit≤ tt))) in
    let z : j + 1 ≡ 64 - l = omega arith in
    let w : suc j ≡ j + 1 = omega arith in
    record {
      low = a;
      high = omega arith;
      scaled = subst (λ (M : ℕ). Scaled t M (64 - l)) r
          (record {
            least = y;
            most = x;
            few = omega arith;
            digits = size_is t j lo (subst (λ (y : ℕ). t < 2 ^ y) w hi) ∙ z;
            same = sym (mul_assoc t (2 ^ (l - 11)) (2 ^ (64 - l))
                ∙ ap (λ (y : ℕ). t * y) (sym (pow-add 2 (l - 11) (64 - l)) ∙ ap (λ (y : ℕ). 2 ^ y) (f3 a)));
          });
    }
  where
    f1 : 11 ≤ l → suc j + (l - 11) ≡ 53
    f1 a = omega arith

    f2 : 11 ≤ l → j + (l - 11) ≡ 52
    f2 a = omega arith

    f3 : 11 ≤ l → l - 11 + (64 - l) ≡ 53
    f3 a = omega arith

pub moved : (t : ℕ) → 0 < t → t < 2 ^ 52 → Moved t (count_leading_zeros 64 t)
moved t p h = let z = leading_top 64 t p (lt_of_lt_of_le h (lit≤ tt)) in moved_at t (count_leading_zeros 64 t) z.0 z.1 z.2 z.3 h

-- ---- every positive pattern below the infinity's
pub scaled_bits : (x t : ℕ) → x < 2047 → t < 2 ^ 52 → 0 < x * 2 ^ 52 + t → (M : ℕ) × (z : ℕ) × Scaled (units_of x t) M z
scaled_bits zero t h k p = (_, _, (moved t (omega arith) k).scaled)
scaled_bits (suc x) t h k p = (_, _, scaled_normal x t h k)

pub positive_units : (x t : ℕ) → 0 < x * 2 ^ 52 + t → 0 < units_of x t
positive_units zero t p = omega arith
positive_units (suc x) t p = mul-pos {m = 2 ^ 52 + t} (omega arith) (pow_pos x)

pub root_of_bits : (b x t : ℕ) → b < 2047 * 2 ^ 52 → b / 2 ^ 52 ≡ x → b % 2 ^ 52 ≡ t → 0 < units_of x t
    → root_units (units_of x t) ≡ root_of (of_bits binary64 b)
root_of_bits b x t h e f p = sym
    (root_at (of_bits binary64 b) (units_of x t) (subst (λ (n : ℕ). Units (of_bits binary64 b) n)
    (ap (λ (y : ℕ). units_of y (b % 2 ^ 52)) e ∙ ap (units_of x) f) (value_of b h)) p)
