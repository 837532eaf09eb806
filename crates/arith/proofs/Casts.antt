-- A float without its fraction, as Rust's `as u64` has it. Assumes nothing.
use Rattle.std.proofs.Common.{◌≡◌, ℕ, ◌+◌, ◌-◌, ◌*◌, ◌/◌, ◌^◌, ◌<◌, ◌≤◌, min, Bool, true, false, T, ltb, ℤ, pos, sym, refl, ap, ◌∙◌, mul-le-mul_right, div-lt_iff_lt-mul, one-mul, le-div_iff_mul-le, arith, ltb→lt, lt→ltb}
use lib.Ieee.{Float, nan, inf, fin, up, down, lt, to_unsigned}
use lib.Ieee.Fits.{down_pos}
use lib.Ieee.Bits.{is_true}
use Rattle.arith.specs.Pick.{abs_of}
use Rattle.arith.proofs.Cmp.{never, holds, not_below}

-- ---- the ends of the range of `to_u64`: x not above -1, and x not below 2 ^ 64
some : (a d : ℕ) → 0 < d → ltb 0 (1 * 1 * d + a) ≡ true
some a d D = is_true (ltb 0 (1 * 1 * d + a)) (lt→ltb 0 (1 * 1 * d + a) (omega arith))

pub low_end : (x : Float) → lt (fin true 1 (pos 0)) x ≡ false → 0 ≡ to_unsigned 64 x
unfolding lt to_unsigned
low_end nan h = refl
low_end (inf true) h = refl
low_end (inf false) h = never h
low_end (fin true m e) h = refl
low_end (fin false m e) h = never (sym (some (m * up e * 1) (down e) (down_pos e)) ∙ h)

most : (a b : ℕ) → b ≤ a → b - 1 ≡ min a (b - 1)
most a b h = omega arith

positive : (a d : ℕ) → 0 < d → ltb 0 (a * 1 + 1 * 2 ^ 64 * d) ≡ true
positive a d D = is_true (ltb 0 (a * 1 + 1 * 2 ^ 64 * d)) (lt→ltb 0 (a * 1 + 1 * 2 ^ 64 * d) (omega arith))

pub high_end : (x : Float) → lt (fin true 1 (pos 0)) x ≡ true → lt x (fin false 1 (pos 64)) ≡ false → 2 ^ 64 - 1 ≡ to_unsigned 64 x
unfolding lt to_unsigned
high_end nan g h = never (sym g)
high_end (inf true) g h = never (sym g)
high_end (inf false) g h = refl
high_end (fin true m e) g h = never (sym (positive (m * up e) (down e) (down_pos e)) ∙ h)
high_end (fin false m e) g h =
    let l : 2 ^ 64 * down e ≤ m * up e = omega (arith, not_below (m * up e * 1) (1 * 2 ^ 64 * down e) h) in
    most (m * up e / down e) (2 ^ 64) ((le-div_iff_mul-le (down_pos e)).1 l)

-- ---- |x| below 2 ^ k, for a k of at most 64: it can be cut, and gives the whole part of its fraction
module _ (k : ℕ) (K : 2 ^ k ≤ 2 ^ 64) where
  below : (a d : ℕ) → ltb (a * 1) (1 * 2 ^ k * d) ≡ true → a < 2 ^ k * d
  below a d h = omega (arith, ltb→lt (a * 1) (1 * 2 ^ k * d) (holds h), ap (λ (z : ℕ). z * d) (one-mul (2 ^ k)))

  pub can_cut : (x : Float) → lt (abs_of x) (fin false 1 (pos k)) ≡ true → T (lt (fin true 1 (pos 0)) (abs_of x)) × T (lt (abs_of x) (fin false 1 (pos 64)))
  unfolding lt
  can_cut nan h = never (sym h)
  can_cut (inf s) h = never (sym h)
  can_cut (fin s m e) h =
      let l : m * up e * 1 < 1 * 2 ^ 64 * down e = omega (arith, below (m * up e) (down e) h, mul-le-mul_right (down e) K) in
      (holds (some (m * up e * 1) (down e) (down_pos e)), lt→ltb (m * up e * 1) (1 * 2 ^ 64 * down e) l)

  pub cut_small : (s : Bool) (m : ℕ) (e : ℤ) → lt (abs_of (fin s m e)) (fin false 1 (pos k)) ≡ true → m * up e / down e < 2 ^ k
  unfolding lt
  cut_small s m e h = (div-lt_iff_lt-mul (down_pos e)).1 (below (m * up e) (down e) h)

  pub cut_is : (s : Bool) (m : ℕ) (e : ℤ) → lt (abs_of (fin s m e)) (fin false 1 (pos k)) ≡ true → to_unsigned 64 (abs_of (fin s m e)) ≡ m * up e / down e
  unfolding to_unsigned
  cut_is s m e h = let l = cut_small s m e h in omega arith
