-- lo + (hi - lo) * (i / n), each operation rounded, goes one way as i grows. Assumes nothing.
use mathlib.Core.Path.{◌≡◌, refl, sym, ◌∙◌, subst}
use Prim.Native.Nat.{ℕ, zero, suc, ◌+◌, ◌*◌, ◌^◌, ◌≤◌, ◌<◌}
use native.Mathlib.Nat.{add-zero, zero-add, zero-mul, mul-zero, one-mul, mul-one, le_trans, zero-lt-suc, mul-le-mul_right, mul-le-mul_left, mul-pos}
use native.Mathlib.Omega.{arith}
use mathlib.Core.Bool.{Bool, true, false}
use lib.IntN.{pos}
use lib.Dec.{T}
use lib.Ieee.{Float, nan, inf, fin, Format, prec, binary32, binary64, up, down, round, add, sub, mul, div, le, fits, of_int}
use lib.Ieee.Fits.{sub-fits}
use lib.Ieee.Exact.{HasValue}
use lib.Ieee.Back.{round_whole}
use lib.Ieee.Order.{round_mono}
use lib.Ieee.Scale.{finite}
use lib.Ieee.Positive.{den, den_pos}
use Rattle.arith_order.proofs.Signed.{P, N, plus, neg', le→, no_sign, ring}
pub use Rattle.arith_order.proofs.Signed.{zero_f, one_f, no_minus}
use Rattle.arith_order.proofs.Rounds.{mul_rounds, div_rounds}
use Rattle.arith_order.proofs.Mono.{add_mono_right, mul_mono_right, mul_turns_right, div_mono_by}
use Rattle.arith_order.proofs.Middle.{zero_fits, above, under, between}

-- ---- a whole number up to 2 ^ prec, as a float
abbrev Whole : Float → ℕ → Type 0
Whole x n = T (finite x) × (plus x ≡ n * den x) × (neg' x ≡ 0)

whole_parts : (x : Float) (n : ℕ) → HasValue x false n 1 → Whole x n
whole_parts nan n h = absurd h
whole_parts (inf s) n h = absurd h
whole_parts (fin false m e) n h = (tt, sym (mul-one (m * up e)) ∙ h.1, refl)
whole_parts (fin true m e) n h = absurd (subst T h.0 tt)

-- it is finite, and the number
pub whole : (f : Format) (n : ℕ) → n ≤ 2 ^ prec f → Whole (of_int f (pos n)) n
unfolding of_int
whole f n h = whole_parts (round f false n 1) n (round_whole f false n h)

-- their order is that of the numbers
pub whole_le : (f : Format) (i j : ℕ) → i ≤ j → T (le (of_int f (pos i)) (of_int f (pos j)))
unfolding of_int
whole_le f i j h = round_mono f i 1 j 1 (zero-lt-suc 0) (zero-lt-suc 0) (mul-le-mul_right 1 h)

-- ---- i / n for i ≤ n is from 0 to 1
one_fits : (f : Format) → T (fits f one_f)
unfolding fits
one_fits binary32 = tt
one_fits binary64 = tt

module _ (f : Format) (n : ℕ) (np : 0 < n) (nb : n ≤ 2 ^ prec f) where
  n_finite : T (finite (of_int f (pos n)))
  n_finite = (whole f n nb).0

  above_zero : 0 < plus (of_int f (pos n))
  above_zero = rw (whole f n nb).1 (mul-pos np (den_pos (of_int f (pos n))))

  pub quot_low : (i : ℕ) → i ≤ n → T (le zero_f (div f (of_int f (pos i)) (of_int f (pos n))))
  quot_low i h =
      let x = of_int f (pos i) in
      let y = of_int f (pos n) in
      let w = whole f i (le_trans h nb) in
      above f zero_f (div f x y) (plus x * den y) (neg' x * den y) (plus y * den x) (zero_fits f) tt
      (div_rounds f x y w.0 n_finite above_zero) (mul-pos above_zero (den_pos x))
      (rw w.2 (omega (arith, zero-mul (den y), zero-mul (plus y * den x))))

  pub quot_high : (i : ℕ) → i ≤ n → T (le (div f (of_int f (pos i)) (of_int f (pos n))) one_f)
  quot_high i h =
      let x = of_int f (pos i) in
      let y = of_int f (pos n) in
      let w = whole f i (le_trans h nb) in
      under f one_f (div f x y) (plus x * den y) (neg' x * den y) (plus y * den x) (one_fits f) tt
      (div_rounds f x y w.0 n_finite above_zero) (mul-pos above_zero (den_pos x))
      (rw (w.2, w.1, (whole f n nb).1) (small (den x) (den y)))
    where
      small : (a b : ℕ) → i * a * b * 1 + 0 * (n * b * a) ≤ 1 * (n * b * a) + 0 * b * 1
      small a b = let k = mul-le-mul_right (a * b) h in simp (ring, zero-mul, mul-zero, add-zero, one-mul) k

  pub quot_finite : (i : ℕ) → i ≤ n → T (finite (div f (of_int f (pos i)) (of_int f (pos n))))
  quot_finite i h = between zero_f (div f (of_int f (pos i)) (of_int f (pos n))) one_f tt tt (quot_low i h) (quot_high i h)

  quot_mono : (i j : ℕ) → i ≤ j → j ≤ n → T (le (div f (of_int f (pos i)) (of_int f (pos n))) (div f (of_int f (pos j)) (of_int f (pos n))))
  quot_mono i j h k = div_mono_by f (of_int f (pos i)) (of_int f (pos j)) (of_int f (pos n)) (whole f i (le_trans (le_trans h k) nb)).0
      (whole f j (le_trans k nb)).0 n_finite above_zero (whole_le f i j h)

-- ---- d * q for a q from 0 to 1 is no further from 0 than d: so it is finite
abbrev with_sign : Bool → Float → Float
with_sign s nan = nan
with_sign s (inf t) = inf t
with_sign s (fin t m e) = fin s m e

sized : (f : Format) (s : Bool) (d : Float) → T (fits f d) → T (fits f (with_sign s d))
unfolding fits
sized f s nan h = h
sized f s (inf t) h = h
sized f s (fin t zero e) h = h
sized f s (fin t (suc m) e) h = h

-- a * (b * c) with b at most d
under_law : (a b c d : ℕ) → b ≤ d → a * b * c ≤ a * (c * d)
under_law a b c d h = let k = mul-le-mul_left (a * c) h in simp ring (simp ring at k)

pub part_finite : (f : Format) (d q : Float) → T (fits f d) → T (finite d) → T (finite q) → T (le zero_f q) → T (le q one_f) → T (finite (mul f d q))
part_finite f nan q F D Q l h = absurd D
part_finite f (inf s) q F D Q l h = absurd D
part_finite f (fin s m e) q F D Q l h =
    let d = fin s m e in
    let z = no_sign q Q l in
    let k : plus q ≤ den q = omega (arith, le→ q one_f Q tt h, z, zero-mul (den q), mul-one (plus q)) in
    let R = mul_rounds f d q D Q in
    between (fin true m e) (mul f d q) (fin false m e) tt tt
    (above f (fin true m e) (mul f d q) (plus d * plus q + neg' d * neg' q) (plus d * neg' q + neg' d * plus q) (den d * den q)
    (sized f true d F) tt R (mul-pos (den_pos d) (den_pos q)) (rw z (lower s (m * up e) k)))
    (under f (fin false m e) (mul f d q) (plus d * plus q + neg' d * neg' q) (plus d * neg' q + neg' d * plus q) (den d * den q)
    (sized f false d F) tt R (mul-pos (den_pos d) (den_pos q)) (rw z (upper s (m * up e) k)))
  where
    lower : (s : Bool) (a : ℕ) → plus q ≤ den q
        → 0 * (down e * den q) + (P s a * 0 + N s a * plus q) * down e ≤ (P s a * plus q + N s a * 0) * down e + a * (down e * den q)
    lower true a k = simp (zero-mul, mul-zero, zero-add) (under_law a (plus q) (down e) (den q) k)
    lower false a k = simp (zero-mul, mul-zero, zero-add, add-zero) (omega arith)

    upper : (s : Bool) (a : ℕ) → plus q ≤ den q
        → (P s a * plus q + N s a * 0) * down e + 0 * (down e * den q) ≤ a * (down e * den q) + (P s a * 0 + N s a * plus q) * down e
    upper true a k = simp (zero-mul, mul-zero, zero-add) (omega arith)
    upper false a k = simp (zero-mul, mul-zero, add-zero) (under_law a (plus q) (down e) (den q) k)

-- ---- lo + (hi - lo) * (i / n)
abbrev pub lerp : Format → Float → Float → ℕ → ℕ → Float
lerp f lo hi i n = add f lo (mul f (sub f hi lo) (div f (of_int f (pos i)) (of_int f (pos n))))

module _ (f : Format) (lo hi : Float) (n i j : ℕ) (L : T (finite lo)) (D : T (finite (sub f hi lo))) (np : 0 < n) (nb : n ≤ 2 ^ prec f)
    (h : i ≤ j) (k : j ≤ n) where
  part : (u : ℕ) → u ≤ n → T (finite (mul f (sub f hi lo) (div f (of_int f (pos u)) (of_int f (pos n)))))
  part u g = part_finite f (sub f hi lo) (div f (of_int f (pos u)) (of_int f (pos n))) (sub-fits f hi lo) D (quot_finite f n np nb u g)
      (quot_low f n np nb u g) (quot_high f n np nb u g)

  pub lerp_rises : T (le zero_f (sub f hi lo)) → T (le (lerp f lo hi i n) (lerp f lo hi j n))
  lerp_rises p =
      let d = sub f hi lo in
      let x = div f (of_int f (pos i)) (of_int f (pos n)) in
      let y = div f (of_int f (pos j)) (of_int f (pos n)) in
      let X = quot_finite f n np nb i (le_trans h k) in
      let Y = quot_finite f n np nb j k in
      add_mono_right f (mul f d x) (mul f d y) lo (part i (le_trans h k)) (part j k) L
      (mul_mono_right f x y d X Y D p (quot_mono f n np nb i j h k))

  pub lerp_falls : T (le (sub f hi lo) zero_f) → T (le (lerp f lo hi j n) (lerp f lo hi i n))
  lerp_falls p =
      let d = sub f hi lo in
      let x = div f (of_int f (pos i)) (of_int f (pos n)) in
      let y = div f (of_int f (pos j)) (of_int f (pos n)) in
      let X = quot_finite f n np nb i (le_trans h k) in
      let Y = quot_finite f n np nb j k in
      add_mono_right f (mul f d y) (mul f d x) lo (part j k) (part i (le_trans h k)) L
      (mul_turns_right f x y d X Y D p (quot_mono f n np nb i j h k))
