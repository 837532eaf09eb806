-- The parameter of a closed polyline of n segments: equal to t below n, and a zero at n. Assumes nothing.
use mathlib.Core.Path.{◌≡◌, ap, subst}
use mathlib.Core.Bool.{true, false}
use mathlib.Core.List.{List}
use Prim.Native.Nat.{ℕ, ◌+◌, ◌-◌, ◌*◌, ◌^◌, ◌≤◌, ◌<◌}
use native.Mathlib.Nat.{zero-mul, one-mul, mul-one, add-zero, mul-pos, mul-le-mul_right, lt_of_mul-lt-mul_right}
use native.Mathlib.Omega.{arith}
use lib.IntN.{pos, negsuc}
use lib.Dec.{T, ltb, ltb→lt}
use lib.ListN.{length}
use lib.Ieee.{Float, nan, inf, fin, binary64, lt, le, eq, fits, of_bits, of_int}
use lib.Ieee.Bits.{is_true}
use lib.Ieee.Fits.{and_l, of_int-fits}
use lib.Ieee.Scale.{finite}
use lib.Ieee.Positive.{den, den_pos}
use Rattle.arith_order.proofs.Signed.{plus, neg', zero_f, le→, lt→, no_minus, no_sign, ring}
use Rattle.arith_order.proofs.Rounds.{Rounds, sub_rounds, mul_rounds, div_rounds}
use Rattle.arith_order.proofs.Middle.{parts, above, under, zero_fits}
use Rattle.arith_order.proofs.Laws.{antisym, between, whole, lt→le, nle→lt}
use Rattle.arith.specs.Notation.{◌⊖◌, ◌⊗◌, ◌⊘◌, count, plus_zero}
use Rattle.arith.specs.Floor.{floor_of}
use Rattle.arith.proofs.Cmp.{holds, finite_number}
use Rattle.arith.proofs.Whole.{int_le}
use Rattle.math.specs.declared.Vec3.{Vec3}
use Rattle.curve.specs.Eval.{closes, polyline_parameter}
use Rattle.curve_iso.proofs.Taken.{Is, at_most, at_least, floor_is, zero_finite, no_sign_of}

-- ---- a z that rounds the value of a float of the format is that value
module _ (a z : Float) (p n c : ℕ) (F : T (fits binary64 a)) (A : T (finite a)) (r : Rounds binary64 z p n c) (C : 0 < c)
    (e : p * den a + neg' a * c ≡ plus a * c + n * den a) where
  not_below : T (le a z)
  not_below = above binary64 a z p n c F A r C (omega arith)

  not_above : T (le z a)
  not_above = under binary64 a z p n c F A r C (omega arith)

-- where the value is a whole number k, z is k
whole_law : (k c n d : ℕ) → (k * c + n) * d + 0 * c ≡ k * d * c + n * d
whole_law k c n d = simp (ring, zero-mul, add-zero)

rounds_whole : (z : Float) (p n c k : ℕ) → k ≤ 2 ^ 53 → Rounds binary64 z p n c → 0 < c → p ≡ k * c + n → Is z k
rounds_whole z p n c k K r C e =
    let a = count k in
    let w = whole binary64 k K in
    let F = of_int-fits binary64 (pos k) in
    let v : p * den a + neg' a * c ≡ plus a * c + n * den a = rw (e, w.1, w.2) (whole_law k c n (den a)) in
    let low = not_below a z p n c F w.0 r C v in
    let high = not_above a z p n c F w.0 r C v in
    let f = between a z a w.0 w.0 low high in
    let l = at_least k K z f (is_true (le a z) low) in
    let h = at_most k K z f (is_true (le z a) high) in
    let m = no_minus z (omega arith) in
    (f, omega arith, m)

-- ---- t / n of a float t below n is at most 1 - 2 ^ -53, a float
abbrev last : Float
last = fin false 9007199254740991 (negsuc 52)

last_fits : T (fits binary64 last)
unfolding fits
last_fits = tt

-- below a whole n there is a gap: t has 53 digits
gap : (t : Float) (n : ℕ) → T (fits binary64 t) → T (finite t) → n ≤ 2 ^ 53 → plus t < n * den t → plus t * 2 ^ 53 ≤ 9007199254740991 * (n * den t)
gap nan n F f b l = absurd f
gap (inf s) n F f b l = absurd f
gap (fin true m e) n F f b l = omega arith
gap (fin false m (pos k)) n F f b l = let c = mul-one n in omega arith
gap (fin false m (negsuc k)) n F f b l = let c = (parts binary64 false m (negsuc k) F).0 in omega arith

-- ---- t - floor (t / n) * n, where t / n is from k to below k + 1: the difference is not rounded where a float a is it
rest_law : (pt nt dt pz nz dz pa na da w : ℕ) → pz ≡ w * dz + nz → pt * da + na * dt ≡ pa * dt + nt * da + w * dt * da
    → (pt * dz + nz * dt) * da + na * (dt * dz) ≡ pa * (dt * dz) + (nt * dz + pz * dt) * da
rest_law pt nt dt pz nz dz pa na da w e h = let g = ap (λ (x : ℕ). x * dz) h in rw e (simp ring (omega (arith, simp ring at g)))

product_law : (k n d c : ℕ) → k * d * (n * c) + 0 * 0 ≡ k * n * (d * c) + (k * d * 0 + 0 * (n * c))
product_law k n d c = simp (ring, zero-mul, add-zero)

module _ (n : ℕ) (p : 0 < n) (b : n ≤ 2 ^ 53) (t : Float) (A : T (finite t)) where
  n_above : 0 < plus (count n)
  n_above = rw (whole binary64 n b).1 (mul-pos p (den_pos (count n)))

  quotient : Rounds binary64 (t ⊘ count n) (plus t * den (count n)) (neg' t * den (count n)) (plus (count n) * den t)
  quotient = div_rounds binary64 t (count n) A (whole binary64 n b).0 n_above

  divisor : 0 < plus (count n) * den t
  divisor = mul-pos n_above (den_pos t)

  module _ (k : ℕ) (K : k * n ≤ 2 ^ 53) (f : Float) (I : Is f k) where
    product : Is (f ⊗ count n) (k * n)
    product =
        let c = count n in
        let w = whole binary64 n b in
        rounds_whole (f ⊗ c) _ _ _ (k * n) K (mul_rounds binary64 f c I.0 w.0) (mul-pos (den_pos f) (den_pos c))
        (rw (I.1, I.2, w.1, w.2) (product_law k n (den f) (den c)))

    rest : (a : Float) → T (fits binary64 a) → T (finite a) → plus t * den a + neg' a * den t ≡ plus a * den t + neg' t * den a + k * n * den t * den a
        → eq (t ⊖ f ⊗ count n) a ≡ true
    rest a F B e =
        let z = f ⊗ count n in
        let i = product in
        let r = sub_rounds binary64 t z A i.0 in
        let C = mul-pos (den_pos t) (den_pos z) in
        let g = rest_law (plus t) (neg' t) (den t) (plus z) (neg' z) (den z) (plus a) (neg' a) (den a) (k * n) (omega (arith, i.1, i.2)) e in
        is_true (eq (t ⊖ z) a) (antisym (t ⊖ z) a (not_above a (t ⊖ z) _ _ _ F B r C g) (not_below a (t ⊖ z) _ _ _ F B r C g))

  -- k is 0: t below n
  module _ (F : T (fits binary64 t)) (z : neg' t ≡ 0) (l : plus t < n * den t) where
    quotient_low : T (le zero_f (t ⊘ count n))
    quotient_low = above binary64 zero_f (t ⊘ count n) _ _ _ (zero_fits binary64) tt quotient divisor (rw z (omega (arith, zero-mul (den (count n)), zero-mul (plus (count n) * den t))))

    quotient_high : T (le (t ⊘ count n) last)
    quotient_high = under binary64 last (t ⊘ count n) _ _ _ last_fits tt quotient divisor (rw (z, (whole binary64 n b).1) (law (plus t) (den t) (den (count n)) (gap t n F A b l)))
      where
        law : (a d c : ℕ) → a * 2 ^ 53 ≤ 9007199254740991 * (n * d) → a * c * 2 ^ 53 + 0 * (n * c * d) ≤ 9007199254740991 * 1 * (n * c * d) + 0 * c * 2 ^ 53
        law a d c h = let g = mul-le-mul_right c h in simp (ring, zero-mul, one-mul, add-zero) (simp ring at g)

    pub below_end : eq (t ⊖ floor_of (t ⊘ count n) ⊗ count n) t ≡ true
    below_end =
        let q = t ⊘ count n in
        let f = between zero_f q last tt tt quotient_low quotient_high in
        let s = no_sign q f quotient_low in
        let h = le→ q last f tt quotient_high in
        let d = den_pos q in
        let i = floor_is q 0 (omega arith) f s (omega (arith, zero-mul (den q))) (omega (arith, zero-mul (den q))) in
        rest 0 (omega (arith, zero-mul n)) (floor_of q) i t F A (omega (arith, zero-mul n, zero-mul (den t)))

-- k is 1: t is n
module _ (n : ℕ) (p : 0 < n) (b : n ≤ 2 ^ 53) where
  at_end : eq (count n ⊖ floor_of (count n ⊘ count n) ⊗ count n) plus_zero ≡ true
  unfolding of_bits
  at_end =
      let c = count n in
      let q = c ⊘ c in
      let w = whole binary64 n b in
      let o = rounds_whole q _ _ _ 1 (omega arith) (quotient n p b c w.0) (divisor n p b c w.0) (rw w.2 (omega (arith, zero-mul (den c)))) in
      let d = den_pos q in
      let i = floor_is q 1 (omega arith) o.0 o.2 (omega (arith, o.1)) (omega (arith, o.1)) in
      rest n p b c w.0 1 (omega arith) (floor_of q) i zero_f (zero_fits binary64) tt (rw (w.1, w.2) (omega arith))

-- ---- so a closed polyline's parameter
module _ (ps : List Vec3) (c : closes ps ≡ true) (b : length ps ≤ 2 ^ 53) where
  some : 0 < length ps - 1
  unfolding closes
  some = let h = ltb→lt 2 (length ps) (and_l (ltb 2 (length ps)) _ (holds c)) in omega arith

  span_above : lt plus_zero (count (length ps - 1)) ≡ true
  unfolding of_bits of_int
  span_above =
      let n = length ps - 1 in
      is_true (lt plus_zero (count n)) (nle→lt plus_zero (count n) tt (finite_number (count n) (whole binary64 n (omega arith)).0)
      (λ (h : T (le (count n) plus_zero)). let z = int_le n 0 (omega arith) (omega arith) h in let s = some in absurd (omega arith)))

  wraps : (t : Float) → let n = count (length ps - 1) in t ⊖ floor_of (t ⊘ n) ⊗ n ≡ polyline_parameter ps t
  unfolding polyline_parameter
  wraps t = rw (c, span_above)

  pub wrapped : (t : Float) → T (fits binary64 t) → le plus_zero t ≡ true → lt t (count (length ps - 1)) ≡ true → eq (polyline_parameter ps t) t ≡ true
  wrapped t F low high =
      let n = length ps - 1 in
      let x = count n in
      let w = whole binary64 n (omega arith) in
      let f = between plus_zero t x zero_finite w.0 (holds low) (lt→le t x (holds high)) in
      let z = no_sign_of t f low in
      let g = rw (w.1, w.2, z) at (lt→ t x f w.0 (holds high)) in
      let l : plus t < n * den t = lt_of_mul-lt-mul_right (den x) (simp ring (omega (arith, simp ring at g, zero-mul (den x), zero-mul (den t)))) in
      subst (λ (u : Float). eq u t ≡ true) (wraps t) (below_end n some (omega arith) t f F z l)

  pub ended : eq (polyline_parameter ps (count (length ps - 1))) plus_zero ≡ true
  ended = subst (λ (u : Float). eq u plus_zero ≡ true) (wraps (count (length ps - 1))) (at_end (length ps - 1) some (omega arith))
