-- Which segment of a run is taken, the one that holds the parameter, and how far along it the parameter lies. Assumes nothing.
use mathlib.Core.Path.{◌≡◌, refl, sym, ap, ◌∙◌, subst}
use mathlib.Core.Bool.{Bool, true, false, not, cond}
use Prim.Native.Nat.{ℕ, ◌+◌, ◌-◌, ◌*◌, ◌/◌, ◌%◌, ◌^◌, ◌≤◌, ◌<◌, min}
use native.Mathlib.Nat.{le_of_lt, le_trans, le_of_mul-le-mul_right, mul-le-mul_right, zero-mul, zero-mod, add-mul, mul-pos, le-mul_of_pos_right, div-add-mod', div-mul-le_self, div-lt_iff_lt-mul, div-eq_of_lt-le, div-eq_of_eq-mul_left, min-eq_left, min-eq_right}
use native.Mathlib.Omega.{arith}
use lib.Dec.{T, leb, leb→le, nleb→lt, eqb}
use lib.Ieee.{Float, nan, inf, fin, binary64, up, down, lt, le, fits, add, sub, of_bits, of_int, to_unsigned}
use lib.Ieee.Bits.{is_true}
use lib.Ieee.Fits.{down_pos}
use lib.Ieee.Scale.{finite}
use lib.Ieee.Positive.{den, den_pos}
use borrow.Author.Tests.{eqb-true}
use Rattle.arith_order.proofs.Signed.{plus, neg', zero_f, one_f, le→, le←, no_sign, ring}
use Rattle.arith_order.proofs.Rounds.{sub_rounds}
use Rattle.arith_order.proofs.Middle.{under}
use Rattle.arith_order.proofs.Modest.{sub_up}
use Rattle.arith_order.proofs.Laws.{number, number_right, le_refl, nlt→le, between, whole, whole_le}
use Rattle.arith.specs.Notation.{count, plus_zero}
use Rattle.arith.specs.Floor.{floor_of}
use Rattle.arith.proofs.Cmp.{holds as holds-true, finite_number}
use Rattle.arith.proofs.Floors.{picked, kept as whole-kept}
use Rattle.curve_parameter.specs.Run.{index_in, clamped_to, segment_index, segment_local}

-- ---- a float against a whole number that a float holds
module _ (k : ℕ) (K : k ≤ 2 ^ 53) (u : Float) (f : T (finite u)) where
  from_it : k * den u + neg' u ≤ plus u → le (count k) u ≡ true
  from_it h =
      let w = whole binary64 k K in
      let x = count k in
      let g = simp ring at (mul-le-mul_right (den x) h) in
      is_true (le x u) (le← x u w.0 f (rw (w.1, w.2) (simp ring (omega (arith, g, zero-mul (den u))))))

  up_to_it : plus u ≤ k * den u + neg' u → le u (count k) ≡ true
  up_to_it h =
      let w = whole binary64 k K in
      let x = count k in
      let g = simp ring at (mul-le-mul_right (den x) h) in
      is_true (le u x) (le← u x f w.0 (rw (w.1, w.2) (simp ring (omega (arith, g, zero-mul (den u))))))

  pub at_most : le u (count k) ≡ true → plus u ≤ k * den u + neg' u
  at_most h =
      let w = whole binary64 k K in
      let x = count k in
      let g = rw (w.1, w.2) at (le→ u x f w.0 (holds-true h)) in
      le_of_mul-le-mul_right {k = den x} (simp ring (omega (arith, simp ring at g, zero-mul (den u)))) (den_pos x)

  pub at_least : le (count k) u ≡ true → k * den u + neg' u ≤ plus u
  at_least h =
      let w = whole binary64 k K in
      let x = count k in
      let g = rw (w.1, w.2) at (le→ x u w.0 f (holds-true h)) in
      le_of_mul-le-mul_right {k = den x} (simp ring (omega (arith, simp ring at g, zero-mul (den u)))) (den_pos x)

-- ---- the floor of a q from k to below k + 1 is k
abbrev pub Is : Float → ℕ → Type 0
Is x k = T (finite x) × (plus x ≡ k * den x) × (neg' x ≡ 0)

pub floor_is : (q : Float) (k : ℕ) → k ≤ 2 ^ 53 → T (finite q) → neg' q ≡ 0 → k * den q ≤ plus q → plus q < k * den q + den q → Is (floor_of q) k
floor_is nan k K f z l h = absurd f
floor_is (inf s) k K f z l h = absurd f
floor_is (fin true m e) k K f z l h = subst (λ (x : Float). Is x k) (whole-kept true m e (rw (z, zero-mod (down e)))) (tt, omega arith, z)
floor_is (fin false m e) k K f z l h = go (eqb (m * up e % down e) 0) refl
  where
    quotient : m * up e / down e ≡ k
    quotient = div-eq_of_lt-le (down e) l (omega (arith, add-mul k 1 (down e)))

    go : (o : Bool) → eqb (m * up e % down e) 0 ≡ o → Is (floor_of (fin false m e)) k
    go true w =
        let r = ap (λ (x : ℕ). x * down e) quotient in
        subst (λ (x : Float). Is x k) (whole-kept false m e w) (tt, omega (arith, r, div-add-mod' (m * up e) (down e), eqb-true (m * up e % down e) 0 w), refl)
    go false w = subst (λ (x : Float). Is x k) (sym (picked false m e w ∙ ap count quotient)) (whole binary64 k K)

-- so the cast of a whole number gives it
cut : (x : Float) (k : ℕ) → k ≤ 2 ^ 53 → Is x k → to_unsigned 64 x ≡ k
unfolding to_unsigned
cut nan k K i = absurd i.0
cut (inf s) k K i = absurd i.0
cut (fin true m e) k K i = omega (arith, i.1, le-mul_of_pos_right k (down_pos e))
cut (fin false m e) k K i = omega (arith, div-eq_of_eq-mul_left (down_pos e) i.1)

-- ---- the segment taken
pub zero_finite : T (finite plus_zero)
unfolding of_bits
zero_finite = tt

pub no_sign_of : (u : Float) → T (finite u) → le plus_zero u ≡ true → neg' u ≡ 0
unfolding of_bits
no_sign_of u f h = no_sign u f (holds-true h)

-- u lies on a run of n segments: from 0 to n
abbrev pub On : ℕ → Float → Type 0
On n u = (le plus_zero u ≡ true) × (le u (count n) ≡ true)

-- segment i is one of n, and u lies on it: from i to i + 1
abbrev pub In : ℕ → ℕ → Float → Type 0
In n i u = (i < n) × (le (count i) u ≡ true) × (le u (count (i + 1)) ≡ true)

module _ (n : ℕ) (u : Float) (p : 0 < n) (b : n ≤ 2 ^ 53) (l : On n u) where
  pub is_finite : T (finite u)
  is_finite = between plus_zero u (count n) zero_finite (whole binary64 n b).0 (holds-true l.0) (holds-true l.1)

  hold_at : (i : ℕ) → i < n → i * den u ≤ plus u → plus u ≤ (i + 1) * den u → In n i u
  hold_at i h low high =
      let z = no_sign_of u is_finite l.0 in
      (h, from_it i (omega arith) u is_finite (omega arith), up_to_it (i + 1) (omega arith) u is_finite (omega arith))

  pub taken : In n (index_in (n - 1) u) u
  taken =
      let z = no_sign_of u is_finite l.0 in
      let q = plus u / den u in
      let d = den_pos u in
      let top : plus u ≤ n * den u = omega (arith, at_most n b u is_finite l.1) in
      let most : q < n + 1 = (div-lt_iff_lt-mul d).1 (omega (arith, add-mul n 1 (den u))) in
      let next : plus u < (q + 1) * den u = (div-lt_iff_lt-mul d).0 (omega arith) in
      let i = floor_is u q (omega arith) is_finite z (div-mul-le_self (plus u) (den u)) (omega (arith, next, add-mul q 1 (den u))) in
      subst (λ (k : ℕ). In n (min k (n - 1)) u) (sym (cut (floor_of u) q (omega arith) i)) (go (leb q (n - 1)) (leb→le q (n - 1)) (nleb→lt q (n - 1)) top)
    where
      go : (o : Bool) → (T o → plus u / den u ≤ n - 1) → (T (not o) → n - 1 < plus u / den u) → plus u ≤ n * den u → In n (min (plus u / den u) (n - 1)) u
      go true h k top =
          let q = plus u / den u in
          let s = h tt in
          subst (λ (j : ℕ). In n j u) (sym (min-eq_left s))
          (hold_at q (omega arith) (div-mul-le_self (plus u) (den u)) (le_of_lt ((div-lt_iff_lt-mul (den_pos u)).0 (omega arith))))
      go false h k top =
          let q = plus u / den u in
          let s = k tt in
          let e : n - 1 + 1 ≡ n = omega arith in
          subst (λ (j : ℕ). In n j u) (sym (min-eq_right (le_of_lt s)))
          (hold_at (n - 1) (omega arith) (le_trans (mul-le-mul_right (den u) (le_of_lt s)) (div-mul-le_self (plus u) (den u))) (rw e top))

-- ---- the parameter on the run
module _ (n : ℕ) (t : Float) where
  count_number : T (number (count n))
  count_number = number_right (count 0) (count n) (whole_le binary64 0 n (omega arith))

  zero_low : le plus_zero (count n) ≡ true
  unfolding of_bits of_int
  zero_low = is_true (le plus_zero (count n)) (whole_le binary64 0 n (omega arith))

  pub clamped_on : T (number t) → On n (clamped_to n t)
  clamped_on h = go (lt t plus_zero) (nlt→le t plus_zero h (finite_number plus_zero zero_finite)) (lt (count n) t) (nlt→le (count n) t count_number h)
    where
      go : (o : Bool) → (T (not o) → T (le plus_zero t)) → (p : Bool) → (T (not p) → T (le t (count n))) → On n (cond o plus_zero (cond p (count n) t))
      go true g p k = (is_true (le plus_zero plus_zero) (le_refl plus_zero (finite_number plus_zero zero_finite)), zero_low)
      go false g true k = (zero_low, is_true (le (count n) (count n)) (le_refl (count n) count_number))
      go false g false k = (is_true (le plus_zero t) (g tt), is_true (le t (count n)) (k tt))

-- ---- how far along the segment
-- a part of a whole: a NaN, or from 0 to 1
abbrev pub Part : Float → Type 0
Part x = T (number x) → T (le zero_f x) × T (le x one_f)

high_law : (p q c i d : ℕ) → p ≤ (i + 1) * d + q → (p * c + 0 * d) * 1 + 0 * (d * c) ≤ 1 * (d * c) + (q * c + i * c * d) * 1
high_law p q c i d h = let k = mul-le-mul_right c h in simp (ring, zero-mul) (omega (arith, simp ring at k))

-- u - i of a u on segment i
along : (n i : ℕ) (u : Float) → n ≤ 2 ^ 53 → T (finite u) → In n i u → T (le zero_f (sub binary64 u (count i))) × T (le (sub binary64 u (count i)) one_f)
unfolding fits
along n i u b f h =
    let x = count i in
    let w = whole binary64 i (omega arith) in
    let g = at_most (i + 1) (omega arith) u f h.2 in (
      sub_up u x f w.0 (holds-true h.1),
      under binary64 one_f (sub binary64 u x) (plus u * den x + neg' x * den u) (neg' u * den x + plus x * den u) (den u * den x) tt tt
          (sub_rounds binary64 u x f w.0) (mul-pos (den_pos u) (den_pos x)) (rw (w.1, w.2) (high_law (plus u) (neg' u) (den x) i (den u) g)),
    )

-- a NaN stays one
below_nan : (x : Float) → lt x nan ≡ false
unfolding lt
below_nan nan = refl
below_nan (inf s) = refl
below_nan (fin s m e) = refl

clamped_number : (n : ℕ) (t : Float) → T (number (clamped_to n t)) → T (number t)
unfolding lt
clamped_number n nan h = rw (below_nan (count n)) at h
clamped_number n (inf s) h = tt
clamped_number n (fin s m e) h = tt

sub_number : (x y : Float) → T (number (sub binary64 x y)) → T (number x)
unfolding sub add
sub_number nan y h = h
sub_number (inf s) y h = tt
sub_number (fin s m e) y h = tt

pub local_part : (n : ℕ) (t : Float) → 0 < n → n ≤ 2 ^ 53 → Part (segment_local n t)
local_part n t p b h =
    let l = clamped_on n t (clamped_number n t (sub_number (clamped_to n t) (count (segment_index n t)) h)) in
    along n (segment_index n t) (clamped_to n t) b (is_finite n (clamped_to n t) p b l) (taken n (clamped_to n t) p b l)
