-- x + 1.5 * 2 ^ 52, where the sum lies from 2 ^ 52 to 2 ^ 53 and is whole: it is less than 1 from what it rounds, so it tells the floor of x. Assumes nothing.
use Rattle.std.proofs.Common.{◌≡◌, ℕ, suc, ◌+◌, ◌-◌, ◌*◌, ◌/◌, ◌%◌, ◌^◌, ◌<◌, ◌≤◌, true, false, T, eqb, leb, pos, negsuc, sym, refl, ap, ◌∙◌, subst, le_trans, lt_of_lt_of_le, le_of_lt, lt_irrefl, mul-le-mul_right, add-mul, lt_of_mul-lt-mul_right, mul-pos, lt_of_not-le, zero-mul, mul-one, mul_right_comm, arith, lit<, lit≤, le→leb, leb→le, eq-eqb}
use native.Mathlib.Nat.{mul-mod_left}
use native.Mathlib.Nat.{div-eq_of_lt-le, eq_of_mul-eq-mul_right}
use lib.Dec.{leb-suc-suc, not_T}
use lib.Ieee.{Float, nan, inf, fin, binary64, up, down, minus, lt, le, of_int}
use lib.Ieee.Bits.{is_true, is_false}
use lib.Ieee.Fits.{of_int-fits, add-fits}
use lib.Ieee.Scale.{finite}
use lib.Ieee.Positive.{den, den_pos}
use Rattle.arith_order.proofs.Signed.{plus, neg', le→, lt→}
use Rattle.arith_order.proofs.Rounds.{Rounds, add_rounds}
use Rattle.arith_order.proofs.Lerp.{whole}
use Rattle.arith_order.proofs.Laws.{add_parts}
use Rattle.arith_order.proofs.Middle.{above, under}
use Rattle.arith.specs.Floor.{floor_of}
use Rattle.arith.specs.Notation.{◌⊕◌, ◌⊖◌, count}
use Rattle.arith.proofs.Cmp.{holds, refused, finite_number}
use Rattle.arith.proofs.Floors.{part, picked, kept}
use Rattle.arith.proofs.Whole.{bottom, top, Between, between, gap, int_le, sub_value, Shifted, shifted}

-- 1.5 * 2 ^ 52, as a number and as a float
abbrev pub base : ℕ
base = 6755399441055744

abbrev pub base_f : Float
base_f = fin false 3 (pos 51)

-- ---- S, the sum rounded, is less than 1 from x + base
pub record Near (x : Float) (S : ℕ) : Type 0 where
  pub is_finite : T (finite x)
  pub over : S * den x + neg' x < plus x + base * den x + den x
  pub below : plus x + base * den x < S * den x + den x + neg' x

-- both sides of an order times dk: k as a float has the parts pk, nk and dk
module _ (p n d k dk pk nk : ℕ) (a : pk ≡ k * dk) (b : nk ≡ 0) where
  left : (p * 1 + base * d) * dk + nk * (d * 1) ≡ (p + base * d) * dk
  left = rw b (omega (arith, add-mul (p * 1) (base * d) dk, add-mul p (base * d) dk, zero-mul (d * 1), ap (λ (z : ℕ). z * dk) (mul-one p)))

  right : pk * (d * 1) + (n * 1 + 0 * d) * dk ≡ (k * d + n) * dk
  right =
      let z : (n * 1 + 0 * d) * dk ≡ n * dk = ap (λ (w : ℕ). w * dk) (omega (arith, zero-mul d)) in
      let w : k * dk * (d * 1) ≡ k * d * dk = ap (λ (w : ℕ). k * dk * w) (mul-one d) ∙ mul_right_comm k dk d in
      rw a (omega (arith, add-mul (k * d) n dk))

module _ (x : Float) (S : ℕ) (l : 1 ≤ S) (h : S < 2 ^ 53) (e : x ⊕ base_f ≡ count S) where
  is_finite_lem : T (finite x)
  is_finite_lem = (add_parts binary64 x base_f (subst (λ (z : Float). T (finite z)) (sym e) (whole binary64 S (le_of_lt h)).0)).0

  abbrev Sum : Float → Type 0
  Sum z = Rounds binary64 z (plus x * 1 + base * den x) (neg' x * 1 + 0 * den x) (den x * 1)

  rounds : Sum (count S)
  rounds = subst Sum e (add_rounds binary64 x base_f is_finite_lem tt)

  -- a whole k at or above x + base is at or above S; one at or below it is at or below S
  module _ (k : ℕ) (K : k ≤ 2 ^ 53) where
    at_most : plus x + base * den x ≤ k * den x + neg' x → S ≤ k
    at_most g =
        let v = whole binary64 k K in
        let a = count k in
        let t = mul-le-mul_right (den a) g in
        let i = left (plus x) (neg' x) (den x) k (den a) (plus a) (neg' a) v.1 v.2 in
        let j = right (plus x) (neg' x) (den x) k (den a) (plus a) (neg' a) v.1 v.2 in
        int_le S k (le_of_lt h) K
        (under binary64 a (count S) (plus x * 1 + base * den x) (neg' x * 1 + 0 * den x) (den x * 1)
        (of_int-fits binary64 (pos k)) v.0 rounds (mul-pos (den_pos x) (lit< tt)) (omega arith))

    at_least : k * den x + neg' x ≤ plus x + base * den x → k ≤ S
    at_least g =
        let v = whole binary64 k K in
        let a = count k in
        let t = mul-le-mul_right (den a) g in
        let i = left (plus x) (neg' x) (den x) k (den a) (plus a) (neg' a) v.1 v.2 in
        let j = right (plus x) (neg' x) (den x) k (den a) (plus a) (neg' a) v.1 v.2 in
        int_le k S K (le_of_lt h)
        (above binary64 a (count S) (plus x * 1 + base * den x) (neg' x * 1 + 0 * den x) (den x * 1)
        (of_int-fits binary64 (pos k)) v.0 rounds (mul-pos (den_pos x) (lit< tt)) (omega arith))

  pub near : Near x S
  near = record { is_finite = is_finite_lem; over = lt_of_not-le too_high; below = lt_of_not-le too_low }
    where
      too_high : plus x + base * den x + den x ≤ S * den x + neg' x → ⊥
      too_high g =
          let k = S - 1 in
          let s : S ≡ k + 1 = omega arith in
          let t : S * den x ≡ k * den x + 1 * den x = ap (λ (z : ℕ). z * den x) s ∙ add-mul k 1 (den x) in
          let z = at_most k (omega arith) (omega arith) in
          omega arith

      too_low : S * den x + den x + neg' x ≤ plus x + base * den x → ⊥
      too_low g = let z = at_least (S + 1) (omega arith) (omega (arith, add-mul S 1 (den x))) in omega arith

-- ---- x against z = S - base
balance : (px nx dx pz nz dz S : ℕ) → pz + base * dz ≡ S * dz + nz
    → pz * dx + nx * dz + (px + base * dx) * dz ≡ px * dz + nz * dx + (S * dx + nx) * dz
balance px nx dx pz nz dz S h =
    let e = simp add-mul at (ap (λ (z : ℕ). z * dx) h) in
    omega (arith, mul_right_comm base dx dz, mul_right_comm S dx dz, add-mul px (base * dx) dz, add-mul (S * dx) nx dz)

module _ (x z : Float) (S : ℕ) (f : T (finite x)) (g : Shifted z S base) where
  scale : plus z * den x + neg' x * den z + (plus x + base * den x) * den z ≡ plus x * den z + neg' z * den x + (S * den x + neg' x) * den z
  scale = balance (plus x) (neg' x) (den x) (plus z) (neg' z) (den z) S g.1

  pub below_it : T (lt x z) → plus x + base * den x < S * den x + neg' x
  below_it h = lt_of_mul-lt-mul_right (den z) (omega (arith, lt→ x z f g.0 h, scale))

  pub above_it : T (lt z x) → S * den x + neg' x < plus x + base * den x
  above_it h = lt_of_mul-lt-mul_right (den z) (omega (arith, lt→ z x g.0 f h, scale))

  pub at_it : T (le x z) → T (le z x) → plus x + base * den x ≡ S * den x + neg' x
  at_it h k =
      eq_of_mul-eq-mul_right (den z) (den_pos z) (plus x + base * den x) (S * den x + neg' x)
      (omega (arith, le→ x z f g.0 h, le→ z x g.0 f k, scale))

-- ---- the floor of an x that lies strictly between K - base and the next whole number
minus_up : (K : ℕ) → base ≤ K → minus K base ≡ pos (K - base)
minus_up K h = rw (is_true (leb base K) (le→leb base K h))

minus_down : (K : ℕ) → K < base → minus K base ≡ negsuc (base - suc K)
minus_down K h = rw (is_false (leb base K) (not_T (leb base K) (λ (t : T (leb base K)). lt_irrefl K (lt_of_lt_of_le h (leb→le base K t)))))

quotient : (a d k : ℕ) → k * d < a → a < k * d + d → a / d ≡ k
quotient a d k l h = div-eq_of_lt-le d (le_of_lt l) (omega (arith, add-mul k 1 d))

pub between_two : (x : Float) (K : ℕ) → T (finite x) → K * den x + neg' x < plus x + base * den x → plus x + base * den x < K * den x + den x + neg' x
    → of_int binary64 (minus K base) ≡ floor_of x
between_two nan K f l h = absurd f
between_two (inf s) K f l h = absurd f
between_two (fin false m e) K f l h =
    let a = m * up e in
    let d = down e in
    let k = K - base in
    let g : base < K + 1 = lt_of_mul-lt-mul_right d (omega (arith, add-mul K 1 d)) in
    let s : K * d ≡ k * d + base * d = ap (λ (z : ℕ). z * d) (omega arith) ∙ add-mul k base d in
    let q : a / d ≡ k = quotient a d k (omega arith) (omega arith) in
    ap (of_int binary64) (minus_up K (omega arith) ∙ ap pos (sym q)) ∙ sym (picked false m e (part a d k q (omega arith)))
between_two (fin true m e) K f l h =
    let a = m * up e in
    let d = down e in
    let k = base - suc K in
    let g : K < base = lt_of_mul-lt-mul_right d (omega arith) in
    let s : base * d ≡ (K + k + 1) * d = ap (λ (z : ℕ). z * d) (omega arith) in
    let t : base * d ≡ K * d + k * d + d = omega (arith, add-mul (K + k) 1 d, add-mul K k d) in
    let q : a / d ≡ k = quotient a d k (omega arith) (omega arith) in
    ap (of_int binary64) (minus_down K g ∙ ap negsuc (sym q)) ∙ sym (picked true m e (part a d k q (omega arith)))

-- and of one that is S - base
multiple : (a d k : ℕ) → a ≡ k * d → eqb (a % d) 0 ≡ true
multiple a d k h = eq-eqb (a % d) 0 (ap (λ (z : ℕ). z % d) h ∙ mul-mod_left k d)

pub at_whole : (x : Float) (S : ℕ) → T (finite x) → plus x + base * den x ≡ S * den x + neg' x → x ≡ floor_of x
at_whole nan S f h = absurd f
at_whole (inf s) S f h = absurd f
at_whole (fin false m e) S f h = kept false m e (multiple (m * up e) (down e) (S - base) (omega (arith, gap S base (down e))))
at_whole (fin true m e) S f h = kept true m e (multiple (m * up e) (down e) (base - S) (omega (arith, gap base S (down e))))

-- ---- the three cases of `floor`
-- base + 1
abbrev next_f : Float
next_f = fin false 6755399441055745 (pos 0)

one_more : (k : ℕ) → minus (suc k) (suc base) ≡ minus k base
one_more k =
    let p : suc k - suc base ≡ k - base = omega arith in
    let q : suc base - suc (suc k) ≡ base - suc k = omega arith in
    rw (leb-suc-suc base k, p, q)

module _ (x : Float) (a : le bottom (x ⊕ base_f) ≡ true) (b : lt (x ⊕ base_f) top ≡ true) where
  pub sum_is : Between (x ⊕ base_f)
  sum_is = between (x ⊕ base_f) (add-fits binary64 x base_f) a b

  one_at_least : 1 ≤ sum_is.number
  one_at_least = le_trans (lit≤ tt) sum_is.low

  off : x ⊕ base_f ⊖ base_f ≡ of_int binary64 (minus sum_is.number base)
  off = sub_value (x ⊕ base_f) base_f sum_is.number base sum_is.value (refl, refl)

  one_less : x ⊕ base_f ⊖ next_f ≡ of_int binary64 (minus (sum_is.number - 1) base)
  one_less =
      let k = sum_is.number - 1 in
      let e : sum_is.number ≡ suc k = omega (arith, one_at_least) in
      sub_value (x ⊕ base_f) next_f sum_is.number (suc base) sum_is.value (refl, refl)
      ∙ ap (λ (n : ℕ). of_int binary64 (minus n (suc base))) e
      ∙ ap (of_int binary64) (one_more k)

  pub is_near_lem : Near x sum_is.number
  is_near_lem = near x sum_is.number one_at_least sum_is.high sum_is.is

  pub off_parts : Shifted (x ⊕ base_f ⊖ base_f) sum_is.number base
  off_parts =
      subst (λ (z : Float). Shifted z sum_is.number base) (sym off)
      (shifted sum_is.number base (le_of_lt sum_is.high) (lit≤ tt))

  pub floor_below : lt x (x ⊕ base_f ⊖ base_f) ≡ true → x ⊕ base_f ⊖ next_f ≡ floor_of x
  floor_below h =
      let S = sum_is.number in
      let k = S - 1 in
      let s : S ≡ k + 1 = omega (arith, sum_is.low) in
      let e : S * den x ≡ k * den x + 1 * den x = ap (λ (z : ℕ). z * den x) s ∙ add-mul k 1 (den x) in
      let g = below_it x (x ⊕ base_f ⊖ base_f) S is_near_lem.is_finite off_parts (holds h) in
      let o = is_near_lem.over in
      one_less ∙ between_two x k is_near_lem.is_finite (omega arith) (omega arith)

  pub floor_above : lt (x ⊕ base_f ⊖ base_f) x ≡ true → x ⊕ base_f ⊖ base_f ≡ floor_of x
  floor_above h =
      let g = above_it x (x ⊕ base_f ⊖ base_f) sum_is.number is_near_lem.is_finite off_parts (holds h) in
      off ∙ between_two x sum_is.number is_near_lem.is_finite g is_near_lem.below

  pub floor_at : lt x (x ⊕ base_f ⊖ base_f) ≡ false → lt (x ⊕ base_f ⊖ base_f) x ≡ false → x ≡ floor_of x
  floor_at h k =
      let n = x ⊕ base_f ⊖ base_f in
      let f = finite_number x is_near_lem.is_finite in
      let g = finite_number n off_parts.0 in
      at_whole x sum_is.number is_near_lem.is_finite
      (at_it x n sum_is.number is_near_lem.is_finite off_parts (refused n x g f k) (refused x n f g h))
