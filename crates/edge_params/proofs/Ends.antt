-- How far from 0 an end of a range can lie that is computed from others: what shows that such a range can be sampled.
-- Assumes nothing.
use Rattle.std.proofs.Common.{◌≡◌, ℕ, suc, ◌+◌, ◌*◌, ◌^◌, ◌<◌, ◌≤◌, Bool, true, false, cond, T, add-zero, mul-le-mul_right, mul-le-mul_left, mul-pos, one-mul, pow-suc, mul-zero, zero-add, zero-mul, mul-one, arith, lt→ltb, pow_mono}
use lib.Pow.{pow-lt}
use lib.Ieee.{Float, nan, inf, fin, binary64, fits, le, neg}
use lib.Ieee.Scale.{finite}
use lib.Ieee.Positive.{den, den_pos}
use lib.Ieee.Fits.{add-fits}
use Rattle.arith.specs.Notation.{◌⊕◌, ◌⊖◌, ◌⊗◌}
use Rattle.arith.specs.Pick.{abs_of}
use Rattle.math.specs.declared.Interval.{Interval}
use Rattle.math.specs.Math.{at}
use Rattle.arith_order.proofs.Signed.{plus, neg', ring, le→, le←, le_trans, neg_le}
use Rattle.arith_order.proofs.Rounds.{Rounds, add_rounds, sub_rounds, mul_rounds}
use Rattle.arith_order.proofs.Lerp.{zero_f, one_f, no_minus}
use Rattle.arith_order.proofs.Middle.{above, under, between}
use Rattle.arith_order.proofs.Modest.{big}
use Rattle.edge_params.proofs.Runs.{Good}

-- at most 2 ^ k from 0
abbrev pub Size : ℕ → Float → Type 0
Size k x = T (le (big k true) x) × T (le x (big k false))

pub size_finite : (k : ℕ) (x : Float) → Size k x → T (finite x)
size_finite k x m = between (big k true) x (big k false) tt tt m.0 m.1

-- ---- the powers of 2
big_fits : (k : ℕ) (s : Bool) → k ≤ 1023 → T (fits binary64 (big k s))
unfolding fits
big_fits k s h = rw (one-mul, mul-one) (lt→ltb (2 ^ k) (2 ^ 1024) (pow-lt {i = k} {j = 1024} (omega arith)))

big_up : (k j : ℕ) → k ≤ j → T (le (big k false) (big j false))
big_up k j h = le← (big k false) (big j false) tt tt (simp (one-mul, mul-one, add-zero) (pow_mono h))

big_down : (k j : ℕ) → k ≤ j → T (le (big j true) (big k true))
unfolding neg
big_down k j h = neg_le (big k false) (big j false) (big_up k j h)

pub size_grows : (k j : ℕ) (x : Float) → k ≤ j → Size k x → Size j x
size_grows k j x h s =
    (le_trans (big j true) (big k true) x (big_down k j h) s.0, le_trans x (big k false) (big j false) s.1 (big_up k j h))

pub size_good : (k : ℕ) (x : Float) → k ≤ 60 → T (fits binary64 x) → Size k x → Good x
size_good k x h F s = record { fits64 = F; modest = size_grows k 60 x h s }

-- the sign taken off
pub abs_size : (k : ℕ) (x : Float) → Size k x → Size k (abs_of x)
unfolding neg
abs_size k nan s = s
abs_size k (inf true) s = absurd (size_finite k (inf true) s)
abs_size k (inf false) s = s
abs_size k (fin false m e) s = s
abs_size k (fin true m e) s = (neg_le (fin true m e) (big k false) s.1, neg_le (big k true) (fin true m e) s.0)

-- one of two ends
pub good_either : (t : Bool) (x y : Float) → Good x → Good y → Good (cond t x y)
good_either true x y X Y = X
good_either false x y X Y = Y

-- ---- a size in whole numbers, b standing for 2 ^ k
record Parts (b : ℕ) (x : Float) : Type 0 where
  pub over : plus x ≤ b * den x + neg' x
  pub below : neg' x ≤ b * den x + plus x

size_parts : (k : ℕ) (x : Float) → Size k x → Parts (2 ^ k) x
size_parts k x m =
    let F = size_finite k x m in
    let u = le→ x (big k false) F tt m.1 in
    let v = le→ (big k true) x tt F m.0 in
    record {
      over = omega (arith, simp (one-mul, mul-one, zero-mul, add-zero) at u);
      below = omega (arith, simp (one-mul, mul-one, zero-mul, zero-add) at v);
    }

-- what is (p - n) / c rounded lies within 2 ^ k where (p - n) / c does
pub parts_size : (k : ℕ) (z : Float) (p n c : ℕ) → k ≤ 1023 → Rounds binary64 z p n c → 0 < c
    → p ≤ 2 ^ k * c + n → n ≤ 2 ^ k * c + p → Size k z
parts_size k z p n c h r C u v = (
  above binary64 (big k true) z p n c (big_fits k true h) tt r C (simp (one-mul, mul-one, zero-mul, zero-add) (omega arith)),
  under binary64 (big k false) z p n c (big_fits k false h) tt r C (simp (one-mul, mul-one, zero-mul, add-zero) (omega arith)),
)

-- ---- a + s and a - s of two within 2 ^ k lie within 2 ^ (k + 1)
sum_law : (b pa na da ps ns ds : ℕ) → pa ≤ b * da + na → ps ≤ b * ds + ns
    → pa * ds + ps * da ≤ b * 2 * (da * ds) + (na * ds + ns * da)
sum_law b pa na da ps ns ds h k =
    let u = mul-le-mul_right ds h in
    let v = mul-le-mul_right da k in
    simp ring (omega (arith, simp ring at u, simp ring at v))

module _ (k : ℕ) (small : k < 1023) (a s : Float) (A : Size k a) (S : Size k s) where
  pa : Parts (2 ^ k) a
  pa = size_parts k a A

  ps : Parts (2 ^ k) s
  ps = size_parts k s S

  pub add_size : Size (suc k) (a ⊕ s)
  add_size =
      parts_size (suc k) (a ⊕ s) (plus a * den s + plus s * den a) (neg' a * den s + neg' s * den a) (den a * den s)
      (omega arith) (add_rounds binary64 a s (size_finite k a A) (size_finite k s S)) (mul-pos (den_pos a) (den_pos s))
      (rw (pow-suc 2 k) (sum_law (2 ^ k) (plus a) (neg' a) (den a) (plus s) (neg' s) (den s) pa.over ps.over))
      (rw (pow-suc 2 k) (sum_law (2 ^ k) (neg' a) (plus a) (den a) (neg' s) (plus s) (den s) pa.below ps.below))

  pub sub_size : Size (suc k) (a ⊖ s)
  sub_size =
      parts_size (suc k) (a ⊖ s) (plus a * den s + neg' s * den a) (neg' a * den s + plus s * den a) (den a * den s)
      (omega arith) (sub_rounds binary64 a s (size_finite k a A) (size_finite k s S)) (mul-pos (den_pos a) (den_pos s))
      (rw (pow-suc 2 k) (sum_law (2 ^ k) (plus a) (neg' a) (den a) (neg' s) (plus s) (den s) pa.over ps.below))
      (rw (pow-suc 2 k) (sum_law (2 ^ k) (neg' a) (plus a) (den a) (plus s) (neg' s) (den s) pa.below ps.over))

-- ---- a product with a q from 0 to 1 is no further from 0
part_law : (b pd nd dd pq dq : ℕ) → pd ≤ b * dd + nd → pq ≤ dq → pd * pq ≤ b * (dd * dq) + nd * pq
part_law b pd nd dd pq dq h k =
    let u = mul-le-mul_right pq h in
    let v = mul-le-mul_left (b * dd) k in
    omega (arith, simp ring at u, simp ring at v)

pub record Unit (q : Float) : Type 0 where
  pub is_finite : T (finite q)
  pub from : T (le zero_f q)
  pub to : T (le q one_f)

module _ (k : ℕ) (small : k ≤ 1023) (d q : Float) (D : Size k d) (Q : Unit q) where
  no_neg : neg' q ≡ 0
  no_neg = no_minus q (omega (arith, le→ zero_f q tt Q.is_finite Q.from, zero-mul (den q)))

  at_most_one : plus q ≤ den q
  at_most_one = omega (arith, le→ q one_f Q.is_finite tt Q.to, no_neg, zero-mul (den q), mul-one (plus q))

  -- one side of the product, its sign apart
  side : (a b : ℕ) → a ≤ 2 ^ k * den d + b → a * plus q ≤ 2 ^ k * (den d * den q) + b * plus q
  side a b h = part_law (2 ^ k) a b (den d) (plus q) (den q) h at_most_one

  pub part_size : Size k (d ⊗ q)
  part_size =
      let pd = size_parts k d D in
      parts_size k (d ⊗ q) (plus d * plus q + neg' d * neg' q) (plus d * neg' q + neg' d * plus q) (den d * den q)
      small (mul_rounds binary64 d q (size_finite k d D) Q.is_finite) (mul-pos (den_pos d) (den_pos q))
      (rw no_neg (simp (mul-zero, zero-add, add-zero) (side (plus d) (neg' d) pd.over)))
      (rw no_neg (simp (mul-zero, zero-add, add-zero) (side (neg' d) (plus d) pd.below)))

-- ---- range.at(t) for a t from 0 to 1, of ends within 2 ^ k: within 2 ^ (k + 2)
pub at_fits : (range : Interval) (t : Float) → T (fits binary64 (at range t))
unfolding at
at_fits range t = add-fits binary64 range.lo ((range.hi ⊖ range.lo) ⊗ t)

module _ (k : ℕ) (small : suc k < 1023) (range : Interval) (L : Size k range.lo) (H : Size k range.hi) where
  pub at_size : (t : Float) → Unit t → Size (suc (suc k)) (at range t)
  unfolding at
  at_size t U =
      let d = sub_size k (omega arith) range.hi range.lo H L in
      add_size (suc k) small range.lo ((range.hi ⊖ range.lo) ⊗ t)
      (size_grows k (suc k) range.lo (omega arith) L)
      (part_size (suc k) (omega arith) (range.hi ⊖ range.lo) t d U)

-- a parameter of the sweep over a natural range, whose ends lie within 1e12 < 2 ^ 40, can itself be an end
pub at_good : (range : Interval) (t : Float) → Size 40 range.lo → Size 40 range.hi → Unit t → Good (at range t)
at_good range t L H U = size_good 42 (at range t) (omega arith) (at_fits range t) (at_size 40 (omega arith) range L H t U)
