-- How large products are, and that quotients, roots and what is held to 0..1 are numbers. Assumes nothing.
use Rattle.std.proofs.Common.{◌≡◌, ℕ, ◌+◌, ◌*◌, ◌^◌, ◌<◌, ◌≤◌, Bool, true, false, cond, T, add-zero, zero-add, zero-mul, mul-zero, mul-one, one-mul, mul-pos, add-mul, mul-add, mul-le-mul, mul-le-mul_right, arith}
use lib.Pow.{pow-add}
use lib.IntN.{negsuc}
use lib.Ieee.{Float, nan, inf, fin, binary64, up, down, fits, le, lt, mul, div, of_bits}
use lib.Ieee.Scale.{finite}
use lib.Ieee.Positive.{den, den_pos}
use Rattle.arith.specs.Notation.{◌⊗◌, ◌⊘◌, plus_zero, one}
use Rattle.arith.specs.Pick.{clamp_of}
use Rattle.arith_order.proofs.Signed.{plus, neg', ring, le→, le←, lt→}
use Rattle.arith_order.proofs.Rounds.{rounds_le, mul_rounds, div_rounds}
use Rattle.arith_order.proofs.Lerp.{zero_f}
use Rattle.arith_order.proofs.Middle.{parts, zero_fits, above, between}
use Rattle.arith_order.proofs.Modest.{big}
use Rattle.arith_order.proofs.Laws.{number, number_left, number_right, le_trans, lt_le_trans, mul_mono, mul_mono_right}
use Rattle.arith_root.specs.Root.{root_of}
use Rattle.arith_root.proofs.Laws.{root_zero, root_monotone, root_reflects}
use Rattle.edge_params.proofs.Ends.{Size, size_finite, parts_size}

-- ---- the distance from 0, in whole numbers
mag_of : (k : ℕ) (x : Float) → Size k x → plus x + neg' x ≤ 2 ^ k * den x
mag_of k nan m = absurd (size_finite k nan m)
mag_of k (inf s) m = absurd (size_finite k (inf s) m)
mag_of k (fin false n e) m =
    let u = le→ (fin false n e) (big k false) tt tt m.1 in
    omega (arith, simp (one-mul, mul-one, zero-mul, add-zero) at u)
mag_of k (fin true n e) m =
    let v = le→ (big k true) (fin true n e) tt tt m.0 in
    omega (arith, simp (one-mul, mul-one, zero-mul, zero-add) at v)

-- ---- a product
both : (p n q m : ℕ) → (p * q + n * m) + (p * m + n * q) ≡ (p + n) * (q + m)
both p n q m = simp (add-mul, mul-add) (omega arith)

pub mul_size : (j k : ℕ) (a b : Float) → j + k ≤ 1023 → Size j a → Size k b → Size (j + k) (a ⊗ b)
mul_size j k a b h A B =
    let w = mul-le-mul (mag_of j a A) (mag_of k b B) in
    let e : 2 ^ j * den a * (2 ^ k * den b) ≡ 2 ^ (j + k) * (den a * den b) = rw (pow-add 2 j k) (simp ring) in
    let q = both (plus a) (neg' a) (plus b) (neg' b) in
    let r = mul_rounds binary64 a b (size_finite j a A) (size_finite k b B) in
    let c = mul-pos (den_pos a) (den_pos b) in
    let p = plus a * plus b + neg' a * neg' b in
    let n = plus a * neg' b + neg' a * plus b in
    let l : p + n ≤ 2 ^ (j + k) * (den a * den b) = omega (arith, w, e, q) in
    parts_size (j + k) (a ⊗ b) p n (den a * den b) h r c (omega (arith, l)) (omega (arith, l))

-- a square is not below zero
pub square_low : (a : Float) → T (finite a) → T (le zero_f (a ⊗ a))
square_low a A =
    above binary64 zero_f (a ⊗ a) (plus a * plus a + neg' a * neg' a) (plus a * neg' a + neg' a * plus a) (den a * den a) (zero_fits binary64) tt
    (mul_rounds binary64 a a A A) (mul-pos (den_pos a) (den_pos a)) (law (den a * den a) (go a))
  where
    go : (a : Float) → plus a * neg' a + neg' a * plus a ≤ plus a * plus a + neg' a * neg' a
    go nan = omega arith
    go (inf s) = omega arith
    go (fin false m e) = simp (zero-mul, mul-zero) (omega arith)
    go (fin true m e) = simp (zero-mul, mul-zero) (omega arith)

    law : {p n : ℕ} (c : ℕ) → n ≤ p → 0 * c + n * 1 ≤ p * 1 + 0 * c
    law {p} {n} c h = simp (zero-mul, mul-one, zero-add, add-zero) h

-- ---- a quotient of a finite float by what is above zero is a number
pub quotient_number : (a d : Float) → T (finite a) → T (lt zero_f d) → T (number (a ⊘ d))
quotient_number nan d A h = absurd A
quotient_number (inf s) d A h = absurd A
quotient_number (fin s m e) nan A h = absurd (unfold lt in h)
quotient_number (fin s m e) (inf true) A h = absurd (unfold lt in h)
quotient_number (fin s m e) (inf false) A h = unfold div in tt
quotient_number (fin s m e) (fin t n d) A h =
    let x = fin s m e in
    let y = fin t n d in
    let g : 0 < plus y = omega (arith, lt→ zero_f y tt tt h, zero-mul (den y)) in
    let r = div_rounds binary64 x y tt tt g in
    let c = mul-pos g (den_pos x) in
    number_left (x ⊘ y) (x ⊘ y)
    (rounds_le binary64 (x ⊘ y) (x ⊘ y) (plus x * den y) (neg' x * den y) (plus y * den x) (plus x * den y) (neg' x * den y) (plus y * den x)
    r r c c (omega arith))

-- what a clamp to 0..1 answers of a number
pub clamp_number : (x : Float) → T (number x) → T (number (clamp_of x plus_zero one))
unfolding of_bits
clamp_number x X = go (lt x plus_zero) (lt one x)
  where
    go : (below above : Bool) → T (number (cond below plus_zero (cond above one x)))
    go true above = tt
    go false true = tt
    go false false = X

-- what is not below zero, and within 2 ^ 1006, has a finite root
record High : Type 0 where
  pub is_finite : T (finite (root_of (big 1006 false)))
  pub held : T (fits binary64 (big 1006 false))

high_so : High
unfolding root_of fits
high_so = record { is_finite = tt; held = tt }

pub root_finite : (s : Float) → T (fits binary64 s) → T (le zero_f s) → Size 1006 s → T (finite (root_of s))
unfolding le
root_finite s F h S =
    between (root_of zero_f) (root_of s) (root_of (big 1006 false)) (rw root_zero tt) high_so.is_finite
    (root_monotone zero_f s (zero_fits binary64) F tt h) (root_monotone s (big 1006 false) F high_so.held h S.1)

-- ---- the least float above zero, 2 ^ -1074
least : Float
least = fin false 1 (negsuc 1073)

least_law : (a c u : ℕ) → 0 < a → c ≤ u → 1 * 1 * c + 0 * u ≤ a * u + 0 * c
least_law a c u g h = simp (one-mul, zero-mul, add-zero) (omega (arith, h, mul-le-mul_right u g, one-mul u))

least_below : (s : Float) → T (fits binary64 s) → T (lt zero_f s) → T (le least s)
unfolding least
least_below nan F h = absurd (unfold lt in h)
least_below (inf true) F h = absurd (unfold lt in h)
least_below (inf false) F h = unfold le in tt
least_below (fin true n d) F h = absurd (unfold lt in h)
least_below (fin false n d) F h =
    let y = fin false n d in
    let g : 0 < n * up d = omega (arith, lt→ zero_f y tt tt h, zero-mul (den y)) in
    le← least y tt tt (least_law (n * up d) (down d) (2 ^ 1074) g ((parts binary64 false n d F).1))

-- the root of what is above zero is at least the root of that, 2 ^ -537, so that its square is not rounded to zero
low : Float
low = root_of least

record Low : Type 0 where
  pub is_finite : T (finite low)
  pub not_below : T (le zero_f low)
  pub square : T (lt zero_f (low ⊗ low))
  pub held : T (fits binary64 least)

low_so : Low
unfolding low least root_of le lt mul fits
low_so = record { is_finite = tt; not_below = tt; square = tt; held = tt }

square_above : (r : Float) → T (le low r) → T (lt zero_f (r ⊗ r))
square_above nan h = absurd (number_right low nan h)
square_above (inf true) h = absurd (unfold low least root_of le in h)
square_above (inf false) h = unfold mul lt in tt
square_above (fin s m e) h =
    let r = fin s m e in
    let L = low_so in
    lt_le_trans zero_f (low ⊗ low) (r ⊗ r) L.square
    (le_trans (low ⊗ low) (r ⊗ low) (r ⊗ r)
    (mul_mono binary64 low r low L.is_finite tt L.is_finite L.not_below h)
    (mul_mono_right binary64 low r r L.is_finite tt tt (le_trans zero_f low r L.not_below h) h))

pub root_square : (s : Float) → T (fits binary64 s) → T (lt zero_f (root_of s)) → T (lt zero_f (root_of s ⊗ root_of s))
root_square s F h =
    square_above (root_of s)
    (unfold low in root_monotone least s low_so.held F (unfold least le in tt) (least_below s F (root_reflects zero_f s (zero_fits binary64) F (rw root_zero h))))
