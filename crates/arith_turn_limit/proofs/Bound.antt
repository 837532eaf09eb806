-- In the fixed steps too, no arc cosine is above twice the tangent of half its angle. Assumes nothing.
use mathlib.Core.Path.{◌≡◌, refl}
use mathlib.Core.Bool.{Bool, true, false, cond, ◌||◌}
use mathlib.Core.List.{[], ◌∷◌}
use Prim.Native.Nat.{ℕ, ◌+◌, ◌*◌, ◌≤◌}
use native.Mathlib.Nat.{zero-mul, mul-zero, add-zero, mul-one, mul-pos, mul-le-mul_left}
use native.Mathlib.Omega.{arith}
use lib.IntN.{pos}
use lib.Dec.{T}
use lib.Ieee.{Float, nan, fin, binary64, of_bits, of_int, fits, le, lt, eq, neg, add, mul, div}
use lib.Ieee.Bits.{is_true}
use lib.Ieee.Fits.{add-fits, sub-fits, mul-fits, div-fits}
use lib.Ieee.Scale.{finite}
use lib.Ieee.Positive.{den, den_pos}
use Rattle.arith_order.proofs.Signed.{plus, neg', le→, no_sign, zero_f, one_f, ring}
use Rattle.arith_order.proofs.Rounds.{mul_rounds, mul_swap}
use Rattle.arith_order.proofs.Mono.{add_mono_right, sub_shrinks, mul_mono, mul_mono_right, div_mono, div_turns, div_low}
use Rattle.arith_order.proofs.Middle.{zero_fits, above, under, between}
use Rattle.arith_order.proofs.Modest.{sub_up}
use Rattle.arith_order.proofs.Laws.{le_trans, lt_le_trans, lt→le, lt→nle, number_right}
use Rattle.arith.proofs.Cmp.{holds}
use Rattle.arith.specs.Notation.{◌⊕◌, ◌⊖◌, ◌⊗◌, ◌⊘◌, plus_zero, half, one, count}
use Rattle.arith_root.specs.Root.{root_of}
use Rattle.arith_root.proofs.Laws.{root_zero, root_monotone}
use Rattle.arith_trig.specs.Trig.{halved, summed, arc_of, angle_of, acos_by, acos_of, pi}
use Rattle.arith_turn_limit.specs.Own.Limit.{tangent_square, twice_tangent, turn_cut, Serves}
use Rattle.arith_root_limit.specs.Own.Limit.{cut_if, square_if}
use Rattle.arith_root_limit.proofs.Roots.{below_square}

-- ---- a float from 0 to 1
abbrev pub Part : Float → Type 0
Part x = T (le zero_f x) × T (le x one_f)

pub part_finite : (x : Float) → Part x → T (finite x)
part_finite x p = between zero_f x one_f tt tt p.0 p.1

part_plus : (x : Float) → Part x → plus x ≤ den x
part_plus x p = omega (arith, le→ x one_f (part_finite x p) tt p.1, no_sign x (part_finite x p) p.0, zero-mul (den x), mul-one (plus x))

-- ---- a product with a part is from zero to the other factor
low_law : (px py dx dy : ℕ) → 0 * (dx * dy) + (px * 0 + 0 * py) * 1 ≤ (px * py + 0 * 0) * 1 + 0 * (dx * dy)
low_law px py dx dy = simp (zero-mul, mul-zero, add-zero) (omega arith)

high_law : (px py dx dy : ℕ) → py ≤ dy → (px * py + 0 * 0) * dx + 0 * (dx * dy) ≤ px * (dx * dy) + (px * 0 + 0 * py) * dx
high_law px py dx dy h = let k = mul-le-mul_left (px * dx) h in simp (ring, zero-mul, add-zero) (simp ring at k)

module _ (x y : Float) (F : T (finite x)) (z : T (le zero_f x)) (q : Part y) where
  pub scaled_low : T (le zero_f (x ⊗ y))
  scaled_low =
      above binary64 zero_f (x ⊗ y) (plus x * plus y + neg' x * neg' y) (plus x * neg' y + neg' x * plus y) (den x * den y) (zero_fits binary64) tt
      (mul_rounds binary64 x y F (part_finite y q)) (mul-pos (den_pos x) (den_pos y))
      (rw (no_sign x F z, no_sign y (part_finite y q) q.0) (low_law (plus x) (plus y) (den x) (den y)))

  pub scaled_high : T (fits binary64 x) → T (le (x ⊗ y) x)
  scaled_high G =
      under binary64 x (x ⊗ y) (plus x * plus y + neg' x * neg' y) (plus x * neg' y + neg' x * plus y) (den x * den y) G F
      (mul_rounds binary64 x y F (part_finite y q)) (mul-pos (den_pos x) (den_pos y))
      (rw (no_sign x F z, no_sign y (part_finite y q) q.0) (high_law (plus x) (plus y) (den x) (den y) (part_plus y q)))

-- a square of a part is a part
pub one_fits : T (fits binary64 one_f)
unfolding fits
one_fits = tt

pub square_part : (y : Float) → Part y → Part (y ⊗ y)
unfolding le
square_part y p = (
  scaled_low y y (part_finite y p) p.0 p,
  le_trans (y ⊗ y) (one_f ⊗ y) one_f
      (mul_mono binary64 y one_f y (part_finite y p) tt (part_finite y p) p.0 p.1) (scaled_high one_f y tt tt p one_fits),
)

-- ---- 2 and 4 as floats
abbrev pub two_f : Float
two_f = fin false 1 (pos 1)

abbrev four_f : Float
four_f = fin false 1 (pos 2)

-- ---- a part halved: at most its half
root_one : root_of one_f ≡ one_f
unfolding root_of
root_one = refl

root_four : root_of four_f ≡ two_f
unfolding root_of
root_four = refl

module _ (y : Float) (p : Part y) where
  pub square_finite : T (finite (y ⊗ y))
  square_finite = part_finite (y ⊗ y) (square_part y p)

  -- 1 + y * y is from 1 to 2, its root from 1 to 2, and 1 + that from 2 to 3
  sum_low : T (le one_f (one_f ⊕ y ⊗ y))
  unfolding add
  sum_low = add_mono_right binary64 zero_f (y ⊗ y) one_f tt square_finite tt (square_part y p).0

  sum_high : T (le (one_f ⊕ y ⊗ y) four_f)
  unfolding le add
  sum_high = le_trans (one_f ⊕ y ⊗ y) (one_f ⊕ one_f) four_f (add_mono_right binary64 (y ⊗ y) one_f one_f square_finite tt tt (square_part y p).1) tt

  root_low : T (le one_f (root_of (one_f ⊕ y ⊗ y)))
  unfolding le
  root_low = rw root_one at (root_monotone one_f (one_f ⊕ y ⊗ y) one_fits (add-fits binary64 one_f (y ⊗ y)) tt sum_low)

  four_fits : T (fits binary64 four_f)
  unfolding fits
  four_fits = tt

  root_high : T (le (root_of (one_f ⊕ y ⊗ y)) two_f)
  unfolding le
  root_high = rw root_four at (root_monotone (one_f ⊕ y ⊗ y) four_f (add-fits binary64 one_f (y ⊗ y)) four_fits
      (le_trans zero_f one_f (one_f ⊕ y ⊗ y) tt sum_low) sum_high)

  pub root_finite : T (finite (root_of (one_f ⊕ y ⊗ y)))
  root_finite = between one_f (root_of (one_f ⊕ y ⊗ y)) two_f tt tt root_low root_high

  pub divisor_low : T (le two_f (one_f ⊕ root_of (one_f ⊕ y ⊗ y)))
  unfolding add
  divisor_low = add_mono_right binary64 one_f (root_of (one_f ⊕ y ⊗ y)) one_f tt root_finite tt root_low

  pub divisor_finite : T (finite (one_f ⊕ root_of (one_f ⊕ y ⊗ y)))
  unfolding add
  divisor_finite = between two_f (one_f ⊕ root_of (one_f ⊕ y ⊗ y)) (one_f ⊕ two_f) tt tt divisor_low
      (add_mono_right binary64 (root_of (one_f ⊕ y ⊗ y)) two_f one_f root_finite tt tt root_high)

  pub halved_high : T (le (halved y) (y ⊘ two_f))
  unfolding halved of_bits le
  halved_high = div_turns binary64 y two_f (one_f ⊕ root_of (one_f ⊕ y ⊗ y)) (part_finite y p) tt divisor_finite p.0 tt divisor_low

  half_high : T (le (y ⊘ two_f) one_f)
  unfolding le lt div
  half_high = le_trans (y ⊘ two_f) (one_f ⊘ two_f) one_f (div_mono binary64 y one_f two_f (part_finite y p) tt tt tt p.1) tt

  pub halved_part : Part (halved y)
  unfolding halved of_bits le
  halved_part = (
    div_low binary64 y (one_f ⊕ root_of (one_f ⊕ y ⊗ y)) (part_finite y p) divisor_finite p.0 (le_trans one_f two_f (one_f ⊕ root_of (one_f ⊕ y ⊗ y)) tt divisor_low),
    le_trans (halved y) (y ⊘ two_f) one_f halved_high half_high,
  )

-- three times: at most an eighth
pub half_mono : (x y : Float) → T (finite x) → T (finite y) → T (le x y) → T (le (x ⊘ two_f) (y ⊘ two_f))
unfolding lt
half_mono x y X Y h = div_mono binary64 x y two_f X Y tt tt h

half_part : (y : Float) → Part y → Part (y ⊘ two_f)
unfolding le
half_part y p = (div_low binary64 y two_f (part_finite y p) tt p.0 tt, half_high y p)

module _ (y : Float) (p : Part y) where
  once : Part (halved y)
  once = halved_part y p

  twice : Part (halved (halved y))
  twice = halved_part (halved y) once

  pub thrice : Part (halved (halved (halved y)))
  thrice = halved_part (halved (halved y)) twice

  eighth : Part (y ⊘ two_f ⊘ two_f ⊘ two_f)
  eighth = half_part (y ⊘ two_f ⊘ two_f) (half_part (y ⊘ two_f) (half_part y p))

  thrice_high : T (le (halved (halved (halved y))) (y ⊘ two_f ⊘ two_f ⊘ two_f))
  thrice_high =
      le_trans (halved (halved (halved y))) (halved (halved y) ⊘ two_f) (y ⊘ two_f ⊘ two_f ⊘ two_f) (halved_high (halved (halved y)) twice)
      (half_mono (halved (halved y)) (y ⊘ two_f ⊘ two_f) (part_finite (halved (halved y)) twice) (part_finite (y ⊘ two_f ⊘ two_f) (half_part (y ⊘ two_f) (half_part y p)))
      (le_trans (halved (halved y)) (halved y ⊘ two_f) (y ⊘ two_f ⊘ two_f) (halved_high (halved y) once)
      (half_mono (halved y) (y ⊘ two_f) (part_finite (halved y) once) (part_finite (y ⊘ two_f) (half_part y p)) (halved_high y p))))

-- ---- the series: each sum is from 0 to its own first term
pub record Below (v : Float) (b : Float) : Type 0 where
  pub format : T (fits binary64 v)
  pub low : T (le zero_f v)
  pub high : T (le v b)

-- a part of v is from zero to v
pub part_times : (z v : Float) → Part z → T (finite v) → T (fits binary64 v) → T (le zero_f v) → T (le zero_f (z ⊗ v)) × T (le (z ⊗ v) v)
part_times z v p E F l = rw (mul_swap binary64 z v (part_finite z p) E) (scaled_low v z E l p, scaled_high v z E l p F)

next : (z v a b : Float) → Part z → Below v a → T (le a b) → T (finite a) → T (finite b) → T (fits binary64 b) → Below (b ⊖ z ⊗ v) b
next z v a b p s h A B G =
    let E = between zero_f v a tt A s.low s.high in
    let w = part_times z v p E s.format s.low in
    let W = between zero_f (z ⊗ v) v tt E w.0 w.1 in
    record {
      format = sub-fits binary64 b (z ⊗ v);
      low = sub_up b (z ⊗ v) B W (le_trans (z ⊗ v) v b w.1 (le_trans v a b s.high h));
      high = sub_shrinks binary64 b (z ⊗ v) G B W w.0;
    }

-- the term for d
abbrev pub term : ℕ → Float
term d = one_f ⊘ count d

pub term_fits : (d : ℕ) → T (fits binary64 (term d))
term_fits d = div-fits binary64 one_f (count d)

first : Below (term 15) (term 15)
unfolding le div of_int
first = record { format = term_fits 15; low = tt; high = tt }

pub series_three : (z : Float) → Part z → Below (summed z (one ⊘ count 15) (13 ∷ 11 ∷ 9 ∷ 7 ∷ 5 ∷ 3 ∷ [])) (term 3)
unfolding summed of_bits le div of_int
series_three z p =
    let v13 = next z (term 15) (term 15) (term 13) p first tt tt tt (term_fits 13) in
    let v11 = next z _ (term 13) (term 11) p v13 tt tt tt (term_fits 11) in
    let v9 = next z _ (term 11) (term 9) p v11 tt tt tt (term_fits 9) in
    let v7 = next z _ (term 9) (term 7) p v9 tt tt tt (term_fits 7) in
    let v5 = next z _ (term 7) (term 5) p v7 tt tt tt (term_fits 5) in
    next z _ (term 5) (term 3) p v5 tt tt tt (term_fits 3)

-- the series of the arc
abbrev pub series_of : Float → Float
series_of z = summed z (one ⊘ count 15) (13 ∷ 11 ∷ 9 ∷ 7 ∷ 5 ∷ 3 ∷ 1 ∷ [])

series : (z : Float) → Part z → Below (series_of z) (term 1)
unfolding summed of_bits le div of_int
series z p = next z _ (term 3) (term 1) p (series_three z p) tt tt tt (term_fits 1)

-- ---- sixteen times a part, and the arc of a part
pub sixteen_mono : (x y : Float) → T (finite x) → T (finite y) → T (le x y) → T (le (count 16 ⊗ x) (count 16 ⊗ y))
unfolding le of_int
sixteen_mono x y X Y h = mul_mono_right binary64 x y (count 16) X Y tt tt h

pub series_part : (z : Float) → Part z → Part (series_of z)
unfolding le div of_int
series_part z p = let s = series z p in (s.low, le_trans (series_of z) (term 1) one_f s.high tt)

arc_high : (h : Float) → Part h → T (fits binary64 h) → T (le (arc_of h) (count 16 ⊗ h))
unfolding arc_of
arc_high h p F =
    let v = series_of (h ⊗ h) in
    let q : Part v = series_part (h ⊗ h) (square_part h p) in
    let k : T (le (h ⊗ v) h) = scaled_high h v (part_finite h p) p.0 q F in
    sixteen_mono (h ⊗ v) h (between zero_f (h ⊗ v) h tt (part_finite h p) (scaled_low h v (part_finite h p) p.0 q) k) (part_finite h p) k

abbrev pub eighths : Float → Float
eighths y = count 16 ⊗ (y ⊘ two_f ⊘ two_f ⊘ two_f)

pub halved_fits : (y : Float) → T (fits binary64 (halved y))
halved_fits y = unfold halved in div-fits binary64 y (one ⊕ root_of (one ⊕ y ⊗ y))

pub angle_high : (y : Float) → Part y → T (le (angle_of y) (eighths y))
unfolding angle_of
angle_high y p =
    let h = halved (halved (halved y)) in
    le_trans (arc_of h) (count 16 ⊗ h) (eighths y) (arc_high h (thrice y p) (halved_fits (halved (halved y))))
    (sixteen_mono h (y ⊘ two_f ⊘ two_f ⊘ two_f) (part_finite h (thrice y p)) (part_finite (y ⊘ two_f ⊘ two_f ⊘ two_f) (eighth y p)) (thrice_high y p))

-- ---- a root is not below zero
root_not_below : (q : Float) → T (fits binary64 q) → T (le zero_f q) → T (le zero_f (root_of q))
unfolding le
root_not_below q F p = rw root_zero at (root_monotone zero_f q (zero_fits binary64) F tt p)

eighths_low : (y : Float) → Part y → T (le zero_f (eighths y))
unfolding le mul of_int
eighths_low y p = sixteen_mono zero_f (y ⊘ two_f ⊘ two_f ⊘ two_f) tt (part_finite (y ⊘ two_f ⊘ two_f ⊘ two_f) (eighth y p)) (eighth y p).0

-- it rises with the part
pub eighths_mono : (x y : Float) → Part x → Part y → T (le x y) → T (le (eighths x) (eighths y))
eighths_mono x y p q h =
    let a = half_part x p in
    let b = half_part y q in
    let c = half_part (x ⊘ two_f) a in
    let d = half_part (y ⊘ two_f) b in
    sixteen_mono (x ⊘ two_f ⊘ two_f ⊘ two_f) (y ⊘ two_f ⊘ two_f ⊘ two_f) (part_finite (x ⊘ two_f ⊘ two_f ⊘ two_f) (eighth x p)) (part_finite (y ⊘ two_f ⊘ two_f ⊘ two_f) (eighth y q))
    (half_mono (x ⊘ two_f ⊘ two_f) (y ⊘ two_f ⊘ two_f) (part_finite (x ⊘ two_f ⊘ two_f) c) (part_finite (y ⊘ two_f ⊘ two_f) d)
    (half_mono (x ⊘ two_f) (y ⊘ two_f) (part_finite (x ⊘ two_f) a) (part_finite (y ⊘ two_f) b) (half_mono x y (part_finite x p) (part_finite y q) h)))

-- ---- the arc cosine of an a above zero
chosen : (b : Bool) (x y z : Float) → (T b → T (le x z)) → T (le y z) → T (le (cond b x y) z)
chosen true x y z h k = h tt
chosen false x y z h k = k

pub equal_le : (x y : Float) → T (eq x y) → T (le x y)
unfolding le
equal_le x y h = go (lt x y) (eq x y) h
  where
    go : (b c : Bool) → T c → T (b || c)
    go true c h = tt
    go false c h = h

module _ (a : Float) (A : T (lt zero_f a)) (p : Part (root_of (tangent_square a))) where
  tangent : Float
  tangent = root_of (tangent_square a)

  by_high : T (le (acos_by tangent) (eighths tangent))
  unfolding acos_by tangent of_bits
  by_high = chosen (lt one tangent) (pi ⊖ angle_of (one ⊘ tangent)) (angle_of tangent) (eighths tangent)
      (λ (h : T (lt one tangent)). absurd (lt→nle one tangent h p.1)) (angle_high tangent p)

  acos_high : T (le (acos_of a) (eighths (root_of (tangent_square a))))
  unfolding acos_of tangent of_bits lt neg
  acos_high = chosen (eq a one) plus_zero (cond (eq a (neg one)) pi (acos_by tangent)) (eighths tangent)
      (λ (h : T (eq a one)). eighths_low tangent p)
      (chosen (eq a (neg one)) pi (acos_by tangent) (eighths tangent)
      (λ (h : T (eq a (neg one))). absurd (lt_le_trans zero_f a (neg one) A (equal_le a (neg one) h))) by_high)

-- ---- below the cut of a limit the tangent is at most half the limit, and so the angle within it
module _ (a limit : Float) (A : T (lt zero_f a)) (low : T (le zero_f (tangent_square a))) where
  below_cut : (b : Bool) → le (limit ⊗ half) one ≡ b
      → T (lt (tangent_square a) (cut_if b (square_if (le (twice_tangent (limit ⊗ half)) limit) (limit ⊗ half)))) → T (le (acos_of a) limit)
  unfolding of_bits
  below_cut true e h =
      let q = tangent_square a in
      let y = root_of q in
      let k = limit ⊗ half in
      let t = below_square k q (mul-fits binary64 limit half) (div-fits binary64 (one ⊖ a) (one ⊕ a)) (le (twice_tangent k) limit) low h in
      let p : Part y = (root_not_below q (div-fits binary64 (one ⊖ a) (one ⊕ a)) low, le_trans y k one_f t.1 (holds e)) in
      let m = eighths_mono y k p (le_trans zero_f y k p.0 t.1, holds e) t.1 in
      le_trans (acos_of a) (eighths y) limit (acos_high a A p) (le_trans (eighths y) (eighths k) limit m (holds t.0))
  below_cut false e h = absurd (number_right (tangent_square a) nan (lt→le (tangent_square a) nan h))

pub serves : (limit : Float) → Serves (turn_cut limit) limit
unfolding turn_cut of_bits
serves limit = record {
  within = λ (a : Float) (h : lt plus_zero a ≡ true) (l : le plus_zero (tangent_square a) ≡ true)
      (k : lt (tangent_square a) (turn_cut limit) ≡ true).
      is_true (le (acos_of a) limit) (below_cut a limit (holds h) (holds l) (le (limit ⊗ half) one) refl (holds k));
}
