-- What is told of a point and the two ends of a chord is finite where no coordinate is large. Assumes nothing.
use mathlib.Core.Path.{◌≡◌, refl}
use mathlib.Core.Bool.{Bool, true, false}
use Prim.Native.Nat.{ℕ, suc, ◌^◌, ◌≤◌, ◌<◌}
use native.Mathlib.Nat.{zero-mul}
use native.Mathlib.Omega.{arith}
use Rattle.std.specs.Prelude.{Option, Some, None, ⊤, ℤ}
use Rattle.std.specs.Bool.{then_some}
use lib.Dec.{T}
use lib.Ieee.{Float, nan, inf, fin, binary64, fits, le, lt, neg, down, of_bits, round}
use lib.Ieee.Scale.{finite}
use lib.Ieee.Fits.{add-fits, mul-fits}
use Rattle.arith.specs.Notation.{◌⊕◌, ◌⊗◌, ◌⊘◌, plus_zero}
use Rattle.arith.specs.Pick.{abs_of}
use Rattle.arith.specs.Constants.{nearest_float}
use Rattle.arith.proofs.Cmp.{number_not_nan}
use Rattle.arith_order.proofs.Lerp.{zero_f, one_f}
use Rattle.arith_order.proofs.Signed.{le←}
use Rattle.arith_order.proofs.Modest.{big}
use Rattle.arith_order.proofs.Middle.{between}
use Rattle.arith_order.proofs.Laws.{number, number_left, le_trans, le_lt_trans, neg_le, add_grows}
use Rattle.arith_root.specs.Root.{root_of}
use Rattle.math.specs.declared.Vec3.{Vec3}
use Rattle.math.specs.Math.{v_add, v_sub, v_scale, v_dot, v_length, v_length_squared}
use Rattle.math_chord.specs.Chord.{chord_place, chord_offset, span_distance, span_offset, span_place, span_divisor, bisection_divisor, bisection_distance, bisection_offset, bisection_place, shortest_chord}
use Rattle.math_chord.specs.Measured.{measured_for_thinning, measured_for_bisection}
use Rattle.math_chord.proofs.Places.{on_the_chord}
use Rattle.edge_params.proofs.Ends.{Size, size_finite, size_grows, add_size, sub_size, part_size, Unit}
use Rattle.edge_measured.specs.Numbers.{limit, Within, Told, FiniteWithin}
use Rattle.edge_measured.proofs.Sizes.{mul_size, square_low, quotient_number, clamp_number, root_finite, root_square}

-- ---- a coordinate: 1e150 is below 2 ^ 499
from_zero : (m : ℕ) (e : ℤ) → T (le (big 499 true) (fin false m e))
from_zero m e = le_trans (big 499 true) zero_f (fin false m e) (unfold le in tt) (le← zero_f (fin false m e) tt tt (omega (arith, zero-mul (down e))))

limit_size : T (le limit (big 499 false))
unfolding of_bits le
limit_size = tt

beyond : T (le (inf false) limit) → ⊥
unfolding of_bits le
beyond h = h

size_within : (x : Float) → T (le (abs_of x) limit) → Size 499 x
unfolding neg
size_within nan h = absurd (number_left nan limit h)
size_within (inf s) h = absurd (beyond h)
size_within (fin false m e) h = (from_zero m e, le_trans (fin false m e) limit (big 499 false) h limit_size)
size_within (fin true m e) h =
    (neg_le (fin false m e) (big 499 false) (le_trans (fin false m e) limit (big 499 false) h limit_size), neg_le (big 499 true) (fin false m e) (from_zero m e))

record Sized (k : ℕ) (v : Vec3) : Type 0 where
  pub x : Size k v.x
  pub y : Size k v.y
  pub z : Size k v.z

within_sized : (p : Vec3) → Within p → Sized 499 p
within_sized p h = record { x = size_within p.x h.x; y = size_within p.y h.y; z = size_within p.z h.z }

sized_grows : (j k : ℕ) (v : Vec3) → j ≤ k → Sized j v → Sized k v
sized_grows j k v h s = record { x = size_grows j k v.x h s.x; y = size_grows j k v.y h s.y; z = size_grows j k v.z h s.z }

add_sized : (k : ℕ) (a b : Vec3) → k < 1023 → Sized k a → Sized k b → Sized (suc k) (v_add a b)
unfolding v_add
add_sized k a b h A B = record { x = add_size k h a.x b.x A.x B.x; y = add_size k h a.y b.y A.y B.y; z = add_size k h a.z b.z A.z B.z }

sub_sized : (k : ℕ) (a b : Vec3) → k < 1023 → Sized k a → Sized k b → Sized (suc k) (v_sub a b)
unfolding v_sub
sub_sized k a b h A B = record { x = sub_size k h a.x b.x A.x B.x; y = sub_size k h a.y b.y A.y B.y; z = sub_size k h a.z b.z A.z B.z }

part_sized : (k : ℕ) (a : Vec3) (t : Float) → k ≤ 1023 → Sized k a → Unit t → Sized k (v_scale a t)
unfolding v_scale
part_sized k a t h A U = record { x = part_size k h a.x t A.x U; y = part_size k h a.y t A.y U; z = part_size k h a.z t A.z U }

-- ---- a sum of three products, and the root of one of three squares
dot_size : (a b : Vec3) → Sized 502 a → Sized 502 b → Size 1006 (v_dot a b)
unfolding v_dot
dot_size a b A B =
    let x = mul_size 502 502 a.x b.x (omega arith) A.x B.x in
    let y = mul_size 502 502 a.y b.y (omega arith) A.y B.y in
    let z = mul_size 502 502 a.z b.z (omega arith) A.z B.z in
    add_size 1005 (omega arith) (a.x ⊗ b.x ⊕ a.y ⊗ b.y) (a.z ⊗ b.z) (add_size 1004 (omega arith) (a.x ⊗ b.x) (a.y ⊗ b.y) x y)
    (size_grows 1004 1005 (a.z ⊗ b.z) (omega arith) z)

sum_low : (a e : Float) → T (fits binary64 a) → T (finite a) → T (finite e) → T (le zero_f a) → T (le zero_f e) → T (le zero_f (a ⊕ e))
sum_low a e F A E h k = le_trans zero_f a (a ⊕ e) h (add_grows binary64 a e F A E k)

length_finite : (a : Vec3) → Sized 502 a → T (finite (v_length a))
unfolding v_length v_dot
length_finite a A =
    let x = a.x ⊗ a.x in
    let y = a.y ⊗ a.y in
    let z = a.z ⊗ a.z in
    let X = mul_size 502 502 a.x a.x (omega arith) A.x A.x in
    let Y = mul_size 502 502 a.y a.y (omega arith) A.y A.y in
    let Z = mul_size 502 502 a.z a.z (omega arith) A.z A.z in
    let low = sum_low x y (mul-fits binary64 a.x a.x) (size_finite 1004 x X) (size_finite 1004 y Y) (square_low a.x (size_finite 502 a.x A.x)) (square_low a.y (size_finite 502 a.y A.y)) in
    root_finite (x ⊕ y ⊕ z) (add-fits binary64 (x ⊕ y) z)
    (sum_low (x ⊕ y) z (add-fits binary64 x y) (size_finite 1005 (x ⊕ y) (add_size 1004 (omega arith) x y X Y)) (size_finite 1004 z Z) low (square_low a.z (size_finite 502 a.z A.z)))
    (dot_size a a A A)

-- ---- a chord from pa along axis, measured from p, where what is divided by is above zero
abbrev Divides : Option Float → Type 0
Divides (Some d) = T (lt zero_f d)
Divides None = ⊤

divides_if : (b : Bool) (d : Float) → (T b → T (lt zero_f d)) → Divides (then_some b d)
divides_if true d h = h tt
divides_if false d h = tt

module _ (pa axis p : Vec3) (A : Sized 499 pa) (D : Sized 500 axis) (P : Sized 499 p) where
  place_number : (divisor : Option Float) → Divides divisor → T (number (chord_place pa axis divisor p))
  unfolding chord_place
  place_number (Some d) h =
      let q = sized_grows 500 502 (v_sub p pa) (omega arith) (sub_sized 499 p pa (omega arith) P A) in
      let w = dot_size (v_sub p pa) axis q (sized_grows 500 502 axis (omega arith) D) in
      clamp_number (v_dot (v_sub p pa) axis ⊘ d) (quotient_number (v_dot (v_sub p pa) axis) d (size_finite 1006 (v_dot (v_sub p pa) axis) w) h)
  place_number None h = unfold of_bits in tt

  place_unit : (divisor : Option Float) → Divides divisor → Unit (chord_place pa axis divisor p)
  unfolding of_bits
  place_unit divisor h =
      let s = chord_place pa axis divisor p in
      let o = on_the_chord pa axis divisor p (number_not_nan s (place_number divisor h)) in
      record { is_finite = between zero_f s one_f tt tt o.0 o.1; from = o.0; to = o.1 }

  offset_size : (divisor : Option Float) → Divides divisor → Sized 502 (chord_offset pa axis divisor p)
  unfolding chord_offset
  offset_size (Some d) h =
      let s = chord_place pa axis (Some d) p in
      let w = part_sized 500 axis s (omega arith) D (place_unit (Some d) h) in
      let f = add_sized 500 pa (v_scale axis s) (omega arith) (sized_grows 499 500 pa (omega arith) A) w in
      sub_sized 501 p (v_add pa (v_scale axis s)) (omega arith) (sized_grows 499 501 p (omega arith) P) f
  offset_size None h = sized_grows 500 502 (v_sub p pa) (omega arith) (sub_sized 499 p pa (omega arith) P A)

  distance_finite : (divisor : Option Float) → Divides divisor → T (finite (v_length (chord_offset pa axis divisor p)))
  distance_finite divisor h = length_finite (chord_offset pa axis divisor p) (offset_size divisor h)

-- ---- what is divided by
span_divides : (len2 : Float) → Divides (span_divisor len2)
unfolding of_bits
span_divides len2 = divides_if (lt plus_zero len2) len2 (λ (h : T (lt plus_zero len2)). h)

above_shortest : (len : Float) → T (lt shortest_chord len) → T (lt zero_f len)
unfolding of_bits
above_shortest len h = le_lt_trans zero_f shortest_chord len (unfold le in tt) h

bisection_divides : (chord : Vec3) → Divides (bisection_divisor (v_length chord))
unfolding v_length v_dot
bisection_divides c =
    let s = v_length_squared c in
    divides_if (lt shortest_chord (root_of s)) (root_of s ⊗ root_of s) (λ (h : T (lt shortest_chord (root_of s))).
    root_square s (add-fits binary64 (c.x ⊗ c.x ⊕ c.y ⊗ c.y) (c.z ⊗ c.z)) (above_shortest (root_of s) h))

module _ (a b p : Vec3) (A : Within a) (B : Within b) (P : Within p) where
  measured : (divisor : Option Float) → Divides divisor
      → Told (record { distance = v_length (chord_offset a (v_sub b a) divisor p); place = chord_place a (v_sub b a) divisor p })
  measured divisor h =
      let s = within_sized a A in
      let d = sub_sized 499 b a (omega arith) (within_sized b B) s in
      let e = within_sized p P in
      record {
        distance = distance_finite a (v_sub b a) p s d e divisor h;
        place = (place_unit a (v_sub b a) p s d e divisor h).is_finite;
      }

  thinned : Told (measured_for_thinning a b p)
  unfolding measured_for_thinning span_distance span_offset span_place
  thinned = measured (span_divisor (v_length_squared (v_sub b a))) (span_divides (v_length_squared (v_sub b a)))

  bisected : Told (measured_for_bisection a b p)
  unfolding measured_for_bisection bisection_distance bisection_offset bisection_place
  bisected = measured (bisection_divisor (v_length (v_sub b a))) (bisection_divides (v_sub b a))

is_nearest : limit ≡ nearest_float (10 ^ 150) 1
unfolding of_bits round
is_nearest = refl

pub finite_within : FiniteWithin
finite_within = record { is_limit = is_nearest; thinning = thinned; bisection = bisected }
