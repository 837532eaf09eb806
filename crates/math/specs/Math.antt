-- Vec3, Frame, Aabb and Interval of math.rs, each operation rounded once, in the Rust's order. Definitions only.
use Rattle.std.specs.Prelude.{Bool, true, false, cond, ◌&&◌, ◌||◌, Float, Option, Some, None}
use Rattle.std.specs.Float.{inf}
use Rattle.std.specs.Float.Ieee.{lt, neg}
use Rattle.std.specs.Float.Ieee.Scale.{finite}
use Rattle.arith.specs.Notation.{◌⊕◌, ◌⊖◌, ◌⊗◌, ◌⊘◌, plus_zero, half, one}
use Rattle.arith.specs.Constants.{two_to_minus511}
use Rattle.arith.specs.Pick.{min_of, max_of, clamp_of}
use Rattle.arith_root.specs.Root.{root_of}
use Rattle.arith_trig.specs.Trig.{acos_of}
use Rattle.math.specs.declared.Vec3.{Vec3}
use Rattle.math.specs.declared.Frame.{Frame}
use Rattle.math.specs.declared.Aabb.{Aabb}
use Rattle.math.specs.declared.Interval.{Interval}

-- Vec3::new
abbrev pub vec : Float → Float → Float → Vec3
vec x y z = record { x = x; y = y; z = z }

-- Vec3::ZERO
abbrev pub v_zero : Vec3
v_zero = vec plus_zero plus_zero plus_zero

-- a + b
unfoldable pub v_add : Vec3 → Vec3 → Vec3
v_add a b = vec (a.x ⊕ b.x) (a.y ⊕ b.y) (a.z ⊕ b.z)

-- a - b
unfoldable pub v_sub : Vec3 → Vec3 → Vec3
v_sub a b = vec (a.x ⊖ b.x) (a.y ⊖ b.y) (a.z ⊖ b.z)

-- a * k
unfoldable pub v_scale : Vec3 → Float → Vec3
v_scale a k = vec (a.x ⊗ k) (a.y ⊗ k) (a.z ⊗ k)

-- Vec3::dot, the scalar product
unfoldable pub v_dot : Vec3 → Vec3 → Float
v_dot a b = a.x ⊗ b.x ⊕ a.y ⊗ b.y ⊕ a.z ⊗ b.z

-- Vec3::cross, the vector product
unfoldable pub v_cross : Vec3 → Vec3 → Vec3
v_cross a b =
    vec (a.y ⊗ b.z ⊖ a.z ⊗ b.y) (a.z ⊗ b.x ⊖ a.x ⊗ b.z) (a.x ⊗ b.y ⊖ a.y ⊗ b.x)

-- Vec3::length_squared
abbrev pub v_length_squared : Vec3 → Float
v_length_squared a = v_dot a a

-- Vec3::length
unfoldable pub v_length : Vec3 → Float
v_length a = root_of (v_length_squared a)

-- the computed distance of two points
abbrev pub distance : Vec3 → Vec3 → Float
distance a b = v_length (v_sub a b)

-- 2^-511, the root of the least normal number: a vector that is not longer has no direction
abbrev pub shortest_vector : Float
shortest_vector = two_to_minus511

-- Vec3::try_normalized: none unless the length is finite and above 2^-511
unfoldable pub try_normalized : Vec3 → Option Vec3
try_normalized a = cond (finite (v_length a) && lt shortest_vector (v_length a)) (Some (v_scale a (one ⊘ v_length a))) None

-- the angle between two unit vectors, by the arc cosine of their product, clamped to -1 to 1
unfoldable pub angle_between : Vec3 → Vec3 → Float
angle_between u v = acos_of (clamp_of (v_dot u v) (neg one) one)

-- Vec3::lerp: the point at t on the way from a to b
unfoldable pub v_lerp : Vec3 → Vec3 → Float → Vec3
v_lerp a b t = v_add a (v_scale (v_sub b a) t)

-- Vec3::min: the lesser of each coordinate
unfoldable pub v_min : Vec3 → Vec3 → Vec3
v_min a b = vec (min_of a.x b.x) (min_of a.y b.y) (min_of a.z b.z)

-- Vec3::max: the greater of each coordinate
unfoldable pub v_max : Vec3 → Vec3 → Vec3
v_max a b = vec (max_of a.x b.x) (max_of a.y b.y) (max_of a.z b.z)

-- Vec3::is_finite: each coordinate is
unfoldable pub v_finite : Vec3 → Bool
v_finite a = finite a.x && (finite a.y && finite a.z)

-- Frame::y_dir: axis cross ref_dir
unfoldable pub y_dir : Frame → Vec3
y_dir f = v_cross f.axis f.ref_dir

-- Aabb::EMPTY: its least corner at +∞, its greatest at -∞
abbrev pub empty_box : Aabb
empty_box = record { min = vec (inf false) (inf false) (inf false); max = vec (inf true) (inf true) (inf true) }

-- Aabb::is_empty: the least corner is above the greatest on some axis
unfoldable pub is_empty : Aabb → Bool
is_empty b = lt b.max.x b.min.x || (lt b.max.y b.min.y || lt b.max.z b.min.z)

-- Aabb::add_point: the box with p in it
unfoldable pub add_point : Aabb → Vec3 → Aabb
add_point b p = record { min = v_min b.min p; max = v_max b.max p }

-- Aabb::size: the lengths of its sides; of the empty box, zero
unfoldable pub box_size : Aabb → Vec3
box_size b = cond (is_empty b) v_zero (v_sub b.max b.min)

-- Aabb::centre: its middle; of the empty box, zero
unfoldable pub centre : Aabb → Vec3
centre b = cond (is_empty b) v_zero (v_scale (v_add b.min b.max) half)

-- Aabb::diagonal: from its least corner to its greatest
unfoldable pub diagonal : Aabb → Float
diagonal b = v_length (box_size b)

-- Interval::new
abbrev pub interval : Float → Float → Interval
interval lo hi = record { lo = lo; hi = hi }

-- Interval::UNIT: from 0 to 1
abbrev pub unit_interval : Interval
unit_interval = interval plus_zero one

-- Interval::span: below zero where the ends are exchanged
unfoldable pub span_of : Interval → Float
span_of i = i.hi ⊖ i.lo

-- Interval::at: the number at t on the way from lo to hi
unfoldable pub at : Interval → Float → Float
at i t = i.lo ⊕ (i.hi ⊖ i.lo) ⊗ t
