-- ISO 10303-42 and point_at: what is claimed of each kind of curve. Each record is proved in proofs/Laws.antt, as `line-follows` is. Definitions only.
-- `exact`: in every commutative ring the Rust's order means what the standard's formula does.
-- `rounded`: point_at is the Rust's order, each operation rounded once. x is ref_dir, y the computed axis × ref_dir, cos u, sin u, cosh u and sinh u the fixed steps for them.
-- By the standard a composite and a trim have another parameter than here: docs/DIFFERENCES.md.
use Rattle.std.specs.Prelude.{◌≡◌, Bool, true, false, List, ℕ, zero, suc, ◌+◌, ◌-◌, ◌^◌, ◌≤◌, ◌<◌, length, get_or, T, Float}
use mathlib.Mathlib.Algebra.Ring.Defs.{CommRing}
use Rattle.std.specs.Float.{binary64}
use Rattle.std.specs.Float.Ieee.{fits, lt, le, eq, is_nan}
use Rattle.arith.specs.Notation.{count, plus_zero}
use Rattle.arith_trig.specs.Trig.{sin_of, cos_of}
use Rattle.arith_exp.specs.Exp.{cosh_of, sinh_of}
use Rattle.math.specs.declared.Vec3.{Vec3}
use Rattle.math.specs.declared.Frame.{Frame}
use Rattle.math.specs.declared.Interval.{Interval}
use Rattle.math.specs.Math.{v_zero, y_dir, vec}
use Rattle.brep.specs.Tree.{CurveTree, analytic, line, circle, ellipse, parabola, hyperbola, polyline, trimmed, composite, Segments, none, segment}
use Rattle.curve.specs.Eval.{point_at, natural_range, closes, polyline_parameter, index_in, run_length, clamped_to, segment_index, segment_local}
use Rattle.curve_iso.specs.Iso.{Expr, value, one, two, exact, rounded, rounded_vector, iso_line, rust_line, iso_circle, rust_circle, iso_ellipse, rust_ellipse, iso_parabola, rust_parabola, iso_hyperbola, rust_hyperbola, iso_polyline, iso_polyline_from_one, rust_polyline, iso_segment, rust_segment, cross_part, ◌⊞◌}

-- a and b mean the same in a commutative ring
abbrev pub Same {ℓ} : {A : Type ℓ} → CommRing A → Expr A → Expr A → Type ℓ
Same K a b = exact K a ≡ exact K b

-- 1 and 2 are the floats of these numbers, and 2 is 1 + 1
pub record NumbersFollow {ℓ} : Type (ℓ + 1) where
  pub is_one : rounded one ≡ count 1
  pub is_two : rounded two ≡ count 2
  pub exact : {A : Type ℓ} (K : CommRing A) → Same K two (one ⊞ one)
  pub rounded : rounded two ≡ rounded (one ⊞ one)

-- the placement's y is the cross product of its third direction and its first, each component rounded in the Rust's order
pub record PlacementFollows : Type 0 where
  pub rounded : (f : Frame) → let a = f.axis in let b = f.ref_dir in y_dir f ≡
      vec (rounded (cross_part (value a.y) (value a.z) (value b.y) (value b.z)))
      (rounded (cross_part (value a.z) (value a.x) (value b.z) (value b.x)))
      (rounded (cross_part (value a.x) (value a.y) (value b.x) (value b.y)))

-- the line of origin o and direction d
pub record LineFollows {ℓ} : Type (ℓ + 1) where
  pub exact : {A : Type ℓ} (K : CommRing A) (C «V» u : Expr A) → Same K (rust_line C «V» u) (iso_line C «V» u)
  pub rounded : (o d : Vec3) (t : Float) →
      point_at (analytic (line o d)) t ≡ rounded_vector (λ part. rust_line (part o) (part d) (value t))

-- the circle of placement f and radius r
pub record CircleFollows {ℓ} : Type (ℓ + 1) where
  pub exact : {A : Type ℓ} (K : CommRing A) (C R x y cosu sinu : Expr A) → Same K (rust_circle C R x y cosu sinu) (iso_circle C R x y cosu sinu)
  pub rounded : (f : Frame) (r t : Float) → point_at (analytic (circle f r)) t ≡
      rounded_vector (λ part. rust_circle (part f.origin) (value r) (part f.ref_dir) (part (y_dir f)) (value (cos_of t)) (value (sin_of t)))

-- the ellipse of placement f and semi-axes a and b
pub record EllipseFollows {ℓ} : Type (ℓ + 1) where
  pub exact : {A : Type ℓ} (K : CommRing A) (C R1 R2 x y cosu sinu : Expr A) → Same K (rust_ellipse C R1 R2 x y cosu sinu) (iso_ellipse C R1 R2 x y cosu sinu)
  pub rounded : (f : Frame) (a b t : Float) → point_at (analytic (ellipse f a b)) t ≡
      rounded_vector (λ part. rust_ellipse (part f.origin) (value a) (value b) (part f.ref_dir) (part (y_dir f)) (value (cos_of t)) (value (sin_of t)))

-- the parabola of placement f and focal distance d
pub record ParabolaFollows {ℓ} : Type (ℓ + 1) where
  pub exact : {A : Type ℓ} (K : CommRing A) (C F x y u : Expr A) → Same K (rust_parabola C F x y u) (iso_parabola C F x y u)
  pub rounded : (f : Frame) (d t : Float) → point_at (analytic (parabola f d)) t ≡
      rounded_vector (λ part. rust_parabola (part f.origin) (value d) (part f.ref_dir) (part (y_dir f)) (value t))

-- the hyperbola of placement f and semi-axes a and b
pub record HyperbolaFollows {ℓ} : Type (ℓ + 1) where
  pub exact : {A : Type ℓ} (K : CommRing A) (C R1 R2 x y coshu sinhu : Expr A) → Same K (rust_hyperbola C R1 R2 x y coshu sinhu) (iso_hyperbola C R1 R2 x y coshu sinhu)
  pub rounded : (f : Frame) (a b t : Float) → point_at (analytic (hyperbola f a b)) t ≡
      rounded_vector (λ part. rust_hyperbola (part f.origin) (value a) (value b) (part f.ref_dir) (part (y_dir f)) (value (cosh_of t)) (value (sinh_of t)))

-- u lies on a run of n segments: from 0 to n
pub record LiesOn (n : ℕ) (u : Float) : Type 0 where
  pub low : le plus_zero u ≡ true
  pub high : le u (count n) ≡ true

-- segment i is one of n, and u lies on it: from i to i + 1
pub record Holds (n i : ℕ) (u : Float) : Type 0 where
  pub inside : i < n
  pub low : le (count i) u ≡ true
  pub high : le u (count (i + 1)) ≡ true

-- the polyline of the points ps, at least two. Up to 2 ^ 53 each whole number is a float; every table has fewer points
pub record PolylineFollows {ℓ} : Type (ℓ + 1) where
  -- with the points numbered from 0, and from 1
  pub exact : {A : Type ℓ} (K : CommRing A) (P next i u : Expr A) → Same K (rust_polyline P next i u) (iso_polyline P next i u)
  pub exact_from_one : {A : Type ℓ} (K : CommRing A) (P next i u : Expr A) → Same K (rust_polyline P next i u) (iso_polyline_from_one P next (i ⊞ one) u)
  -- u is t wrapped or clamped, and i the segment taken
  pub rounded : (ps : List Vec3) (t : Float) → 2 ≤ length ps → let u = polyline_parameter ps t in let i = index_in (length ps - 2) u in
      point_at (polyline ps) t ≡ rounded_vector (λ part. rust_polyline (part (get_or ps i v_zero)) (part (get_or ps (i + 1) v_zero)) (value (count i)) (value u))
  -- on an open polyline u is t itself, -0.0 too
  pub parameter : (ps : List Vec3) (t : Float) → closes ps ≡ false → LiesOn (length ps - 1) t → polyline_parameter ps t ≡ t
  -- on a closed one u equals t, for a double t from 0 to below the end; the sign of a zero is left open
  pub wrapped : (ps : List Vec3) (t : Float) → closes ps ≡ true → length ps ≤ 2 ^ 53 → T (fits binary64 t) →
      le plus_zero t ≡ true → lt t (count (length ps - 1)) ≡ true → eq (polyline_parameter ps t) t ≡ true
  -- and at the end u is 0 again
  pub ended : (ps : List Vec3) → closes ps ≡ true → length ps ≤ 2 ^ 53 → eq (polyline_parameter ps (count (length ps - 1))) plus_zero ≡ true
  -- the segment taken is the one that holds u, where u lies on the polyline: by the three above, wherever a double t does
  pub taken : (ps : List Vec3) (t : Float) → 2 ≤ length ps → length ps ≤ 2 ^ 53 → let u = polyline_parameter ps t in
      LiesOn (length ps - 1) u → Holds (length ps - 1) (index_in (length ps - 2) u) u

-- the segments from number i on
unfoldable pub segments_from : ℕ → Segments → Segments
segments_from zero ss = ss
segments_from (suc i) none = none
segments_from (suc i) (segment c r same rest) = segments_from i rest

-- the composite of the segments ss, n of them. Each counts as 1 here, and by the standard as its parametric length; v is the part of it that is gone
pub record CompositeFollows {ℓ} : Type (ℓ + 1) where
  -- in the sense of the segment's curve, and against it
  pub exact : {A : Type ℓ} (K : CommRing A) (same : Bool) (lo hi v : Expr A) → Same K (rust_segment same lo hi v) (iso_segment same lo hi v)
  -- the point is that of the segment taken, of its curve c at its own parameter
  pub rounded : (ss : Segments) (t : Float) (c : CurveTree) (r : Interval) (same : Bool) (rest : Segments) → let n = run_length ss in
      segments_from (segment_index n t) ss ≡ segment c r same rest →
      point_at (composite ss) t ≡ point_at c (rounded (rust_segment same (value r.lo) (value r.hi) (value (segment_local n t))))
  -- a t that lies on it is not clamped
  pub parameter : (n : ℕ) (t : Float) → LiesOn n t → clamped_to n t ≡ t
  -- the segment taken is the one that holds the clamped parameter, of any t but a NaN
  pub taken : (n : ℕ) (t : Float) → 0 < n → n ≤ 2 ^ 53 → is_nan t ≡ false → Holds n (segment_index n t) (clamped_to n t)

-- the trim of base to the range r: its range, and the base's point at the same t. By the standard a trim counts from its first end: its s is t - lo
pub record TrimFollows : Type 0 where
  pub range : (base : CurveTree) (r : Interval) → natural_range (trimmed base r) ≡ r
  pub point : (base : CurveTree) (r : Interval) (t : Float) → point_at (trimmed base r) t ≡ point_at base t
