-- The Rust's recursive curve, and how a row of the tables is read as one. Definitions only.
use Rattle.std.specs.Prelude.{Bool, true, false, List, [], ◌∷◌, ℕ, zero, suc, eqb, Float}
use Rattle.math.specs.declared.Vec3.{Vec3}
use Rattle.math.specs.declared.Frame.{Frame}
use Rattle.math.specs.declared.Interval.{Interval}
use Rattle.brep.specs.declared.Segment.{Segment}
use Rattle.brep.specs.declared.Curve.{Curve}
use Rattle.brep.specs.declared.Curve.TheVariants.{Line, Circle, Ellipse, Parabola, Polyline, Trimmed, Composite, Hyperbola}
use Rattle.brep.specs.Rows.{Tables, point_of, segment_of, curve_of}

-- the analytic curves of brep.rs' Curve that are kept
pub data Analytic : Type 0 where
  -- origin, direction
  line : Vec3 → Vec3 → Analytic
  -- frame, radius
  circle : Frame → Float → Analytic
  -- frame, semi_major, semi_minor
  ellipse : Frame → Float → Float → Analytic
  -- frame, focal_dist
  parabola : Frame → Float → Analytic
  -- frame, semi_major, semi_minor
  hyperbola : Frame → Float → Float → Analytic

-- Curve and Vec<CompositeSegment> of brep.rs, the kinds that are kept; the analytic ones in one case, for what is the same for all of them
mutual
  pub data CurveTree : Type 0 where
    analytic : Analytic → CurveTree
    -- points
    polyline : List Vec3 → CurveTree
    -- base, range
    trimmed : CurveTree → Interval → CurveTree
    composite : Segments → CurveTree

  pub data Segments : Type 0 where
    none : Segments
    -- curve, range, same_sense, and the segments after it
    segment : CurveTree → Interval → Bool → Segments → Segments

-- n points from number first on
unfoldable pub run : List Float → ℕ → ℕ → List Vec3
run points first zero = []
run points first (suc n) = point_of points first ∷ run points (suc first) n

-- segment number i of the tables
abbrev pub segment_in : Tables → ℕ → Segment
segment_in T i = segment_of T.parts T.ranges i

-- curve row number i of the tables
abbrev pub row_in : Tables → ℕ → Curve
row_in T i = curve_of T.points T.curves T.reals i

-- n segments from number first on; f gives the curve of a row
unfoldable pub segments : Tables → (ℕ → CurveTree) → ℕ → ℕ → Segments
segments T f first zero = none
segments T f first (suc n) =
    segment (f (segment_in T first).curve) (segment_in T first).range (segment_in T first).same_sense
    (segments T f (suc first) n)

-- a row as a tree, where f gives the tree of each row that it refers to
unfoldable pub grown : Tables → (ℕ → CurveTree) → Curve → CurveTree
grown T f (Line origin direction) = analytic (line origin direction)
grown T f (Circle frame radius) = analytic (circle frame radius)
grown T f (Ellipse frame major minor) = analytic (ellipse frame major minor)
grown T f (Parabola frame focal) = analytic (parabola frame focal)
grown T f (Polyline r) = polyline (run T.points r.first r.count)
grown T f (Trimmed base range) = trimmed (f base) range
grown T f (Composite r) = composite (segments T f r.first r.count)
grown T f (Hyperbola frame major minor) = analytic (hyperbola frame major minor)

-- the trees of the rows below n; any other row is the empty polyline
unfoldable pub below : Tables → ℕ → ℕ → CurveTree
below T zero i = polyline []
below T (suc n) i = elim (eqb i n) [ true ↦ grown T (below T n) (row_in T n) | false ↦ below T n i ]

-- THE READING: a row's tree, over the trees of the rows below it. A reference that does not fall reads as the empty polyline.
unfoldable pub tree : Tables → ℕ → CurveTree
tree T i = grown T (below T i) (row_in T i)
