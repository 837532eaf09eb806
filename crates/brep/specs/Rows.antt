-- The tables, and what a row of each says. What lies past a table's end is NaN or 0. Definitions only.
use Rattle.std.specs.Prelude.{not, List, ℕ, ◌+◌, ◌*◌, get_or, eqb, Float, Option, Some, None}
use Rattle.std.specs.Borrow.{Bor}
use denote.Triple.Both.{Both}
use Rattle.std.specs.Float.{nan}
use Rattle.math.specs.declared.Vec3.{Vec3}
use Rattle.math.specs.declared.Frame.{Frame}
use Rattle.math.specs.Math.{vec, interval}
use Rattle.brep.specs.declared.LentTables.{LentTables}
use Rattle.brep.specs.declared.Kind.{Kind}
use Rattle.brep.specs.declared.Kind.TheVariants as kinds
use Rattle.brep.specs.declared.Segment.{Segment}
use Rattle.brep.specs.declared.Curve.{Curve}
use Rattle.brep.specs.declared.Curve.TheVariants.{Line, Circle, Ellipse, Parabola, Polyline, Trimmed, Composite, Hyperbola}
use Rattle.brep.specs.Kind.{kind_at}

-- the tables of a drawing: points (x y z), curve rows (kind first count, and p q), segments (curve sense, and lo hi)
pub record Tables : Type 0 where
  pub points : List Float
  pub curves : List ℕ
  pub reals : List Float
  pub parts : List ℕ
  pub ranges : List Float

-- the tables of five lists
abbrev pub tables : List Float → List ℕ → List Float → List ℕ → List Float → Tables
tables points curves reals parts ranges =
    record { points = points; curves = curves; reals = reals; parts = parts; ranges = ranges }

-- the tables that lent slices hold
abbrev pub lent : LentTables → Tables
lent slices = tables slices.points.now slices.curves.now slices.reals.now slices.parts.now slices.ranges.now

-- the tables of five slices that a function was given, as they were at its entry
abbrev pub given : {A B C D E : Type 0} → Both (Bor (List Float)) A → Both (Bor (List ℕ)) B → Both (Bor (List Float)) C → Both (Bor (List ℕ)) D → Both (Bor (List Float)) E → Tables
given points curves reals parts ranges =
    tables points.entry.now curves.entry.now reals.entry.now parts.entry.now ranges.entry.now

-- point i: solid.vertex(i)
unfoldable pub point_of : List Float → ℕ → Vec3
point_of points i = vec (get_or points (i * 3) nan) (get_or points (i * 3 + 1) nan) (get_or points (i * 3 + 2) nan)

-- origin, axis and ref_dir, as they are
unfoldable pub frame_of : List Float → ℕ → Frame
frame_of points first =
    record { origin = point_of points first; axis = point_of points (first + 1); ref_dir = point_of points (first + 2) }

-- segment i: its curve's row, its range, and whether it runs with its curve
unfoldable pub segment_of : List ℕ → List Float → ℕ → Segment
segment_of parts ranges i = record {
  curve = get_or parts (i * 2) 0;
  range = interval (get_or ranges (i * 2) nan) (get_or ranges (i * 2 + 1) nan);
  same_sense = not (eqb (get_or parts (i * 2 + 1) 0) 0);
}

-- the most points that a table may have
abbrev pub most_points : ℕ
most_points = 65536

-- the most curve rows
abbrev pub most_rows : ℕ
most_rows = 4096

-- the most segments
abbrev pub most_segments : ℕ
most_segments = 4096

-- a row's numbers as a curve of its kind; of an unknown kind, the empty polyline
unfoldable pub kind_of : List Float → Option Kind → ℕ → ℕ → Float → Float → Curve
kind_of points (Some kinds.Line) first count p q = Line (point_of points first) (point_of points (first + 1))
kind_of points (Some kinds.Circle) first count p q = Circle (frame_of points first) p
kind_of points (Some kinds.Ellipse) first count p q = Ellipse (frame_of points first) p q
kind_of points (Some kinds.Parabola) first count p q = Parabola (frame_of points first) p
kind_of points (Some kinds.Polyline) first count p q = Polyline (record { first = first; count = count })
kind_of points (Some kinds.Trimmed) first count p q = Trimmed first (interval p q)
kind_of points (Some kinds.Composite) first count p q = Composite (record { first = first; count = count })
kind_of points (Some kinds.Hyperbola) first count p q = Hyperbola (frame_of points first) p q
kind_of points None first count p q = Polyline (record { first = first; count = 0 })

-- curve row i
unfoldable pub curve_of : List Float → List ℕ → List Float → ℕ → Curve
curve_of points curves reals i =
    kind_of points (kind_at curves i) (get_or curves (i * 3 + 1) 0) (get_or curves (i * 3 + 2) 0)
    (get_or reals (i * 2) nan) (get_or reals (i * 2 + 1) nan)
