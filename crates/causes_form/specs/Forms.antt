-- Cause 3: what does not follow the tables' form. Definitions only.
use Rattle.std.specs.Prelude.{Bool, true, false, not, ◌&&◌, ◌||◌, List, ℕ, ◌+◌, ◌*◌, ◌/◌, ◌%◌, length, get_or, eqb, ltb, leb, Float, Option, Some, None}
use Rattle.std.specs.Float.{nan}
use Rattle.std.specs.Float.Ieee.{ne}
use Rattle.arith.specs.Notation.{plus_zero}
use Rattle.brep.specs.declared.Edge.{Edge}
use Rattle.brep.specs.declared.Kind.{Kind}
use Rattle.brep.specs.declared.Kind.TheVariants.{Line, Ellipse, Polyline, Trimmed, Composite, Hyperbola}
use Rattle.brep.specs.Kind.{kind_at}
use Rattle.brep.specs.Rows.{Tables}
use Rattle.options.specs.declared.Options.{Options}
use Rattle.causes_bounds.specs.Some.{some_below}

-- how many points there are
abbrev pub point_count : Tables → ℕ
point_count T = length T.points / 3

-- how many curve rows
abbrev pub curve_count : Tables → ℕ
curve_count T = length T.curves / 3

-- how many segments
abbrev pub segment_count : Tables → ℕ
segment_count T = length T.parts / 2

-- points not in threes, or another slice not whole rows
unfoldable pub broken : Tables → Bool
broken T =
    not (eqb (length T.points % 3) 0)
    || ((not (eqb (length T.curves % 3) 0) || not (eqb (length T.reals % 2) 0))
    || (not (eqb (length T.parts % 2) 0) || not (eqb (length T.ranges % 2) 0)))

-- the two slices of a table not of as many rows
unfoldable pub uneven : Tables → Bool
uneven T = not (eqb (length T.reals / 2) (curve_count T)) || not (eqb (length T.ranges / 2) (segment_count T))

-- the slices do not make up tables
abbrev pub ragged : Tables → Bool
ragged T = broken T || uneven T

-- a line has 2 points, a circle, ellipse, parabola or hyperbola 3, a trim 1 base
unfoldable pub wrong_count : Kind → ℕ → Bool
wrong_count Line count = not (eqb count 2)
wrong_count Trimmed count = not (eqb count 1)
wrong_count Polyline count = false
wrong_count Composite count = false
wrong_count _ count = not (eqb count 3)

-- lines, polylines and composites have no p
unfoldable pub spare_p : Kind → Bool
spare_p Line = true
spare_p Polyline = true
spare_p Composite = true
spare_p _ = false

-- all but ellipses, trims and hyperbolas have no q
unfoldable pub spare_q : Kind → Bool
spare_q Ellipse = false
spare_q Trimmed = false
spare_q Hyperbola = false
spare_q _ = true

-- not zero, of either sign
abbrev pub not_zero : Float → Bool
not_zero x = ne x plus_zero

-- a p or q that the kind does not use, and that is not zero
unfoldable pub unused_set : Kind → Float → Float → Bool
unused_set kind p q = (spare_p kind && not_zero p) || (spare_q kind && not_zero q)

-- how many there are of what a row of this kind refers to: rows for a trim, segments for a composite, points for any other
abbrev pub targets : Tables → Kind → ℕ
targets T Trimmed = curve_count T
targets T Composite = segment_count T
targets T _ = point_count T

-- a row of this kind with these numbers; a run must end inside its table
abbrev pub malformed_as : Tables → Kind → ℕ → ℕ → Float → Float → Bool
malformed_as T kind first count p q =
    wrong_count kind count || (unused_set kind p q || ltb (targets T kind) (first + count))

-- the same of a row whose kind may be none of the eight
unfoldable pub malformed : Tables → Option Kind → ℕ → ℕ → Float → Float → Bool
malformed T None first count p q = true
malformed T (Some kind) first count p q = malformed_as T kind first count p q

-- row i of the curves
unfoldable pub malformed_row : Tables → ℕ → Bool
malformed_row T i =
    malformed T (kind_at T.curves i) (get_or T.curves (i * 3 + 1) 0) (get_or T.curves (i * 3 + 2) 0)
    (get_or T.reals (i * 2) nan) (get_or T.reals (i * 2 + 1) nan)

-- segment i: its curve not among so many rows, or its sense neither 0 nor 1
abbrev pub malformed_part : List ℕ → ℕ → ℕ → Bool
malformed_part parts rows i = leb rows (get_or parts (i * 2) 0) || ltb 1 (get_or parts (i * 2 + 1) 0)

-- segment i of the tables
unfoldable pub malformed_segment : Tables → ℕ → Bool
malformed_segment T i = malformed_part T.parts (curve_count T) i

-- the slices, the rows, or the segments
abbrev pub ill_formed_tables : Tables → Bool
ill_formed_tables T =
    ragged T
    || (some_below (curve_count T) (malformed_row T) || some_below (segment_count T) (malformed_segment T))

-- the edge's sense, or relative
abbrev pub ill_formed_edge : Edge → Options → Bool
ill_formed_edge e o = ltb 1 e.sense || ltb 1 o.relative

-- of the tables, or of the edge and the options
unfoldable pub ill_formed : Tables → Edge → Options → Bool
ill_formed T e o = ill_formed_tables T || ill_formed_edge e o
