-- Cause 2: a float not finite, or above 1e9 in magnitude. Definitions only.
use Rattle.std.specs.Prelude.{Bool, not, ◌&&◌, ◌||◌, List, Float}
use Rattle.std.specs.Float.Ieee.{le, neg}
use Rattle.std.specs.Float.Ieee.Scale.{finite}
use Rattle.arith.specs.Constants.{billion}
use Rattle.brep.specs.declared.Edge.{Edge}
use Rattle.options.specs.declared.Options.{Options}
use Rattle.std.specs.List.{list_any}

-- 1e9
abbrev pub largest : Float
largest = billion

-- at most 1e9 in magnitude: no NaN and no infinity is
unfoldable pub within : Float → Bool
within x = le (neg largest) x && le x largest

-- not so: above 1e9 in magnitude, a NaN or an infinity
unfoldable pub beyond : Float → Bool
beyond x = not (within x)

-- beyond, of a float that may be NaN or infinite: the edge's lo and hi, and scale
unfoldable pub finite_beyond : Float → Bool
finite_beyond x = finite x && beyond x

-- a float of the edge: lo, hi or the tolerance
unfoldable pub edge_beyond : Edge → Bool
edge_beyond e = finite_beyond e.range.lo || (finite_beyond e.range.hi || beyond e.tolerance)

-- a float of the options: the deflection, the angle or the scale
unfoldable pub options_beyond : Options → Bool
options_beyond o = beyond o.deflection || (beyond o.angle.0 || finite_beyond o.scale)

-- any float of the points, the rows' p and q, or the segments' lo and hi
abbrev pub unbounded_tables : List Float → List Float → List Float → Bool
unbounded_tables points reals ranges = list_any beyond points || (list_any beyond reals || list_any beyond ranges)

-- any float of the edge or the options
abbrev pub unbounded_edge : Edge → Options → Bool
unbounded_edge e o = edge_beyond e || options_beyond o

-- of the tables, or of the edge and the options
unfoldable pub unbounded : List Float → List Float → List Float → Edge → Options → Bool
unbounded points reals ranges e o = unbounded_tables points reals ranges || unbounded_edge e o
