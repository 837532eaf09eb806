-- What the reader of a sheet answers, and what its tables hold afterwards.
use Rattle.std.specs.Prelude.{[], ℕ, ◌*◌, ◌≤◌, length, take, Float, Result, Ok, Err}
use Rattle.std.specs.Float.{binary64}
use Rattle.std.specs.Float.Ieee.{of_bits}
use Rattle.base_lists.specs.Room.{padded}
use Rattle.refusal.specs.declared.Refusal.{Refusal}
use Rattle.text_format.specs.Table.{fields}
use Rattle.sheet_layout.specs.Layout.{RawSheet, sheet_points, sheet_curves, sheet_segments, point_columns, curve_columns, segment_columns}
use Rattle.sheet_row.specs.Rows.{floats_of, wholes_of, raw_edge_of, raw_options_of}
use Rattle.sheet_row.specs.declared.RawEdge.{RawEdge}
use Rattle.sheet_row.specs.declared.RawOptions.{RawOptions}
use Rattle.sheet_tables.specs.Flattened.{flattened}
use Rattle.math.specs.Math.{interval}
use Rattle.brep.specs.Rows.{Tables, tables}
use Rattle.brep.specs.declared.Edge.{Edge}
use Rattle.options.specs.declared.Options.{Options}
use Rattle.options.specs.Options.{radians}
use Rattle.sheet.specs.declared.Sheet.{Sheet}
use Rattle.sheet.specs.declared.SheetTables.{SheetTables}

-- ---- the edge and the options
-- the float of 64 bits; a NaN's bits are a NaN
abbrev pub float_of : ℕ → Float
float_of bits = of_bits binary64 bits

-- the edge of its numbers
abbrev pub edge_from : RawEdge → Edge
edge_from raw = record {
  curve = raw.curve;
  start = raw.start;
  end = raw.end;
  sense = raw.sense;
  range = interval (float_of raw.lo) (float_of raw.hi);
  tolerance = float_of raw.tolerance;
  low = raw.low;
  high = raw.high;
}

-- the options of their numbers, the angle in radians
abbrev pub options_from : RawOptions → Options
options_from raw = record {
  deflection = float_of raw.deflection;
  angle = radians (float_of raw.angle);
  relative = raw.relative;
  segments = raw.segments;
  depth = raw.depth;
  scale = float_of raw.scale;
}

-- THE ANSWER: how many points, curves and segments, the edge, the options, and the bits of lo and hi; or the refusal
unfoldable pub answer : Result RawSheet Refusal → Result Sheet Refusal
answer (Err cause) = Err cause
answer (Ok raw) = Ok (record {
  points = length raw.points;
  curves = length raw.curves;
  segments = length raw.segments;
  edge = edge_from (raw_edge_of raw.edge);
  options = options_from (raw_options_of raw.options);
  lo = (raw_edge_of raw.edge).lo;
  hi = (raw_edge_of raw.edge).hi;
})

-- it has no more rows than any sheet can have, so that the tables hold them
pub record FitsTables (sheet : Sheet) : Type 0 where
  pub points : sheet.points ≤ sheet_points
  pub curves : sheet.curves ≤ sheet_curves
  pub segments : sheet.segments ≤ sheet_segments

-- ---- the tables
-- the sheet's tables: points (x y z), curves (kind first count, and p q), segments (curve sense, and lo hi), row behind row
unfoldable pub tables_of : RawSheet → Tables
tables_of raw =
    tables (flattened (floats_of (fields point_columns)) raw.points)
    (flattened (wholes_of (fields curve_columns)) raw.curves)
    (flattened (floats_of (fields curve_columns)) raw.curves)
    (flattened (wholes_of (fields segment_columns)) raw.segments)
    (flattened (floats_of (fields segment_columns)) raw.segments)

-- the numbers, then zeros, in the tables as they are lent
unfoldable pub stored : Tables → Tables
stored t =
    tables (padded (3 * sheet_points) (float_of 0) t.points) (padded (3 * sheet_curves) 0 t.curves) (padded (2 * sheet_curves) (float_of 0) t.reals) (padded (2 * sheet_segments) 0 t.parts)
    (padded (2 * sheet_segments) (float_of 0) t.ranges)

-- no rows at all
abbrev pub no_tables : Tables
no_tables = tables [] [] [] [] []

-- the leading rows of tables: so many points, curves and segments
unfoldable pub leading : ℕ → ℕ → ℕ → Tables → Tables
leading points curves segments t =
    tables (take (3 * points) t.points) (take (3 * curves) t.curves) (take (2 * curves) t.reals) (take (2 * segments) t.parts)
    (take (2 * segments) t.ranges)

-- WHAT THE TABLES HOLD afterwards: those of the sheet that was read; zeros alone after a refusal
unfoldable pub tables_after : Result RawSheet Refusal → Tables
tables_after (Err cause) = stored no_tables
tables_after (Ok raw) = stored (tables_of raw)

-- the tables as they are written down
abbrev pub written : SheetTables → Tables
written t = tables t.points t.curves t.reals t.parts t.ranges
