-- An edge over another range. Definitions only.
use Rattle.math.specs.declared.Interval.{Interval}
use Rattle.brep.specs.declared.Edge.{Edge}

-- Edge { range, ..edge.clone() }
abbrev pub with_range : Edge → Interval → Edge
with_range e range = record {
  curve = e.curve;
  start = e.start;
  end = e.end;
  sense = e.sense;
  range = range;
  tolerance = e.tolerance;
  low = e.low;
  high = e.high;
}
