-- When an edge is turned away: causes 1 to 6 of the scope's table, each a predicate of its own, in order. Definitions only.
use Rattle.std.specs.Prelude.{Bool, cond, ◌||◌, ℕ, ◌*◌, length, ltb, leb, ⊤, Ok, Err}
use Rattle.brep.specs.declared.Edge.{Edge}
use Rattle.brep.specs.Rows.{Tables, most_points, most_rows, most_segments}
pub use Rattle.causes_nesting.specs.Nest.{unordered, too_deep}
use Rattle.options.specs.declared.Options.{Options}
use Rattle.causes_bounds.specs.Bounds.{unbounded_tables, unbounded_edge, unbounded}
use Rattle.causes_form.specs.Forms.{point_count, curve_count, ill_formed_tables, ill_formed_edge, ill_formed}
use Rattle.refusal.specs.Answer.{Answer}
use Rattle.refusal.specs.declared.Refusal.TheVariants.{Oversize, Unbounded, IllFormed, Unordered, TooDeep, Missing}

-- 1: a table above its size: 65,536 points, 4,096 rows, 4,096 segments
unfoldable pub oversize : Tables → Bool
oversize T =
    ltb (3 * most_points) (length T.points)
    || ((ltb (3 * most_rows) (length T.curves) || ltb (2 * most_rows) (length T.reals))
    || (ltb (2 * most_segments) (length T.parts) || ltb (2 * most_segments) (length T.ranges)))

-- 2 is `unbounded` of causes_bounds, 3 `ill_formed` of causes_form, 4 `unordered` and 5 `too_deep` of causes_nesting

-- the edge's curve not among so many rows, or its start, end, low or high not among so many points
abbrev pub missing_from : ℕ → ℕ → Edge → Bool
missing_from points rows e =
    leb rows e.curve
    || ((leb points e.start || leb points e.end) || (leb points e.low || leb points e.high))

-- 6: the edge's curve, start, end, low or high outside its table
unfoldable pub missing : Tables → Edge → Bool
missing T e = missing_from (point_count T) (curve_count T) e

-- the lowest that applies
unfoldable pub verdict : Tables → Edge → Options → Answer ⊤
verdict T e o =
    cond (oversize T) (Err Oversize)
    (cond (unbounded T.points T.reals T.ranges e o) (Err Unbounded)
    (cond (ill_formed T e o) (Err IllFormed)
    (cond (unordered T) (Err Unordered)
    (cond (too_deep T) (Err TooDeep)
    (cond (missing T e) (Err Missing)
    (Ok tt))))))

-- the lowest of those that the tables alone can have: 1 to 5
unfoldable pub tables_verdict : Tables → Answer ⊤
tables_verdict T =
    cond (oversize T) (Err Oversize)
    (cond (unbounded_tables T.points T.reals T.ranges) (Err Unbounded)
    (cond (ill_formed_tables T) (Err IllFormed)
    (cond (unordered T) (Err Unordered)
    (cond (too_deep T) (Err TooDeep)
    (Ok tt)))))

-- the lowest of those of the edge and the options: 2, 3 and 6
unfoldable pub edge_verdict : Tables → Edge → Options → Answer ⊤
edge_verdict T e o =
    cond (unbounded_edge e o) (Err Unbounded)
    (cond (ill_formed_edge e o) (Err IllFormed)
    (cond (missing T e) (Err Missing)
    (Ok tt)))
