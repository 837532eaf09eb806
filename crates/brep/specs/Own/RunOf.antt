-- A composite by the run of segments that its row names. Definitions only.
use Rattle.std.specs.Prelude.{ℕ}
use Rattle.brep.specs.Rows.{Tables}
use Rattle.brep.specs.Tree.{CurveTree, composite, below, segments}

-- the composite of a run of segments that row refers to
abbrev pub run_of : Tables → ℕ → ℕ → ℕ → CurveTree
run_of T row first count = composite (segments T (below T row) first count)
