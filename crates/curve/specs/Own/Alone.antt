-- A row alone, for what looks neither through a trim nor into a composite. Definitions only.
use Rattle.std.specs.Prelude.{ℕ, []}
use Rattle.brep.specs.Rows.{Tables}
use Rattle.brep.specs.Tree.{CurveTree, polyline, row_in, grown}

-- a row as a tree, with the empty polyline for each row that it refers to
abbrev pub alone : Tables → ℕ → CurveTree
alone T row = grown T (λ i. polyline []) (row_in T row)
