-- `causes_nesting::rows_cause_in` meets its contract. The invariant: lowest is what the rows gone by come to. Assumes nothing.
use Rattle.brep.specs.Rows.{lent}
use Rattle.causes_nesting.proofs.Laws.{Gone}
use Rattle.causes_nesting.proofs.rows_cause_in.Given as goal

abbrev pub invariant-loop-row : goal.invariant-loop-row
invariant-loop-row g l = Gone (lent l.tables) (g.D.Depths.seen l.depths) l.lowest l.row
