-- `knots::knot_count` meets its contract. Assumes nothing.
use Rattle.knots.proofs.Laws.{run_counted}
use Rattle.knots.proofs.knot_count.Goals as goal

pub returns : goal.returns
returns c = let t = c.args.tables.now in run_counted t c.args.row c.run_of.result c.run_of.ensures
