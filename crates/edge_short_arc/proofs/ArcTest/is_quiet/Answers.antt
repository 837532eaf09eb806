-- `edge_short_arc::ArcTest::is_quiet` meets its contract, by the cuts. Assumes nothing.
use Rattle.std.proofs.Common.{rules, refl}
use Rattle.edge_short_arc.proofs.Laws.{quiet}
use Rattle.edge_short_arc.proofs.ArcTest.is_quiet.Goals as goal

pub returns : goal.returns
returns c =
    quiet c.args.self.now c.args.seen c.args.p (search rules) (search rules) (rw c.sub.ensures at c.length_squared-out.ensures) (rw c.sub-2.ensures at c.length_squared-to_end.ensures)
    c.args.seen.reaches_start c.is_below_low_cut.result c.is_above_high_cut.result refl c.is_below_low_cut.ensures c.is_above_high_cut.ensures
