-- `edge_short_arc::ArcTest::take` meets its contract, each answer by its own test. Assumes nothing.
use Rattle.edge_short_arc.specs.Seen.{taken}
use Rattle.edge_short_arc.proofs.ArcTest.take.Goals as goal

pub returns : goal.returns
unfolding taken
returns c = rw (c.escapes.ensures, c.reaches.ensures, c.reaches-2.ensures)
