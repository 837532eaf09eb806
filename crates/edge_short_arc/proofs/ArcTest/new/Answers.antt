-- `edge_short_arc::ArcTest::new` meets its contract. Assumes nothing.
use Rattle.edge_short_arc.proofs.ArcTest.new.Goals as goal

pub returns : goal.returns
returns c = rw (c.centre.ensures, c.new.ensures, c.diagonal.ensures, c.new-2.ensures, c.max.ensures)
