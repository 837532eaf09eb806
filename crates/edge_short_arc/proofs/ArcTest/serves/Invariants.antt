-- `edge_short_arc::ArcTest::serves` meets its contract. The invariant: what is known of the records taken so far is what the definitions say of them. Assumes nothing.
use Rattle.std.proofs.Common.{◌≡◌}
use Rattle.edge_record.specs.Chain.{width}
use Rattle.edge_short_arc.proofs.Walk.{Walking}
use Rattle.edge_short_arc.proofs.ArcTest.serves.Given as goal

abbrev pub invariant-loop-record : goal.invariant-loop-record
invariant-loop-record l = (l.record-iterator.size ≡ width) × Walking l.fn.self l.fn.arc l.seen l.record-iterator.rest.now
