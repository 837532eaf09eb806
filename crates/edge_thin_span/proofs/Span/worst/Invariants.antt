-- The points from i on give, after those before, the worst of the whole span.
use Rattle.std.proofs.Common.{◌≡◌}
use Rattle.arith_root.specs.Root.{root_of}
use Rattle.edge_record.specs.Own.Stored.{record_point}
use Rattle.edge_thin_span.specs.Span.{worst_of}
use Rattle.edge_thin_span.proofs.Loops.{worst_onward}
use Rattle.edge_thin_span.proofs.Span.worst.Given as goal

abbrev pub invariant-loop-i : goal.invariant-loop-i
invariant-loop-i l =
    let points = record_point l.self.chain.now in
    worst_onward points (points l.self.a) (points l.self.b) l.self.b (root_of l.far2) l.at l.i ≡ worst_of points l.self.a l.self.b
