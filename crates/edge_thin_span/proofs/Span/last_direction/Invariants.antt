-- The segments up to i have the same last direction as the whole span.
use Rattle.std.proofs.Common.{◌≡◌}
use Rattle.edge_record.specs.Own.Stored.{record_point}
use Rattle.edge_thin_span.specs.Span.{last_in}
use Rattle.edge_thin_span.proofs.Loops.{ends}
use Rattle.edge_thin_span.proofs.Span.last_direction.Given as goal

abbrev pub invariant-loop-i : goal.invariant-loop-i
invariant-loop-i l =
    let points = record_point l.self.chain.now in
    last_in (ends points l.self.a l.i) ≡ last_in (ends points l.self.a l.self.b)
