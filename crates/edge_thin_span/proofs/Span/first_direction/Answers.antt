-- `first_direction` meets its contract.
use Rattle.std.proofs.Common.{sym, ap, ◌∙◌, arith}
use Rattle.edge_record.specs.Own.Stored.{record_point}
use Rattle.edge_thin_span.specs.Span.{first_in}
use Rattle.edge_thin_span.proofs.Loops.{first_here, first_later, ends_none}
use Rattle.edge_thin_span.proofs.Span.first_direction.Goals as goal

pub returns-in-Some : goal.returns-in-Some
returns-in-Some c =
    let s = c.args.self.now in
    let l = c.loop-i in
    first_here (record_point s.chain.now) l.i s.b (omega arith) c.in-Some.ensures ∙ l.invariant

pub loop-i-preserved : goal.loop-i-preserved
loop-i-preserved c =
    let s = c.args.self.now in
    let l = c.loop-i in
    first_later (record_point s.chain.now) l.i s.b (omega arith) c.in_default.ensures ∙ l.invariant

pub returns : goal.returns
returns c =
    let s = c.args.self.now in
    let l = c.loop-i in
    sym (ap first_in (ends_none (record_point s.chain.now) l.i s.b (omega arith))) ∙ l.invariant
