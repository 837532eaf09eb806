-- `worst` meets its contract.
use Rattle.std.proofs.Common.{ap, ◌∙◌, arith}
use Rattle.math_chord.specs.declared.Foot.{Foot}
use Rattle.edge_record.specs.Own.Stored.{record_point}
use Rattle.edge_thin_span.specs.Span.{worst_of}
use Rattle.edge_thin_span.proofs.Loops.{root_none, worst_new, worst_old, worst_end}
use Rattle.edge_thin_span.proofs.Span.worst.Goals as goal
use Rattle.edge_thin_span.proofs.Span.worst.Goals.{else-is_below, then-is_below}

pub loop-i-init : goal.loop-i-init
unfolding worst_of
loop-i-init c = rw root_none

pub loop-i-preserved : goal.loop-i-preserved
loop-i-preserved c =
    let s = c.args.self.now in
    let l = c.loop-i in
    let e = rw (c.record_point-pa.ensures, c.record_point-pb.ensures) at c.for_thinning-chord.ensures in
    let p = c.record_point-p.ensures in
    let d = ap (λ (f : Foot). f.squared) c.foot-d2.ensures in
    let t = c.is_below.ensures in
    elim c.if-is_below.branch [
      | then-is_below w ↦ rw (w.far2-is, w.at-is) (worst_new (record_point s.chain.now) _ _ s.b e _ l.at l.i (omega arith) p d t w.if-is_below.true ∙ l.invariant)
      | else-is_below w ↦ rw (w.far2-is, w.at-is) (worst_old (record_point s.chain.now) _ _ s.b e _ l.at l.i (omega arith) p d t w.if-is_below.false ∙ l.invariant)
    ]

pub returns : goal.returns
returns c =
    let s = c.args.self.now in
    let l = c.loop-i in
    rw c.root.ensures.0 (worst_end (record_point s.chain.now) _ _ s.b _ l.at l.i (omega arith) ∙ l.invariant)
