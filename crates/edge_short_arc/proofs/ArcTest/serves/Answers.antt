-- `edge_short_arc::ArcTest::serves` meets its contract, record by record. Assumes nothing.
use Rattle.std.proofs.Common.{◌∙◌}
use Rattle.edge_short_arc.proofs.Walk.{walking, walking_on, walking_out, reached, unreached}
use Rattle.edge_short_arc.proofs.ArcTest.serves.Goals as goal

pub loop-record-init : goal.loop-record-init
loop-record-init c =
    let chunks = c.chunks_exact-record-items.ensures in
    rw c.into_iter-record-iterator.ensures.into_iter_gives (chunks.size, walking c.args.self.now c.args.arc.now chunks.rest)

pub returns-then-seen : goal.returns-then-seen
returns-then-seen c =
    let l = c.loop-record.invariant in
    let s = c.in-Some.ensures.steps in
    walking_out c.args.self.now c.args.arc.now l.1 c.in-Some.record.now c.next.new.self.rest.now s.1.0 (s.1.1 ∙ l.0) (rw c.record_point.ensures at c.take-seen.ensures) c.if-seen.true

pub loop-record-preserved : goal.loop-record-preserved
loop-record-preserved c =
    let l = c.loop-record.invariant in
    let s = c.in-Some.ensures.steps in (
      s.0 ∙ l.0,
      walking_on c.args.self.now c.args.arc.now l.1 c.in-Some.record.now c.next.new.self.rest.now s.1.0 (s.1.1 ∙ l.0) (rw c.record_point.ensures at c.take-seen.ensures) c.if-seen.false,
    )

pub returns-then-seen-2 : goal.returns-then-seen-2
returns-then-seen-2 c =
    let l = c.loop-record.invariant in
    reached c.args.self.now c.args.arc.now l.1 (rw l.0 at c.in-None.ensures.steps.1.0) c.if-seen-2.true

pub returns-else-seen-2 : goal.returns-else-seen-2
returns-else-seen-2 c =
    let l = c.loop-record.invariant in
    unreached c.args.self.now c.args.arc.now l.1 (rw l.0 at c.in-None.ensures.steps.1.0) c.if-seen-2.false
