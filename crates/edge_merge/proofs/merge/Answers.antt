-- `merge` meets its contract. The loop's invariant: the first k records are what is kept of those before i, and k is at least 1.
-- The measure is what is left of the records. Assumes nothing.
use mathlib.Core.Path.{refl, ap, ◌∙◌}
use Prim.Native.Nat.{◌*◌}
use lib.ListN.{length}
use lib.Seq.{length-sets}
use Rattle.edge_record.specs.Chain.{width, row}
use Rattle.edge_merge.proofs.Loop.{kept_first_lem, kept_push, kept_pass, as_it_was, no_floor, few, ended}
use Rattle.edge_merge.proofs.merge.Goals as goal
use Rattle.edge_merge.proofs.merge.Goals.{else-is_apart, then-is_apart}

pub returns-then-n-le2 : goal.returns-then-n-le2
returns-then-n-le2 c = as_it_was _ _ _ (few _ _ _ c.if-n-le2.true)

pub loop-i-init : goal.loop-i-init
loop-i-init c = (refl, kept_first_lem _ _ _ c.if-n-le2.false _ c.record_point-last.ensures)

pub loop-i-preserved : goal.loop-i-preserved
loop-i-preserved c =
    let l = c.loop-i in
    let within = c.loop-i-test.true in
    let p = c.sample_at-p.ensures in
    let far = rw c.new-limit.ensures at c.is_apart.ensures in (
      refl,
      elim c.if-is_apart.branch [ then-is_apart w ↦ rw (w.chain-is, w.last-is, w.k-is) (kept_push _ _ _ l.invariant.1 within p far w.if-is_apart.true w.put.ensures) | else-is_apart w ↦ rw (w.chain-is, w.last-is, w.k-is) (kept_pass _ _ _ l.invariant.1 within p far w.if-is_apart.false) ],
    )

pub shape_of-chain-then-floor : goal.shape_of-chain-then-floor
shape_of-chain-then-floor c = ap length c.put-then-floor.ensures ∙ length-sets c.loop-i.chain (width * c.before_end-m.result) (row c.sample_at-end.result) ∙ c.loop-i.invariant.1.same_length

pub returns-then-floor : goal.returns-then-floor
returns-then-floor c = ended _ _ _ c.if-floor.true c.loop-i.invariant.1 c.loop-i-test.false c.sample_at-end.ensures c.put-then-floor.ensures c.before_end-m.ensures.0

pub returns : goal.returns
returns c = as_it_was _ _ _ (no_floor _ _ _ c.if-floor.false)
