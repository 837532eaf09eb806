-- `edge_repair::by_short_arc` meets its contract: where the sweep would ask for a parameter that is too far both buffers are cleared. Assumes nothing.
use Rattle.edge_repair.proofs.Redrawn.{redrawn_is, redrawn_cleared}
use Rattle.edge_repair.proofs.Ways.{short_far, short_tried}
use Rattle.draw_spec.specs.Repair.{by_short_arc}
use Rattle.edge_repair.specs.Own.Buffers.{room_in}
use Rattle.refusal.specs.declared.Refusal.TheVariants.{TooFar}
use Rattle.brep.specs.Rows.{lent}
use mathlib.Core.Path.{refl}
use native.Mathlib.Omega.{arith}
use Rattle.edge_repair.proofs.by_short_arc.Goals as goal

pub returns-then-sweep_far : goal.returns-then-sweep_far
returns-then-sweep_far c =
    let a = c.args in
    let plan = a.plan.now in
    let T = lent plan.drawing.now.tables.now in
    let e = plan.drawing.now.edge in
    redrawn_cleared (by_short_arc plan.drawing.now.mode T e plan.options) a.buffers.now _ (record { first = refl; second = refl; first_room = c.clear_from.auto.a; second_room = c.clear_from-then-sweep_far.auto.a }) TooFar (omega arith) c.clear_from.ensures c.clear_from-then-sweep_far.ensures
    (short_far T e plan.options (room_in a.buffers.now) plan.drawing.now.mode c.natural_range-natural.ensures (c.sweep_far.ensures T.points T.reals) c.if-sweep_far.true)

pub returns : goal.returns
returns c =
    let a = c.args in
    let plan = a.plan.now in
    let T = lent plan.drawing.now.tables.now in
    let e = plan.drawing.now.edge in
    redrawn_is c.try_short_arc.ensures (by_short_arc plan.drawing.now.mode T e plan.options)
    (short_tried T e plan.options (room_in a.buffers.now) plan.drawing.now.mode c.natural_range-natural.ensures (c.sweep_far.ensures T.points T.reals) c.if-sweep_far.false)
