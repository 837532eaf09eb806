-- `edge_repair::by_complement` meets its contract: the records in the second buffer are the arc that was drawn. Assumes nothing.
use Rattle.edge_repair.proofs.Redrawn.{drawn_chain, chain_room, chain_floats_lem, chain_reads, chain_escapes, redrawn_refused, redrawn_is, redrawn_from, redrawn_second, kept_second, second_is}
use Rattle.edge_repair.proofs.Ways.{complement_none, complement_bind, complement_escapes, complement_stays}
use Rattle.draw_spec.specs.declared.Way.TheVariants.{Complement}
use Rattle.draw_spec.specs.Repair.{by}
use Rattle.edge_repair.specs.Own.Buffers.{room_in}
use Rattle.brep.specs.Rows.{lent}
use mathlib.Core.Bool.{not}
use Rattle.std.proofs.lemmas.Result.{err_from_is_err_and}
use mathlib.Core.Path.{refl, ap}
use Rattle.edge_repair.proofs.by_complement.Goals as goal

pub returns-then-not-span : goal.returns-then-not-span
returns-then-not-span c =
    let a = c.args in
    let plan = a.plan.now in
    let T = lent plan.drawing.now.tables.now in
    let e = plan.drawing.now.edge in
    redrawn_is c.by_short_arc.ensures _ (complement_none T e plan.options (room_in a.buffers.now) plan.drawing.now.mode a.p c.span.ensures (ap not c.if-not-span.true))

pub arc_escapes-requires : goal.arc_escapes-requires
arc_escapes-requires c = chain_room (drawn_chain c.redraw.ensures _ c.in_ok-n.was)

pub returns-then-arc_escapes : goal.returns-then-arc_escapes
returns-then-arc_escapes c =
    let a = c.args in
    let plan = a.plan.now in
    let T = lent plan.drawing.now.tables.now in
    let e = plan.drawing.now.edge in
    let d = drawn_chain c.redraw.ensures _ c.in_ok-n.was in
    redrawn_is (redrawn_from c.by_short_arc-then-arc_escapes.ensures a.buffers.now c.redraw.ensures.same) _
    (complement_escapes T e plan.options (room_in a.buffers.now) plan.drawing.now.mode a.p c.span.ensures (ap not c.if-not-span.false) d.chain d.is
    (chain_escapes d plan.options _ _ _ _ refl c.arc_escapes.ensures c.if-arc_escapes.true))

pub returns-in_err-n : goal.returns-in_err-n
returns-in_err-n c =
    let a = c.args in
    let plan = a.plan.now in
    let T = lent plan.drawing.now.tables.now in
    let e = plan.drawing.now.edge in
    let p = err_from_is_err_and c.from_residual.result c.from_residual.ensures.1 in
    rw (p.1, p.2)
    (redrawn_refused c.redraw.ensures _ _ _ c.in_err-n.was (complement_bind T e plan.options (room_in a.buffers.now) plan.drawing.now.mode a.p c.span.ensures (ap not c.if-not-span.false)))

pub returns : goal.returns
returns c =
    let a = c.args in
    let plan = a.plan.now in
    let T = lent plan.drawing.now.tables.now in
    let e = plan.drawing.now.edge in
    let t = c.redraw.ensures in
    let d = drawn_chain t _ c.in_ok-n.was in
    redrawn_second (second_is (kept_second Complement _ _ refl (chain_floats_lem d)) _ (ap (by Complement) (chain_reads d))) _ a.buffers.now _ t.same refl t.same.second_room t.first_holds
    (complement_stays T e plan.options (room_in a.buffers.now) plan.drawing.now.mode a.p c.span.ensures (ap not c.if-not-span.false) d.chain d.is
    (chain_escapes d plan.options _ _ _ _ refl c.arc_escapes.ensures c.if-arc_escapes.false))
