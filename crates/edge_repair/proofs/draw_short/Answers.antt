-- `edge_repair::draw_short` meets its contract: the records in the second buffer are the arc that was drawn. Assumes nothing.
use Rattle.edge_repair.proofs.Redrawn.{drawn_chain, chain_room, chain_floats_lem, chain_reads, redrawn_refused, redrawn_second, second_is, then}
use Rattle.edge_repair.proofs.Ways.{arc_points, short_bind, short_drawn}
use Rattle.draw_spec.specs.Repair.{arc_or_chord}
use Rattle.edge_repair.specs.Own.Buffers.{room_in}
use Rattle.brep.specs.Rows.{lent}
use Rattle.std.proofs.lemmas.Result.{err_from_is_err_and}
use mathlib.Core.Path.{refl, ap, ◌∙◌}
use Rattle.edge_repair.proofs.draw_short.Goals as goal

pub arc_or_chord-requires : goal.arc_or_chord-requires
arc_or_chord-requires c =
    let d = drawn_chain c.redraw.ensures _ c.in_ok-n.was in
    (c.redraw.new.buffers.second_long, chain_room d, chain_floats_lem d)

pub returns-in_err-n : goal.returns-in_err-n
returns-in_err-n c =
    let a = c.args in
    let plan = a.plan.now in
    let T = lent plan.drawing.now.tables.now in
    let e = plan.drawing.now.edge in
    let p = err_from_is_err_and c.from_residual.result c.from_residual.ensures.1 in
    rw (p.1, p.2)
    (redrawn_refused c.redraw.ensures _ _ _ c.in_err-n.was (short_bind T e plan.options (room_in a.buffers.now) plan.drawing.now.mode c.requires.0 c.requires.1))

pub returns : goal.returns
returns c =
    let a = c.args in
    let plan = a.plan.now in
    let T = lent plan.drawing.now.tables.now in
    let e = plan.drawing.now.edge in
    let t = c.redraw.ensures in
    let d = drawn_chain t _ c.in_ok-n.was in
    redrawn_second
    (second_is c.arc_or_chord.ensures _ (arc_points T e plan.options _ ∙ ap (arc_or_chord T e plan.options) (chain_reads d)))
    _ a.buffers.now _ (then t.same (record { first = refl; second = refl; first_room = refl; second_room = c.arc_or_chord.auto.second })) refl t.same.second_room t.first_holds
    (short_drawn T e plan.options (room_in a.buffers.now) plan.drawing.now.mode c.requires.0 c.requires.1 d.chain d.is)
