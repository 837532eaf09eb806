-- `edge_repair::try_short_arc` meets its contract, by the tests of the two spans. Assumes nothing.
use Rattle.edge_repair.proofs.Redrawn.{redrawn_second}
use Rattle.edge_repair.proofs.Ways.{short_endless, short_flat, short_by, short_chord}
use Rattle.brep.specs.Rows.{lent}
use mathlib.Core.Bool.{true, false}
use mathlib.Core.Path.{refl}
use Rattle.edge_repair.proofs.try_short_arc.Goals as goal
use Rattle.edge_repair.proofs.try_short_arc.Goals.{then-is_finite+then-span+else-span-2, else-is_finite, else-is_finite-via-then-is_finite+else-span, else-is_finite-via-else-is_finite}

pub draw_short-requires : goal.draw_short-requires
draw_short-requires c =
    let plan = c.args.plan.now in
    let T = lent plan.drawing.now.tables.now in
    let e = plan.drawing.now.edge in
    let p = c.requires in
    let short = c.short_range-short.ensures in
    (short_by T e p c.span-span.ensures c.is_finite.ensures true short c.span.ensures c.if-is_finite.true c.if-span.true c.if-span-2.true, short)

pub returns : goal.returns
returns c =
    let a = c.args in
    let plan = a.plan.now in
    let T = lent plan.drawing.now.tables.now in
    let e = plan.drawing.now.edge in
    let n = c.requires in
    let w = c.span-span.ensures in
    let f = c.is_finite.ensures in
    redrawn_second c.runaway.ensures _ a.buffers.now _ (record { first = refl; second = refl; first_room = c.clear_from.auto.a; second_room = c.runaway.auto.second }) refl refl c.clear_from.ensures
    (short_chord T e plan.options _ plan.drawing.now.mode
    (elim c.if-is_finite.branch [
      | then-is_finite+then-span+else-span-2 v ↦ short_by T e n w f false v.short_range-short.ensures v.span.ensures v.if-is_finite.true v.if-span.true v.if-span-2.false
      | else-is_finite j ↦ elim j.else-is_finite.branch [
        | else-is_finite-via-then-is_finite+else-span v ↦ short_flat T e n w f v.if-is_finite.true v.if-span.false
        | else-is_finite-via-else-is_finite v ↦ short_endless T e n w f v.if-is_finite.false
      ]
    ]))
