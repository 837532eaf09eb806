-- `edge_repair::arc_or_chord` meets its contract: the arc stays in the second buffer, or the chord takes its place. Assumes nothing.
use Rattle.edge_repair.proofs.Redrawn.{kept_second, second_is}
use Rattle.edge_repair.proofs.Ways.{arc_kept, arc_chord}
use Rattle.draw_spec.specs.declared.Way.TheVariants.{ShortArc}
use Rattle.edge_place.specs.Own.Place.{of_points}
use Rattle.edge_record.proofs.Leading.{leading}
use mathlib.Core.Path.{refl, sym, ◌∙◌}
use Rattle.edge_repair.proofs.arc_or_chord.Goals as goal

pub returns-then-serves : goal.returns-then-serves
returns-then-serves c =
    let s = c in
    let a = s.args in
    let plan = a.plan.now in
    second_is (kept_second ShortArc a.n a.second.now refl s.requires.2)
    _ (arc_kept (of_points plan.drawing.now.tables.now.points.now) plan.drawing.now.edge plan.options _ (sym (rw (leading a.n a.second.now s.requires.1) at c.serves.ensures) ∙ c.if-serves.true))

pub returns : goal.returns
returns c =
    let f = c in
    let a = f.args in
    let plan = a.plan.now in
    second_is c.runaway.ensures
    _ (arc_chord (of_points plan.drawing.now.tables.now.points.now) plan.drawing.now.edge plan.options _ (sym (rw (leading a.n a.second.now f.requires.1) at f.serves.ensures) ∙ f.if-serves.false))
