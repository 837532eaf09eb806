-- `edge_repair::repair_runaway` meets its contract: no refusal is below 8, so that one leaves both buffers all +0.0. Assumes nothing.
use Rattle.edge_repair.proofs.Redrawn.{kept_first, redrawn_as}
use Rattle.edge_repair.proofs.Ways.{repaired_kept, repaired_complement, repaired_short}
use Rattle.draw_spec.specs.Repair.{by}
use Rattle.edge_record.specs.Chain.{samples}
use Rattle.brep.specs.Rows.{lent}
use mathlib.Core.Path.{refl, sym, ◌∙◌}
use Rattle.edge_repair.proofs.repair_runaway.Goals as goal

pub returns-then-stays : goal.returns-then-stays
returns-then-stays c =
    let a = c.args in
    let d = a.plan.now.drawing.now in
    kept_first _ a.drawn.way a.drawn.count a.buffers.now
    (repaired_kept (lent d.tables.now) d.edge a.plan.now.options _ d.mode (by a.drawn.way (samples a.drawn.count a.buffers.now.first.now)) (sym c.stays.ensures ∙ c.if-stays.true)) c.requires.3 c.requires.1 c.requires.2

pub returns-in-Some : goal.returns-in-Some
returns-in-Some c =
    let a = c.args in
    let d = a.plan.now.drawing.now in
    redrawn_as c.by_complement.ensures _
    (repaired_complement (lent d.tables.now) d.edge a.plan.now.options _ d.mode (by a.drawn.way (samples a.drawn.count a.buffers.now.first.now)) (sym c.stays.ensures ∙ c.if-stays.false) c.in-Some.ensures _ refl)

pub returns-in-None : goal.returns-in-None
returns-in-None c =
    let a = c.args in
    let d = a.plan.now.drawing.now in
    redrawn_as c.by_short_arc.ensures _
    (repaired_short (lent d.tables.now) d.edge a.plan.now.options _ d.mode (by a.drawn.way (samples a.drawn.count a.buffers.now.first.now)) (sym c.stays.ensures ∙ c.if-stays.false) c.in-None.ensures refl)
