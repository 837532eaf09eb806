-- `edge_repair::arc_escapes` meets its contract. Assumes nothing.
use mathlib.Core.Path.{ap, ◌∙◌}
use Rattle.draw_spec.specs.Repair.{escapes}
use Rattle.edge_record.specs.Chain.{samples}
use Rattle.edge_record.proofs.Leading.{leading}
use Rattle.edge_repair.proofs.arc_escapes.Goals as goal

pub returns : goal.returns
returns c =
    let a = c.args in
    rw (leading a.n a.buffers.now.second.now c.requires) at c.escapes.ensures ∙ ap (λ b. escapes b a.plan.now.options (samples a.n a.buffers.now.second.now)) c.reference-b.ensures
