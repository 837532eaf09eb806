-- `edge_repair::redraw` meets its contract: both buffers give the same room, whichever is scratch. Assumes nothing.
use mathlib.Core.Path.{refl}
use Rattle.edge_repair.proofs.Redrawn.{redrawn_chain}
use Rattle.brep.specs.Rows.{lent}
use Rattle.edge_repair.proofs.redraw.Goals as goal

pub discretise-requires : goal.discretise-requires
discretise-requires c = let b = c.args.buffers.now in (b.second_long, b.first_long)

pub returns : goal.returns
returns c =
    let a = c.args in
    let d = c.with_range-drawing in
    redrawn_chain a.plan.now.drawing.now.mode _ (lent a.plan.now.drawing.now.tables.now) _ _ _ a.plan.now.options a.buffers.now _ (record { first = refl; second = refl; first_room = c.discretise.auto.scratch; second_room = c.discretise.auto.chain }) d.ensures.in_mode d.ensures.over d.ensures.of c.discretise.ensures
