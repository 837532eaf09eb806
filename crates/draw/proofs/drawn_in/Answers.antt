-- `draw::drawn_in` meets its contract. Assumes nothing.
use Rattle.std.proofs.lemmas.Result.{err_from_is_err_and}
use Rattle.brep.specs.Rows.{lent}
use mathlib.Core.Path.{refl, ap, ◌∙◌}
use Rattle.draw_spec.specs.Draw.{in_first, first_way}
use native.Mathlib.Omega.{arith}
use Rattle.edge_repair.specs.declared.buffers.Buffers.{Buffers}
use Rattle.draw.proofs.Laws.{not_drawn, counts, first_in_first, drawn_on}
use Rattle.draw.proofs.drawn_in.Goals as goal

pub discretise_usable-requires : goal.discretise_usable-requires
discretise_usable-requires c = let b = c.args.buffers.now in (b.first_long, b.second_long)

pub repair_runaway-requires : goal.repair_runaway-requires
repair_runaway-requires c =
    let p = c.args.plan.now in
    let d = p.drawing.now in
    let w = c.discretise_usable in
    let b = c.args.buffers.now in
    -- the buffers after it, and the chain that was drawn
    let after : Buffers = record {
      first = record { ref_ptr = b.first.ref_ptr; ghost_name = b.first.ghost_name; now = w.new.chain };
      second = record { ref_ptr = b.second.ref_ptr; ghost_name = b.second.ghost_name; now = w.new.scratch };
      first_long = omega (arith, w.auto.chain, b.first_long);
      second_long = omega (arith, w.auto.scratch, b.second_long);
    } in
    let k = counts d.mode (lent d.tables.now) d.edge p.options b after (record { first = refl; second = refl; first_room = w.auto.chain; second_room = w.auto.scratch }) w.ensures _ c.in_ok-count.was in
    (k.fits, k.alone, k.clear, ap in_first c.first_way-way.ensures ∙ first_in_first _)

pub returns-in_err-count : goal.returns-in_err-count
returns-in_err-count c =
    let p = c.args.plan.now in
    let d = p.drawing.now in
    let w = c.discretise_usable in
    let q = err_from_is_err_and c.from_residual.result c.from_residual.ensures.1 in
    rw (q.1, q.2)
    (not_drawn d.mode (lent d.tables.now) d.edge p.options c.args.buffers.now _ (record { first = refl; second = refl; first_room = w.auto.chain; second_room = w.auto.scratch }) w.ensures _ c.in_err-count.was)

pub returns : goal.returns
returns c =
    let p = c.args.plan.now in
    let d = p.drawing.now in
    let w = c.discretise_usable in
    drawn_on d.mode (lent d.tables.now) d.edge p.options c.args.buffers.now _ (record { first = refl; second = refl; first_room = w.auto.chain; second_room = w.auto.scratch }) w.ensures
    _ c.in_ok-count.was _ (c.first_way-way.ensures ∙ ap first_way d.own) c.repair_runaway.ensures
