-- `discretise_usable` meets its contract, by what the edge's range is. Assumes nothing.
use mathlib.Core.Path.{refl, sym, ◌∙◌}
use native.Mathlib.Omega.{arith}
use lib.ListN.{length}
use Rattle.brep.specs.Rows.{lent}
use Rattle.draw_spec.specs.Draw.{room_of}
use Rattle.edge_discretise.proofs.Drawing.{Lent, lent_part, whole_length, cleared_whole, cleared_rest, kept_count, into_range, into_chord}
use Rattle.edge_discretise.proofs.discretise_usable.Goals as goal

pub returns-in_default : goal.returns-in_default
returns-in_default c =
    let a = c.args in
    let p = a.plan.now in
    let z = into_chord (room_of (length a.chain.now) (length a.scratch.now)) p.drawing.now.mode (lent p.drawing.now.tables.now) p.drawing.now.edge a.probes_first p.options (length a.chain.now) _ p.drawing.now.own c.in_default.is refl c.chord.ensures in
    record { drawn = z; cleared = c.clear_from.ensures }

-- in the following, `l`: the part of scratch that is lent
pub slice_bounds-part-end : goal.slice_bounds-part-end
slice_bounds-part-end c =
    let l : Lent (length c.args.chain.now) c.room-n.result c.args.scratch.now = lent_part _ _ _ c.room-n.ensures in
    l.inside

pub slice_bounds-part-end-2 : goal.slice_bounds-part-end-2
slice_bounds-part-end-2 c =
    let l : Lent (length c.args.chain.now) c.room-n.result c.args.scratch.now = lent_part _ _ _ c.room-n.ensures in
    sym l.size

pub draw_range-drawn-requires : goal.draw_range-drawn-requires
draw_range-drawn-requires c =
    let l : Lent (length c.args.chain.now) c.room-n.result c.args.scratch.now = lent_part _ _ _ c.room-n.ensures in
    (omega (arith, l.few, l.size), omega (arith, l.fits, l.size))

pub clear_from-requires-3 : goal.clear_from-requires-3
clear_from-requires-3 c =
    let l : Lent (length c.args.chain.now) c.room-n.result c.args.scratch.now = lent_part _ _ _ c.room-n.ensures in
    omega (arith, l.inside, whole_length c.room-n.result c.draw_range-drawn.new.scratch c.args.scratch.now c.draw_range-drawn.auto.scratch)

pub overflow_mul-kept : goal.overflow_mul-kept
overflow_mul-kept c = omega (arith, kept_count c.draw_range-drawn.ensures.0 c.unwrap_or-kept.ensures, c.draw_range-drawn.ensures.0.fits, c.draw_range-drawn.auto.chain)

pub clear_from-requires-2 : goal.clear_from-requires-2
clear_from-requires-2 c = omega (arith, kept_count c.draw_range-drawn.ensures.0 c.unwrap_or-kept.ensures, c.draw_range-drawn.ensures.0.fits)

pub returns : goal.returns
returns c =
    let a = c.args in
    let p = a.plan.now in
    let n = c.room-n in
    let l : Lent (length c.args.chain.now) c.room-n.result c.args.scratch.now = lent_part _ _ _ c.room-n.ensures in
    let d = c.draw_range-drawn in
    record {
      drawn =
          into_range (room_of (length a.chain.now) (length a.scratch.now)) p.drawing.now.mode (lent p.drawing.now.tables.now) p.drawing.now.edge a.probes_first p.options (length a.chain.now) _ p.drawing.now.own _ _ c.in-Some.is
          (l.size ∙ n.ensures) (cleared_rest d.ensures.0 c.unwrap_or-kept.ensures d.auto.chain c.clear_from-2.ensures);
      cleared = cleared_whole n.result d.new.scratch a.scratch.now l.inside d.ensures.1 c.clear_from-3.ensures;
    }
