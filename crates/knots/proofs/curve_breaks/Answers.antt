-- `knots::curve_breaks` meets its contract: the part that was lent to `inside` holds the knots. Assumes nothing.
use Rattle.std.proofs.Common.{sym}
use Rattle.brep.specs.Rows.{lent}
use Rattle.brep.specs.Tree.{tree}
use Rattle.knots.proofs.Answers.{Stored, stored, no_breaks, part_room, part_length, clear_room, some_breaks}
use Rattle.knots.proofs.curve_breaks.Goals as goal
use Rattle.knots.proofs.curve_breaks.Goals.{In_ok-n}

pub returns-in_err-n : goal.returns-in_err-n
returns-in_err-n c =
    let a = c.args in
    let k = c.curve_knots in
    rw c.from_residual.ensures (no_breaks a.out.now (tree (lent a.tables.now) a.row) k.result k.new.out k.ensures.answer k.ensures.buffer a.range.lo a.range.hi c.in_err-n.was)

knots_stored : (c : In_ok-n) → Stored c.args.out.now (tree (lent c.args.tables.now) c.args.row) c.curve_knots.new.out c.in_ok-n.n
knots_stored c =
    let k = c.curve_knots in
    stored c.args.out.now (tree (lent c.args.tables.now) c.args.row) k.result k.new.out k.ensures.answer k.ensures.buffer c.in_ok-n.n c.in_ok-n.was

pub slice_bounds-inside-end : goal.slice_bounds-inside-end
slice_bounds-inside-end c = part_room (knots_stored (goal.at.slice_bounds-inside-end c).In_ok-n)

pub slice_bounds-inside-end-2 : goal.slice_bounds-inside-end-2
slice_bounds-inside-end-2 c = sym (part_length (knots_stored (goal.at.slice_bounds-inside-end-2 c).In_ok-n))

pub clear_from-requires : goal.clear_from-requires
clear_from-requires c =
    let i = c.inside-m in
    clear_room (knots_stored (goal.at.clear_from-requires c).In_ok-n) c.args.range.lo c.args.range.hi i.result i.new.knots i.auto.knots i.ensures.0 i.ensures.1

pub returns : goal.returns
returns c =
    let i = c.inside-m in
    some_breaks (knots_stored (goal.at.returns c).In_ok-n) c.args.range.lo c.args.range.hi i.result i.new.knots i.auto.knots i.ensures.0 i.ensures.1 _ c.clear_from.ensures
