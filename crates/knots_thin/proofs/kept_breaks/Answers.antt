-- `knots_thin::kept_breaks` meets its contract: the part that was lent to `thin_breaks` holds the breaks. Assumes nothing.
use Rattle.std.proofs.Common.{sym}
use Rattle.brep.specs.Rows.{lent}
use Rattle.brep.specs.Tree.{tree}
use Rattle.knots_thin.proofs.Kept.{Found, some_found, none_kept, part_room, part_length, some_kept}
use Rattle.knots_thin.proofs.kept_breaks.Goals as goal
use Rattle.knots_thin.proofs.kept_breaks.Goals.{In_ok-n}

pub returns-in_err-n : goal.returns-in_err-n
returns-in_err-n c =
    let a = c.args in
    let b = c.breaks_in in
    rw c.from_residual.ensures (none_kept a.out.now a.mode (tree (lent a.tables.now) a.row) a.range.lo a.range.hi b.result _ b.ensures.0 b.ensures.1 a.sag c.in_err-n.was)

breaks_found : (c : In_ok-n) → Found c.args.out.now c.args.mode (tree (lent c.args.tables.now) c.args.row) c.args.range.lo c.args.range.hi c.breaks_in.new.out c.in_ok-n.n
breaks_found c =
    let a = c.args in
    let b = c.breaks_in in
    some_found a.out.now a.mode (tree (lent a.tables.now) a.row) a.range.lo a.range.hi b.result _ b.ensures.0 b.ensures.1 b.auto.out c.in_ok-n.n c.in_ok-n.was

pub slice_bounds-thin_breaks-end : goal.slice_bounds-thin_breaks-end
slice_bounds-thin_breaks-end c = part_room (breaks_found (goal.at.slice_bounds-thin_breaks-end c).In_ok-n)

pub slice_bounds-thin_breaks-end-2 : goal.slice_bounds-thin_breaks-end-2
slice_bounds-thin_breaks-end-2 c = sym (part_length (breaks_found (goal.at.slice_bounds-thin_breaks-end-2 c).In_ok-n))

pub returns : goal.returns
returns c =
    let t = c.thin_breaks in
    some_kept (breaks_found (goal.at.returns c).In_ok-n) c.args.sag t.result t.new.breaks t.auto.breaks t.ensures.count t.ensures.buffer
