-- `draw::draw_straight` meets its contract. Assumes nothing.
use mathlib.Core.Path.{refl, sym, ap, ◌∙◌}
use native.Mathlib.Omega.{arith}
use lib.ListN.{length}
use Rattle.brep.specs.Rows.{lent}
use Rattle.options.specs.Options.{resolve, for_extent}
use Rattle.curve_prepared.specs.Own.Prepared.{prepared_of}
use Rattle.curve_prepared.proofs.Laws.{told_line}
use Rattle.draw_spec.specs.Edge.{edge_curve, edge_extent}
use Rattle.edge_segment.specs.Own.Segment.{SegmentInto}
use Rattle.draw.proofs.Laws.{not_straight, straight}
use Rattle.draw.proofs.draw_straight.Goals as goal

pub returns-then-options-gt1 : goal.returns-then-options-gt1
returns-then-options-gt1 c = not_straight _ c.args.buffers.now _ refl refl refl refl

pub returns-in_default : goal.returns-in_default
returns-in_default c = not_straight _ c.args.buffers.now _ refl refl refl refl

pub returns-in_default-line : goal.returns-in_default-line
returns-in_default-line c = not_straight _ c.args.buffers.now _ refl refl refl refl

pub draw_segment-requires : goal.draw_segment-requires
draw_segment-requires c = (c.args.buffers.now.first_long, omega (arith, c.if-options-gt1.false))

pub returns-then-draw_segment : goal.returns-then-draw_segment
returns-then-draw_segment c =
    let a = c.args in
    let d = a.drawing.now in
    let T = lent d.tables.now in
    let line = told_line (prepared_of (edge_curve T d.edge)) (sym (c.line_under-line.ensures T.reals T.parts T.ranges) ∙ c.in-Line.is) in
    -- what `draw_segment` answered, and what it left of the first buffer
    let told : SegmentInto T d.edge (for_extent (resolve a.options) (edge_extent T d.edge)) c.in-Some.range a.buffers.now.first.now c.draw_segment.result c.draw_segment.new.chain =
    c.draw_segment.ensures T c.point-start.ensures c.point-end.ensures line (edge_extent T d.edge) in
    straight d.mode T d.edge a.options a.buffers.now _ _ (sym d.own ∙ c.in-Some.is) line c.point-start.ensures c.point-end.ensures
    (record { first = refl; second = refl; first_room = c.draw_segment.auto.chain; second_room = c.clear_from.auto.a }) told c.if-draw_segment.true
    (c.stays_between.ensures c.if-stays_between.true) c.clear_from.ensures

pub returns-else-draw_segment : goal.returns-else-draw_segment
returns-else-draw_segment c =
    let a = c.args in
    let d = a.drawing.now in
    let T = lent d.tables.now in
    let line = told_line (prepared_of (edge_curve T d.edge)) (sym (c.line_under-line.ensures T.reals T.parts T.ranges) ∙ c.in-Line.is) in
    -- what `draw_segment` answered, and what it left of the first buffer
    let told : SegmentInto T d.edge (for_extent (resolve a.options) (edge_extent T d.edge)) c.in-Some.range a.buffers.now.first.now c.draw_segment.result c.draw_segment.new.chain =
    c.draw_segment.ensures T c.point-start.ensures c.point-end.ensures line (edge_extent T d.edge) in
    not_straight _ a.buffers.now _ refl refl (told.kept c.if-draw_segment.false) refl

pub returns-else-stays_between : goal.returns-else-stays_between
returns-else-stays_between c = not_straight _ c.args.buffers.now _ refl refl refl refl
