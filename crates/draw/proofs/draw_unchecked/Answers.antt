-- `draw::draw_unchecked` meets its contract. Assumes nothing.
use mathlib.Core.Path.{refl, sym, ◌∙◌}
use lib.ListN.{length}
use Rattle.brep.specs.Rows.{lent}
use Rattle.edge_repair.proofs.Redrawn.{then}
use Rattle.draw.proofs.Laws.{in_buffers_lem, neither_short, depth_above, with_domain, without_domain, drawn_from}
use Rattle.draw.proofs.draw_unchecked.Goals as goal

pub returns-then-draw_straight : goal.returns-then-draw_straight
returns-then-draw_straight c =
    let told = c.draw_straight.ensures in
    record { same = told.same; drawn = told.chain c.if-draw_straight.true }

pub returns-then-has_no_domain : goal.returns-then-has_no_domain
returns-then-has_no_domain c =
    let a = c.args in
    let d = a.drawing.now in
    let b = a.buffers.now in
    let T = lent d.tables.now in
    let told = c.draw_straight.ensures in
    let left = c.if-draw_straight.false in
    record {
      same = then told.same c.draw_lost.ensures.same;
      drawn = in_buffers_lem d.mode T d.edge a.options b.first.now b.second.now
          (neither_short (length b.first.now) (length b.second.now) b.first_long b.second_long)
          _ refl _ _ _ (drawn_from _ _ (without_domain d.mode T d.edge _ (sym (c.has_no_domain.ensures T.points T.reals T.parts T.ranges) ∙ c.if-has_no_domain.true)) (told.kept_first left) (told.kept_second left) c.draw_lost.ensures.drawn);
    }

pub invariant_of-plan : goal.invariant_of-plan
invariant_of-plan c =
    let a = c.args in
    let d = a.drawing.now in
    record { deep = depth_above (lent d.tables.now) d.edge a.options c.local_options.ensures }

pub returns : goal.returns
returns c =
    let a = c.args in
    let d = a.drawing.now in
    let b = a.buffers.now in
    let T = lent d.tables.now in
    let told = c.draw_straight.ensures in
    let left = c.if-draw_straight.false in
    record {
      same = then told.same c.drawn_in.ensures.same;
      drawn = in_buffers_lem d.mode T d.edge a.options b.first.now b.second.now
          (neither_short (length b.first.now) (length b.second.now) b.first_long b.second_long)
          _ c.local_options.ensures _ _ _ (drawn_from _ _ (with_domain d.mode T d.edge _ (sym (c.has_no_domain.ensures T.points T.reals T.parts T.ranges) ∙ c.if-has_no_domain.false)) (told.kept_first left) (told.kept_second left) c.drawn_in.ensures.drawn);
    }
