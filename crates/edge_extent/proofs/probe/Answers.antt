-- `edge_extent::probe` meets its contract. Assumes nothing.
use mathlib.Core.Path.{◌≡◌, sym, ◌∙◌}
use borrow.Author.Rules.{rules}
use Rattle.math.specs.Math.{v_add, v_scale}
use Rattle.edge_extent.proofs.Laws.{line_point}
use Rattle.edge_extent.proofs.probe.Goals as goal

pub returns-then-is_line_inside : goal.returns-then-is_line_inside
returns-then-is_line_inside c = c.is_line_inside.ensures c.if-is_line_inside.true _ (sym c.args.curve.now.own ∙ c.in-Line.is)

pub returns-in-Line : goal.returns-in-Line
returns-in-Line c =
    let w = c.in-Line in
    c.probe_each.ensures _ (λ t p h.
    let e : p ≡ v_add w.origin (v_scale w.direction t) = search rules in
    e ∙ line_point _ (sym c.args.curve.now.own ∙ w.is) t)
