-- `edge_segment::meets` meets its contract: the miss by its square, as a closed form's check has it. Assumes nothing.
use mathlib.Core.Path.{◌≡◌, sym, ap, ◌∙◌}
use lib.Ieee.{Float, le}
use Rattle.arith_root.specs.Root.{root_of}
use Rattle.brep.specs.Tree.{CurveTree}
use Rattle.options.specs.Options.{resolve, sag_for}
use Rattle.edge_closed_form.specs.Own.Worst.{miss_square}
use Rattle.edge_segment.proofs.Sag.{sag_above, root_within}
use Rattle.edge_segment.proofs.Laws.{line_miss, miss_within, larger_taken, larger_left}
use borrow.Author.Rules.{rules}
use Rattle.edge_segment.proofs.meets.Goals as goal

pub returns-then-s : goal.returns-then-s
returns-then-s c = λ h (k : CurveTree) e (x : Float).
    let a = c.args in
    let s = c.length_squared-s.result in
    let sag = sag_for (resolve a.options) x in
    -- the square of the miss
    let squared : s ≡ miss_square k a.from.param a.to.param =
    line_miss k e a.from.param a.to.param
    (rw (sym c.requires.1, sym c.requires.0, sym c.scale.ensures, sym c.add-m.ensures, sym c.add.ensures, sym c.scale-2.ensures, sym c.sub.ensures) c.length_squared-s.ensures) in
    sym (miss_within k a.from.param a.to.param s sag (search rules) squared)
    ∙ ap (λ (y : Float). le (root_of y) sag) (larger_taken s c.if-s.true)
    ∙ root_within a.options x s (search rules) (rw (sym c.resolve-least.ensures) (search rules)) c.if-s.true (rw (sym c.resolve-least.ensures) h)

pub returns : goal.returns
returns c = λ h (k : CurveTree) e (x : Float).
    let a = c.args in
    let s = c.length_squared-s.result in
    let sag = sag_for (resolve a.options) x in
    -- the square of the miss
    let squared : s ≡ miss_square k a.from.param a.to.param =
    line_miss k e a.from.param a.to.param
    (rw (sym c.requires.1, sym c.requires.0, sym c.scale.ensures, sym c.add-m.ensures, sym c.add.ensures, sym c.scale-2.ensures, sym c.sub.ensures) c.length_squared-s.ensures) in
    sym (miss_within k a.from.param a.to.param s sag (search rules) squared)
    ∙ ap (λ (y : Float). le y sag) (larger_left s c.if-s.false)
    ∙ sag_above a.options x
