-- `edge_escape::are_near` meets its contract. Assumes nothing.
use mathlib.Core.Path.{ap, ◌∙◌}
use Rattle.arith.proofs.Cmp.{holds}
use Rattle.math.specs.Math.{v_length_squared}
use Rattle.edge_escape.proofs.Near.{both_near}
use borrow.Author.Rules.{rules}
use Rattle.edge_escape.proofs.are_near.Goals as goal

pub returns-then-s-square : goal.returns-then-s-square
returns-then-s-square c = λ h.
    let f = c in
    let a = f.args in
    both_near a.reference a.p a.q (f.length_squared-square.ensures ∙ ap v_length_squared f.size.ensures)
    f.centre-centre.ensures (f.length_squared-s.ensures ∙ ap v_length_squared f.sub.ensures)
    (f.length_squared-t.ensures ∙ ap v_length_squared f.sub-2.ensures) (search rules) (search rules) (search rules) c.if-square.true c.if-s-square.true h

pub returns : goal.returns
returns c = λ e. absurd (holds e)
