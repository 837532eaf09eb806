-- `edge_escape::is_near` meets its contract. Assumes nothing.
use mathlib.Core.Path.{sym, ap, ◌∙◌}
use Rattle.arith.proofs.Cmp.{holds}
use Rattle.math.specs.Math.{v_length, v_length_squared, diagonal}
use Rattle.edge_escape.proofs.Near.{in_limit}
use borrow.Author.Rules.{rules}
use Rattle.edge_escape.proofs.is_near.Goals as goal

pub all_near-requires : goal.all_near-requires
unfolding v_length diagonal
all_near-requires c =
    let l = c in
    let e = l.length_squared-square.ensures ∙ ap v_length_squared l.size.ensures in
    rw (sym e) (in_limit l.length_squared-square.result l.args.r.sag (search rules) c.if-sag.true c.if-square.true)

pub returns-then-square : goal.returns-then-square
returns-then-square c = c.all_near.ensures

pub returns : goal.returns
returns c = λ e. absurd (holds e)
