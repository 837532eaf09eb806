-- `edge_subdivide::turn_cosine` meets its contract. Assumes nothing.
use mathlib.Core.Path.{ap, ◌∙◌}
use lib.Ieee.{Float, neg}
use Rattle.arith.specs.Notation.{one}
use Rattle.arith.specs.Pick.{clamp_of}
use Rattle.arith_trig.specs.Trig.{acos_of}
use Rattle.edge_subdivide.proofs.Laws.{turn_no_first, turn_no_second, turn_both}
use Rattle.edge_subdivide.proofs.turn_cosine.Goals as goal

pub returns-in-Some-Some : goal.returns-in-Some-Some
returns-in-Some-Some c =
    let a = c.args in
    let k = c.in-Some-Some in
    ap acos_of (c.clamp.ensures ∙ ap (λ (x : Float). clamp_of x (neg one) one) c.dot.ensures) ∙ turn_both a.a a.b k.ta k.tb k.is-0 k.is-1

pub returns-in_default : goal.returns-in_default
returns-in_default c = let a = c.args in let k = c.in_default in turn_no_second a.a a.b k.field-0-0 k.is-0 k.is-1

pub returns-in_default-2 : goal.returns-in_default-2
returns-in_default-2 c = let a = c.args in turn_no_first a.a a.b c.in_default.is-0
