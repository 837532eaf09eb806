-- `edge_extent::is_between` meets its contract. Assumes nothing.
use mathlib.Core.Path.{sym, ◌∙◌}
use lib.Ieee.{Float}
use Rattle.arith.proofs.Cmp.{holds}
use Rattle.edge_extent.proofs.Line.{coordinate}
use Rattle.edge_extent.proofs.is_between.Goals as goal

pub returns-then-q-high : goal.returns-then-q-high
returns-then-q-high c = λ w (t : Float) h k.
    let f = c in
    let a = f.args in
    coordinate a.o a.d a.first a.last a.low a.high t (holds (sym f.is_finite.ensures ∙ f.if-is_finite.true)) (holds (sym f.is_finite-then-is_finite.ensures ∙ f.if-is_finite-2.true))
    (holds c.if-low-p.true) (holds c.if-p-high.true) (holds c.if-low-q.true) (holds c.if-q-high.true) h k
