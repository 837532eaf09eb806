-- `edge_extent::is_line_inside` meets its contract. Assumes nothing.
use mathlib.Core.Path.{sym, subst}
use mathlib.Core.Bool.{true, false}
use lib.Dec.{T}
use lib.Ieee.{Float, le, of_bits, neg}
use Rattle.brep.specs.Tree.{CurveTree}
use Rattle.arith_order.proofs.Modest.{big}
use Rattle.arith_order.proofs.Laws.{le_trans}
use Rattle.arith.proofs.Cmp.{holds}
use Rattle.edge_extent.proofs.Line.{all_inside}
use Rattle.edge_extent.proofs.is_line_inside.Goals as goal

pub returns-then-is_between-3 : goal.returns-then-is_between-3
unfolding of_bits neg
returns-then-is_between-3 c = λ w (k : CurveTree) e.
    let a = c.args in
    let lo = a.range.lo in
    let hi = a.range.hi in
    let l : T (le (big 60 true) lo) = holds c.if-lo.true in
    let g : T (le lo hi) = holds c.if-lo-hi.true in
    let h : T (le hi (big 60 false)) = holds c.if-hi.true in
    all_inside a.origin a.direction a.range a.b k e (l, le_trans lo hi (big 60 false) g h) (le_trans (big 60 true) lo hi l g, h) g
    (λ (t : Float) f l. c.is_between.ensures c.if-is_between.true t (subst (λ (x : Float). T (le x t)) (sym c.at-first.ensures) f) (subst (λ (x : Float). T (le t x)) (sym c.at-last.ensures) l))
    (λ (t : Float) f l. c.is_between-then-is_between.ensures c.if-is_between-2.true t (subst (λ (x : Float). T (le x t)) (sym c.at-first.ensures) f) (subst (λ (x : Float). T (le t x)) (sym c.at-last.ensures) l))
    (λ (t : Float) f l. c.is_between-then-is_between-2.ensures c.if-is_between-3.true t (subst (λ (x : Float). T (le x t)) (sym c.at-first.ensures) f) (subst (λ (x : Float). T (le t x)) (sym c.at-last.ensures) l))
