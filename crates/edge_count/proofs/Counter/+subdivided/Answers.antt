-- `edge_count::Counter::subdivided` meets its contract, by induction over the depth. Assumes nothing.
use mathlib.Core.Path.{ap}
use mathlib.Core.Bool.{not}
use native.Mathlib.Omega.{arith}
use Rattle.std.proofs.lemmas.Result.{err_from_is_err_and}
use Rattle.brep.specs.Tree.{CurveTree}
use Rattle.curve_prepared.specs.Own.PreparedCurve.{curve_of}
use Rattle.edge_params.specs.Params.{midpoint}
use Rattle.edge_subdivide.proofs.Laws.{end_own}
use Rattle.edge_count.proofs.Counting.{at_end, end_near, out_far, out_within, first_refused, middle_refused, both_counted}
use Rattle.edge_count.proofs.Counter.+subdivided.Goals as goal

pub returns-then-depth-eq0 : goal.returns-then-depth-eq0
returns-then-depth-eq0 t c = at_end _ _ _ _ _ _ _ c.if-depth-eq0.true

pub returns-then-is_far : goal.returns-then-is_far
returns-then-is_far t c =
    let a = c.args in
    out_far a.self.now a.depth a.a a.b c.requires.2 c.requires.3 a.k c.if-depth-eq0.false c.is_far.ensures c.if-is_far.true

pub returns-then-not-is_halved : goal.returns-then-not-is_halved
returns-then-not-is_halved t c =
    let a = c.args in
    out_within a.self.now a.depth a.a a.b c.requires.2 c.requires.3 a.k c.if-depth-eq0.false c.is_far.ensures c.if-is_far.false c.is_halved.ensures (ap not c.if-not-is_halved.true)

-- where the span is split: its middle is the curve's (`own`) and not too far (`near`)
pub subdivided-requires : goal.subdivided-requires
subdivided-requires t c =
    let a = c.args in
    let curve : CurveTree = curve_of a.self.now.bisection.curve in
    let x = midpoint a.a.t a.b.t in
    let m = c.end_at-m in
    let own = end_own curve x m.result m.ensures in
    let near = end_near curve x m.result m.ensures c.is_far.ensures c.if-is_far.false in
    let pre = c.requires in
    (omega (arith, c.decreases, c.if-depth-eq0.false), (pre.0, own, pre.2, near))

pub returns-in_err-n : goal.returns-in_err-n
returns-in_err-n t c =
    let a = c.args in
    let p = err_from_is_err_and c.from_residual.result c.from_residual.ensures.1 in
    rw (p.1, p.2) (first_refused a.self.now a.depth a.a a.b c.requires.2 c.requires.3 a.k c.if-depth-eq0.false c.is_far.ensures c.if-is_far.false c.is_halved.ensures (ap not c.if-not-is_halved.false) c.end_at-m.result c.end_at-m.ensures c.in_err-n.ensures)

pub returns-in_err-next : goal.returns-in_err-next
returns-in_err-next t c =
    let a = c.args in
    let p = err_from_is_err_and c.from_residual-in_err-next.result c.from_residual-in_err-next.ensures.1 in
    rw (p.1, p.2) (middle_refused a.self.now a.depth a.a a.b c.requires.2 c.requires.3 a.k c.if-depth-eq0.false c.is_far.ensures c.if-is_far.false c.is_halved.ensures (ap not c.if-not-is_halved.false) c.end_at-m.result c.end_at-m.ensures c.in_ok-n.ensures (c.in_err-next.ensures _ _))

pub subdivided-requires-2 : goal.subdivided-requires-2
subdivided-requires-2 t c =
    let a = c.args in
    let curve : CurveTree = curve_of a.self.now.bisection.curve in
    let x = midpoint a.a.t a.b.t in
    let m = c.end_at-m in
    let own = end_own curve x m.result m.ensures in
    let near = end_near curve x m.result m.ensures c.is_far.ensures c.if-is_far.false in
    let pre = c.requires in
    (omega (arith, c.decreases, c.if-depth-eq0.false), (own, pre.1, near, pre.3))

pub returns : goal.returns
returns t c =
    let a = c.args in
    both_counted a.self.now a.depth a.a a.b c.requires.2 c.requires.3 a.k c.if-depth-eq0.false c.is_far.ensures c.if-is_far.false c.is_halved.ensures (ap not c.if-not-is_halved.false) c.end_at-m.result c.end_at-m.ensures c.in_ok-n.ensures (c.in_ok-next.ensures _ _) c.subdivided-2.ensures
