-- `edge_subdivide::Bisection::subdivide` meets its contract, by induction over the depth. Assumes nothing.
use native.Mathlib.Omega.{arith}
use Rattle.curve_prepared.specs.Own.PreparedCurve.{curve_of}
use Rattle.edge_subdivide.proofs.Laws.{none_deep, none_within, halved}
use Rattle.edge_subdivide.proofs.Recorded.{records_one, front_refused, one_refused, all_three}
use Rattle.edge_subdivide.proofs.Bisection.+subdivide.Goals as goal

pub returns-then-depth-eq0 : goal.returns-then-depth-eq0
returns-then-depth-eq0 t c =
    let a = c.args in
    none_deep (curve_of a.self.now.curve) a.self.now.limits.options a.depth a.a a.b c.requires.0 c.requires.1 a.to.now c.if-depth-eq0.true

pub returns-in_default : goal.returns-in_default
returns-in_default t c =
    let a = c.args in
    let pre = c.requires in
    none_within (curve_of a.self.now.curve) a.self.now.limits.options a.depth a.a a.b pre.0 pre.1 c.if-depth-eq0.false c.split_of.result c.split_of.ensures a.to.now c.in_default.is

-- where the span is split
pub subdivide-requires : goal.subdivide-requires
subdivide-requires t c =
    let a = c.args in
    let pre = c.requires in
    let h = halved (curve_of a.self.now.curve) a.self.now.limits.options a.depth a.a a.b pre.0 pre.1 c.if-depth-eq0.false c.split_of.result c.split_of.ensures c.in-Some.m c.in-Some.is in
    (omega (arith, c.decreases, c.if-depth-eq0.false), (pre.0, h.own))

pub returns-in_err-subdivide : goal.returns-in_err-subdivide
returns-in_err-subdivide t c =
    let a = c.args in
    let pre = c.requires in
    let h = halved (curve_of a.self.now.curve) a.self.now.limits.options a.depth a.a a.b pre.0 pre.1 c.if-depth-eq0.false c.split_of.result c.split_of.ensures c.in-Some.m c.in-Some.is in
    rw c.from_residual.ensures (front_refused (curve_of a.self.now.curve) _ _ _ h.both c.subdivide.ensures c.in_err-subdivide.was)

pub returns-in_err-push : goal.returns-in_err-push
returns-in_err-push t c =
    let a = c.args in
    let pre = c.requires in
    let curve = curve_of a.self.now.curve in
    let h = halved (curve_of a.self.now.curve) a.self.now.limits.options a.depth a.a a.b pre.0 pre.1 c.if-depth-eq0.false c.split_of.result c.split_of.ensures c.in-Some.m c.in-Some.is in
    rw c.from_residual-in_err-push.ensures (one_refused curve _ _ _ h.both c.subdivide.ensures c.in_ok-subdivide.was (records_one curve _ h.own c.push.ensures) c.in_err-push.was)

pub subdivide-requires-2 : goal.subdivide-requires-2
subdivide-requires-2 t c =
    let a = c.args in
    let pre = c.requires in
    let h = halved (curve_of a.self.now.curve) a.self.now.limits.options a.depth a.a a.b pre.0 pre.1 c.if-depth-eq0.false c.split_of.result c.split_of.ensures c.in-Some.m c.in-Some.is in
    (omega (arith, c.decreases, c.if-depth-eq0.false), (h.own, pre.1))

pub returns : goal.returns
returns t c =
    let a = c.args in
    let pre = c.requires in
    let curve = curve_of a.self.now.curve in
    let h = halved (curve_of a.self.now.curve) a.self.now.limits.options a.depth a.a a.b pre.0 pre.1 c.if-depth-eq0.false c.split_of.result c.split_of.ensures c.in-Some.m c.in-Some.is in
    all_three curve _ _ _ h.both c.subdivide.ensures c.in_ok-subdivide.was (records_one curve _ h.own c.push.ensures) c.in_ok-push.was c.subdivide-2.ensures
