-- `edge_subdivide::Bisection::split_of` meets its contract. Assumes nothing.
use mathlib.Core.Path.{sym, ap, ◌∙◌}
use Rattle.curve_prepared.specs.Own.PreparedCurve.{curve_of}
use Rattle.edge_subdivide.specs.Bisect.{is_within}
use Rattle.edge_subdivide.proofs.Laws.{split_yes, split_no}
use Rattle.edge_subdivide.proofs.Bisection.split_of.Goals as goal

pub returns-then-is_within : goal.returns-then-is_within
returns-then-is_within c =
    let a = c.args in
    let r = a.self.now.limits.options in
    split_yes (curve_of a.self.now.curve) r a.a a.b (ap (is_within r a.a a.b) (sym c.point-point.ensures) ∙ sym c.is_within.ensures ∙ c.if-is_within.true)

pub returns : goal.returns
returns c =
    let a = c.args in
    split_no (curve_of a.self.now.curve) a.self.now.limits.options a.a a.b _ _ c.point-point.ensures c.tangent-tangent.ensures
    (sym c.is_within.ensures ∙ c.if-is_within.false)
