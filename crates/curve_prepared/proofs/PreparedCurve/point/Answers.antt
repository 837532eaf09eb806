-- `curve_prepared::PreparedCurve::point` meets its contract. Assumes nothing.
use mathlib.Core.Path.{sym}
use Rattle.curve_prepared.specs.Own.PreparedCurve.{curve_of}
use Rattle.curve_prepared.proofs.Laws.{plain_point_lem, no_other}
use Rattle.curve_prepared.proofs.PreparedCurve.point.Goals as goal

pub returns-in_default : goal.returns-in_default
returns-in_default c =
    let curve = c.args.self.now in
    plain_point_lem (curve_of curve) c.args.t (sym curve.own) (no_other curve.prepared c.in_default.not-Other) c.plain_point.ensures
