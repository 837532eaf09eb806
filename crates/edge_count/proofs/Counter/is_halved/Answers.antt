-- `edge_count::Counter::is_halved` meets its contract: the list has one place, and a depth of one needs no more. Assumes nothing.
use Rattle.std.specs.Prelude.{Option}
use mathlib.Core.Path.{refl, ap}
use Rattle.curve_prepared.specs.Own.PreparedCurve.{curve_of}
use Rattle.edge_subdivide.specs.Bisect.{within_budget}
use Rattle.edge_subdivide.specs.Own.Recorder.{count_if}
use Rattle.edge_count.proofs.Counting.{not_refused, is_halved}
use Rattle.edge_count.proofs.Counter.is_halved.Goals as goal

pub returns-in_default : goal.returns-in_default
returns-in_default c =
    let a = c.args in
    absurd (not_refused (within_budget (curve_of a.self.now.bisection.curve) a.self.now.bisection.limits.options) a.a.t a.b.t refl c.subdivide.ensures.recorded.listed (ap (λ (w : Option (Unit {0})). count_if w c.subdivide.new.to.len) c.in_default.is))

pub returns : goal.returns
returns c =
    let a = c.args in
    is_halved (within_budget (curve_of a.self.now.bisection.curve) a.self.now.bisection.limits.options) a.a.t a.b.t refl c.subdivide.ensures.recorded.listed (ap (λ (w : Option (Unit {0})). count_if w c.subdivide.new.to.len) c.in-Some.is)
