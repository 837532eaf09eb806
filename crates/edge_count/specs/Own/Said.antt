-- What a pass that counts instead of listing answers. Definitions only.
use Rattle.std.specs.Prelude.{true, false, ℕ, Err}
use Rattle.math.specs.declared.Interval.{Interval}
use Rattle.brep.specs.Tree.{CurveTree}
use Rattle.options.specs.declared.Mode.{Mode}
use Rattle.options.specs.declared.Resolved.{Resolved}
use Rattle.curve_asks.specs.Asks.{asks_far}
use Rattle.knots_thin.specs.Thin.{break_asks}
use Rattle.edge_params.specs.Work.{some_far}
use Rattle.edge_params.specs.Params.{bisecting}
use Rattle.edge_params.specs.Own.Counted.{counted}
use Rattle.edge_sample.specs.Sample.{sampler}
use Rattle.refusal.specs.Answer.{Answer}
use Rattle.refusal.specs.declared.Refusal.TheVariants.{TooFar}

-- sample_params before its segment floor, of a curve without a closed form: how many parameters there are in a room, or 8 or 11
unfoldable pub range_counted : ℕ → Mode → CurveTree → Interval → Resolved → Answer ℕ
range_counted room mode c range r =
    elim (some_far (asks_far c) (break_asks mode c range.lo range.hi r.sag)) [
      | true ↦ Err TooFar
      | false ↦ counted (asks_far c) room 0 (bisecting (sampler mode c range r) range)
    ]
