-- edge.rs: sample_params, with what it asks of a curve. Definitions only.
use Rattle.std.specs.Prelude.{List, Float}
use Rattle.std.specs.Float.Ieee.{le}
use Rattle.arith.specs.Notation.{plus_zero}
use Rattle.math.specs.declared.Interval.{Interval}
use Rattle.brep.specs.Tree.{CurveTree}
use Rattle.options.specs.declared.Mode.{Mode}
use Rattle.options.specs.declared.Resolved.{Resolved}
use Rattle.edge_params.specs.Work.{Work}
use Rattle.edge_params.specs.Params.{Sampler, sample_params}
use Rattle.curve_asks.specs.Asks.{asks_far}
use Rattle.knots_thin.specs.Thin.{kept_breaks, break_asks}
use Rattle.edge_range.specs.Usable.{analytic_segments}
use Rattle.edge_subdivide.specs.Bisect.{within_budget}
unfoldable pub use Rattle.edge_closed_form.specs.Miss.{miss_of, worst_miss}

-- what sample_params asks of a curve, a range and the options, in a mode
unfoldable pub sampler : Mode → CurveTree → Interval → Resolved → Sampler
sampler mode c range r = record {
  closed = analytic_segments c range r;
  meets = λ l. le (worst_miss c plus_zero l) r.sag;
  within = within_budget c r;
  depth = r.depth;
  least = r.segments;
  breaks = kept_breaks mode c range.lo range.hi r.sag;
  break_asks = break_asks mode c range.lo range.hi r.sag;
  far = asks_far c;
}

-- sample_params: the lists that it forms, and the parameters that it comes to
unfoldable pub sampled : Mode → CurveTree → Interval → Resolved → Work (List Float)
sampled mode c range r = sample_params (sampler mode c range r) range
