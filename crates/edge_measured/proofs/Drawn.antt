-- What is told is what drawing measures: the definitions have one distance. Assumes nothing.
use mathlib.Core.Path.{refl}
use Rattle.math_chord.specs.Measured.{measured_for_thinning, measured_for_bisection}
use Rattle.edge_subdivide.specs.Bisect.{sag_of}
use Rattle.edge_thin_span.specs.Span.{worst_from}
use Rattle.edge_measured.specs.Drawn.{MeasuredAsDrawn}

pub measured_as_drawn : MeasuredAsDrawn
unfolding measured_for_thinning measured_for_bisection sag_of worst_from
measured_as_drawn = record {
  sag = λ a b m. refl;
  breaks = λ a b points. refl;
  point = λ points a b n i far at. refl;
}
