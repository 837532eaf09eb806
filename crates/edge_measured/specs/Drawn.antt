-- What is told of a point and the two ends of a chord is what drawing measures, bit for bit. Definitions only.
use Rattle.std.specs.Prelude.{◌≡◌, List, ℕ, suc, Float}
use Rattle.std.specs.List.{fold}
use Rattle.arith.specs.Notation.{plus_zero}
use Rattle.arith.specs.Pick.{max_of}
use Rattle.math.specs.declared.Vec3.{Vec3}
use Rattle.math.specs.Math.{v_sub}
use Rattle.math_chord.specs.Measured.{measured_for_thinning, measured_for_bisection}
use Rattle.knots.specs.Knots.{worst_of}
use Rattle.edge_subdivide.specs.Bisect.{sag_of}
use Rattle.edge_thin_span.specs.Span.{worse, worst_from}

-- proved in proofs/Drawn.antt
pub record MeasuredAsDrawn : Type 0 where
  -- bisection: the sag of a span from a to b, whose middle parameter has the point m
  pub sag : (a b m : Vec3) → sag_of a b m ≡ (measured_for_bisection a b m).distance
  -- the thinning of breaks: the largest distance of some points from a chord
  pub breaks : (a b : Vec3) (points : List Vec3) → worst_of a b points ≡ fold (λ worst p. max_of worst (measured_for_thinning a b p).distance) plus_zero points
  -- the thinning of points: whether point i of a span is further than the furthest before it, at a distance of `far` and with the number `at`
  pub point : (points : ℕ → Vec3) (a b : Vec3) (n i : ℕ) (far : Float) (at : ℕ)
      → worst_from points a (v_sub b a) (suc n) i (record { distance = far; index = at })
      ≡ worst_from points a (v_sub b a) n (suc i) (worse (record { distance = far; index = at }) (measured_for_thinning a b (points i)).distance i)
