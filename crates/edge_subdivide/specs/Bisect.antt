-- The budget of a span, of subdivide in edge.rs. Definitions only.
use Rattle.std.specs.Prelude.{Bool, ◌&&◌, Float, Option, Some, None}
use Rattle.std.specs.Float.Ieee.{le}
use Rattle.arith.specs.Notation.{plus_zero}
use Rattle.math.specs.declared.Vec3.{Vec3}
use Rattle.math.specs.Math.{v_sub, v_length, angle_between}
use Rattle.brep.specs.Tree.{CurveTree}
use Rattle.curve.specs.Eval.{point_at}
use Rattle.curve_tangent.specs.Derivative.{tangent_at}
use Rattle.options.specs.declared.Resolved.{Resolved}
use Rattle.math_chord.specs.Chord.{bisection_distance}
use Rattle.edge_params.specs.Params.{midpoint}
use Rattle.edge_subdivide.specs.declared.End.{End}

-- an end of a span: the curve at t
unfoldable pub end_at : CurveTree → Float → End
end_at c t = record { t = t; point = point_at c t; tangent = tangent_at c t }

-- how far the middle's point lies from the chord
unfoldable pub sag_of : Vec3 → Vec3 → Vec3 → Float
sag_of pa pb pm = let chord = v_sub pb pa in bisection_distance pa chord (v_length chord) pm

-- the angle between two tangents; 0 where one is missing
unfoldable pub tangent_turn : Option Vec3 → Option Vec3 → Float
tangent_turn (Some a) (Some b) = angle_between a b
tangent_turn (Some a) None = plus_zero
tangent_turn None b = plus_zero

-- deviation <= options.sag && turn <= options.angle, of a span whose middle has the point pm
unfoldable pub is_within : Resolved → End → End → Vec3 → Bool
is_within r a b pm = le (sag_of a.point b.point pm) r.sag && le (tangent_turn a.tangent b.tangent) r.angle

-- a curve between two parameters is within budget: deviation at most the sag, and turn at most the angle. The deviation is that of one point,
-- at the middle parameter, and the turn that of the tangents at the two ends: what the curve does elsewhere in the span is not looked at
unfoldable pub within_budget : CurveTree → Resolved → Float → Float → Bool
within_budget c r a b = is_within r (end_at c a) (end_at c b) (point_at c (midpoint a b))
