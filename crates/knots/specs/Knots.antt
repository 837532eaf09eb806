-- knots.rs: a curve's knots, its breaks inside a range, and how far a curve leaves a chord. Definitions only.
use Rattle.std.specs.Prelude.{List, [], ◌∷◌, ℕ, Float}
use Rattle.std.specs.List.{fold}
use Rattle.arith.specs.Notation.{◌⊕◌, ◌⊖◌, ◌⊗◌, ◌⊘◌, count, plus_zero}
use Rattle.arith.specs.Constants.{four}
use Rattle.arith.specs.Pick.{max_of}
use Rattle.math.specs.declared.Vec3.{Vec3}
use Rattle.math.specs.Math.{v_sub, v_length_squared}
use Rattle.brep.specs.Tree.{CurveTree, analytic, polyline, trimmed, composite, Segments, none, segment}
use Rattle.knots_inside.specs.Breaks.{inside_of}
use Rattle.math_chord.specs.Chord.{span_distance}

-- segments.iter().flat_map(|s| [s.range.lo, s.range.hi])
unfoldable pub segment_knots : Segments → List Float
segment_knots none = []
segment_knots (segment curve range same rest) = range.lo ∷ range.hi ∷ segment_knots rest

-- curve_knots
unfoldable pub curve_knots : CurveTree → List Float
curve_knots (analytic c) = []
curve_knots (polyline ps) = []
curve_knots (trimmed base range) = curve_knots base
curve_knots (composite ss) = segment_knots ss

-- curve_breaks: the distinct knots of a curve, strictly inside (lo, hi)
unfoldable pub curve_breaks : CurveTree → Float → Float → List Float
curve_breaks curve lo hi = inside_of (curve_knots curve) lo hi

-- a + (b - a) * t, with t = k as f64 / 4.0
abbrev pub inner_parameter : Float → Float → ℕ → Float
inner_parameter a b k = a ⊕ (b ⊖ a) ⊗ (count k ⊘ four)

-- at(a + (b - a) * t)
abbrev pub inner_at : (Float → Vec3) → Float → Float → ℕ → Vec3
inner_at at a b k = at (inner_parameter a b k)

-- the largest distance of some points to the chord from pa to pb
abbrev pub worst_of : Vec3 → Vec3 → List Vec3 → Float
worst_of pa pb points =
    let axis = v_sub pb pa in
    fold (λ worst p. max_of worst (span_distance pa axis (v_length_squared axis) p)) plus_zero points

-- that of three points
unfoldable pub worst_of_three : Vec3 → Vec3 → Vec3 → Vec3 → Vec3 → Float
worst_of_three pa pb p1 p2 p3 = worst_of pa pb (p1 ∷ p2 ∷ p3 ∷ [])

-- deviation: how far a curve, whose point at a parameter is `at`, leaves the chord from a to b, by three inner points
unfoldable pub deviation : (Float → Vec3) → Float → Float → Float
deviation at a b = worst_of_three (at a) (at b) (inner_at at a b 1) (inner_at at a b 2) (inner_at at a b 3)
