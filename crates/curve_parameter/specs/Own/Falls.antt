-- Where a parameter falls on a run: which leg of a polyline, or which segment of a composite. Definitions only.
use Rattle.std.specs.Prelude.{Bool, cond, List, ℕ, ◌+◌, ◌-◌, eqb, ltb, Float, Option, Some, None}
use Rattle.arith.specs.Notation.{◌⊖◌, count}
use Rattle.brep.specs.Rows.{point_of, segment_of}
use Rattle.curve_parameter.specs.Run.{index_in, parameter_of, segment_index, segment_local, own_parameter}
use Rattle.curve_parameter.specs.declared.OnLeg.{OnLeg}
use Rattle.curve_parameter.specs.declared.OnSegment.{OnSegment}

-- from point i to the next, of n points from number first on, with what u has above i
abbrev pub leg_from : List Float → ℕ → ℕ → Float → OnLeg
leg_from points first i u =
    record { from = point_of points (first + i); to = point_of points (first + (i + 1)); local = u ⊖ count i }

-- the leg of n points that t falls on; of fewer than two, none
unfoldable pub leg_under : List Float → ℕ → ℕ → Bool → Float → Option OnLeg
leg_under points first n closed t =
    let u = parameter_of n closed t in
    cond (ltb n 2) None (Some (leg_from points first (index_in (n - 2) u) u))

-- the segment of n segments from number first on that t falls on, and its curve's parameter there; of none, none
unfoldable pub segment_under : List ℕ → List Float → ℕ → ℕ → Float → Option OnSegment
segment_under parts ranges first n t =
    let s = segment_of parts ranges (first + segment_index n t) in
    cond (eqb n 0) None (Some (record { segment = s; t = own_parameter s.range s.same_sense (segment_local n t) }))
