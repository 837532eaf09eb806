-- edge.rs: edge_extent and discretise. Definitions only.
use Rattle.std.specs.Prelude.{Bool, true, false, cond, not, List, [], ◌∷◌, reverse, ℕ, zero, suc, ◌+◌, eqb, Float, Option, Some, None, Ok}
use Rattle.std.specs.Float.Ieee.{lt, le}
use Rattle.arith.specs.Notation.{◌⊗◌, ◌⊘◌, count}
use Rattle.arith.specs.Constants.{eight, ten, hundredth}
use Rattle.arith.specs.Pick.{max_of}
use Rattle.math.specs.declared.Vec3.{Vec3}
use Rattle.math.specs.declared.Aabb.{Aabb}
use Rattle.math.specs.declared.Interval.{Interval}
use Rattle.math.specs.Math.{v_sub, v_length_squared, v_finite, empty_box, add_point, box_size, at}
use Rattle.brep.specs.declared.Edge.{Edge}
use Rattle.brep.specs.Rows.{Tables, point_of}
use Rattle.brep.specs.Tree.{CurveTree, tree}
use Rattle.curve.specs.Eval.{point_at, is_sampled}
use Rattle.options.specs.declared.Mode.{Mode}
use Rattle.options.specs.declared.Resolved.{Resolved}
use Rattle.edge_record.specs.declared.Sample.{Sample}
use Rattle.edge_record.specs.Chain.{last_of}
use Rattle.edge_merge.specs.Merge.{merge_floor, merged}
use Rattle.edge_thin.specs.Thin.{thinned}
use Rattle.curve_asks.specs.Asks.{asks_far}
use Rattle.edge_params.specs.Work.{Work, ends, done, and_then, asking}
use Rattle.edge_range.specs.Usable.{usable_range}
use Rattle.edge_sample.specs.Sample.{sampled}
use Rattle.refusal.specs.Answer.{Answer, each}
unfoldable pub use Rattle.edge_closed_form.specs.Located.{located}

-- ---- the edge's curve, vertices and sense
-- the curve of the edge's row
abbrev pub edge_curve : Tables → Edge → CurveTree
edge_curve T e = tree T e.curve

-- its start vertex, and its end vertex
abbrev pub edge_start : Tables → Edge → Vec3
edge_start T e = point_of T.points e.start

abbrev pub edge_end : Tables → Edge → Vec3
edge_end T e = point_of T.points e.end

-- whether it runs as its curve does
abbrev pub same_sense : Edge → Bool
same_sense e = not (eqb e.sense 0)

-- ---- edge_extent
-- the box with the curve's points at i / 8 of a range, for i below n, those that are finite
unfoldable pub probed : CurveTree → Interval → Aabb → ℕ → Aabb
probed c range b zero = b
probed c range b (suc n) =
    let p = point_at c (at range (count n ⊘ eight)) in
    cond (v_finite p) (add_point (probed c range b n) p) (probed c range b n)

-- with the probes of a usable range
unfoldable pub extent_box : CurveTree → Option Interval → Aabb → Aabb
extent_box c (Some range) b = probed c range b 9
extent_box c None b = b

-- the largest side of the box
unfoldable pub edge_extent : Tables → Edge → Float
edge_extent T e =
    let c = edge_curve T e in
    let size = box_size (extent_box c (usable_range c e.range) (add_point (add_point empty_box (edge_start T e)) (edge_end T e))) in
    max_of (max_of size.x size.y) size.z

-- ---- discretise
-- the curve's points at the parameters are `located` of edge_closed_form

-- (edge.tolerance * 10.0).powi(2)
abbrev pub near_squared : Float → Float
near_squared tolerance = tolerance ⊗ ten ⊗ (tolerance ⊗ ten)

-- the vertices are too near each other to tell the direction
unfoldable pub degenerate_ends : Tables → Edge → Bool
degenerate_ends T e = le (v_length_squared (v_sub (edge_end T e) (edge_start T e))) (near_squared e.tolerance)

-- the chain runs against its parameters: by the sense where the ends are degenerate, else by which end is nearer to the start
unfoldable pub is_reversed : Tables → Edge → Vec3 → Vec3 → Bool
is_reversed T e head tail =
    cond (degenerate_ends T e) (not (same_sense e))
    (lt (v_length_squared (v_sub tail (edge_start T e))) (v_length_squared (v_sub head (edge_start T e))))

-- the chain turned to run from the start vertex to the end vertex
unfoldable pub oriented : Tables → Edge → List Sample → List Sample
oriented T e [] = []
oriented T e (s ∷ l) = cond (is_reversed T e s.point (last_of s l).point) (reverse (s ∷ l)) (s ∷ l)

-- a sample moved to a vertex
abbrev pub moved_to : Vec3 → Sample → Sample
moved_to p s = record { point = p; param = s.param }

-- the last sample moved to the end vertex
unfoldable pub last_pinned : Vec3 → Sample → List Sample → List Sample
last_pinned end s [] = moved_to end s ∷ []
last_pinned end s (q ∷ l) = s ∷ last_pinned end q l

-- both ends pinned to the vertices
unfoldable pub pinned : Vec3 → Vec3 → List Sample → List Sample
pinned start end [] = []
pinned start end (s ∷ l) = last_pinned end (moved_to start s) l

-- thinned where the curve is a polyline or a trim of one
unfoldable pub thinned_if : Bool → Resolved → List Sample → Answer (List Sample)
thinned_if true r l = thinned (r.sag ⊗ hundredth) r.angle (r.segments + 1) l
thinned_if false r l = Ok l

-- the two-vertex chord with two parameters
abbrev pub chord_of : Tables → Edge → Float → Float → List Sample
chord_of T e a b = record { point = edge_start T e; param = a } ∷ record { point = edge_end T e; param = b } ∷ []

-- at least two parameters
unfoldable pub at_least_two : Interval → List Float → List Float
at_least_two range [] = range.lo ∷ range.hi ∷ []
at_least_two range (t ∷ []) = range.lo ∷ range.hi ∷ []
at_least_two range (t ∷ u ∷ l) = t ∷ u ∷ l

-- the parameters' samples, oriented and pinned
unfoldable pub placed : Tables → Edge → List Float → List Sample
placed T e params = pinned (edge_start T e) (edge_end T e) (oriented T e (located (edge_curve T e) params))

-- a placed chain, thinned and merged
abbrev pub thinned_merged : Tables → Edge → Resolved → List Sample → Answer (List Sample)
thinned_merged T e r l = each (merged (merge_floor e.tolerance r.sag)) (thinned_if (is_sampled (edge_curve T e)) r l)

-- the parameters' chain
unfoldable pub finished : Tables → Edge → Resolved → List Float → Answer (List Sample)
finished T e r params = thinned_merged T e r (placed T e params)

-- the parameters over a usable range, at least two, and the curve asked for its points at them
abbrev pub listed : Mode → CurveTree → Interval → Resolved → Work (List Float)
listed mode c range r = and_then (sampled mode c range r) (λ params. asking (asks_far c) (at_least_two range params) (done (at_least_two range params)))

-- the chain over a usable range
abbrev pub over_range : Mode → Tables → Edge → Resolved → Interval → Work (List Sample)
over_range mode T e r range = and_then (listed mode (edge_curve T e) range r) (λ params. ends (finished T e r params))

-- discretise
unfoldable pub discretised : Mode → Tables → Edge → Resolved → Work (List Sample)
discretised mode T e r =
    elim (usable_range (edge_curve T e) e.range) [
      | None ↦ done (chord_of T e e.range.lo e.range.hi)
      | Some range ↦ over_range mode T e r range
    ]
