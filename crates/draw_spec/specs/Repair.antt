-- edge.rs: repair_runaway. Definitions only.
use Rattle.std.specs.Prelude.{Bool, true, false, cond, not, ◌&&◌, ◌||◌, List, [], ◌∷◌, ℕ, zero, suc, Float, Option, Some, None}
use Rattle.std.specs.Float.Ieee.{lt, le}
use Rattle.std.specs.Float.Ieee.Scale.{finite}
use Rattle.arith.specs.Notation.{◌⊕◌, ◌⊗◌, ◌⊘◌, count, plus_zero}
use Rattle.arith.specs.Constants.{ten, sixteen, five_twelve}
use Rattle.arith.specs.Pick.{max_of}
use Rattle.math.specs.declared.Vec3.{Vec3}
use Rattle.math.specs.declared.Aabb.{Aabb}
use Rattle.math.specs.declared.Interval.{Interval}
use Rattle.math.specs.Math.{distance, is_empty, diagonal, centre, interval, span_of, at}
use Rattle.brep.specs.declared.Edge.{Edge}
use Rattle.brep.specs.Rows.{Tables, point_of}
use Rattle.brep.specs.Tree.{CurveTree}
use Rattle.curve.specs.Eval.{natural_range, period, point_at}
use Rattle.options.specs.declared.Mode.{Mode}
use Rattle.options.specs.declared.Resolved.{Resolved}
use Rattle.curve_asks.specs.Asks.{asks_far}
use Rattle.edge_params.specs.Work.{Work, done, and_then, asking}
use Rattle.edge_params.specs.Params.{evenly}
use Rattle.edge_record.specs.declared.Sample.{Sample}
use Rattle.draw_spec.specs.Edge.{edge_curve, edge_start, edge_end, chord_of, discretised}
use Rattle.draw_spec.specs.declared.Way.{Way}
use Rattle.draw_spec.specs.declared.Way.TheVariants.{Complement, ShortArc, Runaway}
use Rattle.edge_drawing.specs.Range.{with_range}

-- a chain, and the way that it was got
pub record Got : Type 0 where
  pub way : Way
  pub chain : List Sample

-- a chain that was got this way
abbrev pub by : Way → List Sample → Got
by way chain = record { way = way; chain = chain }

-- the reference box, as the caller gives it
abbrev pub reference : Tables → Edge → Aabb
reference T e = record { min = point_of T.points e.low; max = point_of T.points e.high }

-- reference.diagonal() + options.sag * 16.0
abbrev pub escape_limit : Aabb → Resolved → Float
escape_limit box r = diagonal box ⊕ r.sag ⊗ sixteen

-- escapes: some point lies further than the limit from the box's centre
unfoldable pub escapes : Aabb → Resolved → List Sample → Bool
escapes box r [] = false
escapes box r (s ∷ l) = lt (escape_limit box r) (distance s.point (centre box)) || escapes box r l

-- how near a point reaches: options.sag.max(edge.tolerance * 10.0)
abbrev pub reach_limit : Edge → Resolved → Float
reach_limit e r = max_of r.sag (e.tolerance ⊗ ten)

-- reaches: some point lies within the limit of p
unfoldable pub reaches : Edge → Resolved → Vec3 → List Sample → Bool
reaches e r p [] = false
reaches e r p (s ∷ l) = le (distance s.point p) (reach_limit e r) || reaches e r p l

-- natural.at(i as f64 / steps as f64), with 512 steps
abbrev pub sweep_at : Interval → ℕ → Float
sweep_at natural i = at natural (count i ⊘ five_twelve)

-- nearest: of the first n + 1 of these the one whose point is nearest to the target, the first of equals
unfoldable pub nearest_of : CurveTree → Interval → Vec3 → ℕ → Float
nearest_of c natural target zero = sweep_at natural 0
nearest_of c natural target (suc n) =
    let best = nearest_of c natural target n in
    let next = sweep_at natural (suc n) in
    cond (lt (distance (point_at c next) target) (distance (point_at c best) target)) next best

-- of all 513
abbrev pub nearest : CurveTree → Vec3 → Float
nearest c target = nearest_of c (natural_range c) target 512

-- from the lower to the higher of two parameters
abbrev pub ordered_interval : Float → Float → Interval
ordered_interval a b = cond (le a b) (interval a b) (interval b a)

-- the chord of the vertices, its parameters lo twice
abbrev pub runaway : Tables → Edge → Got
runaway T e = by Runaway (chord_of T e e.range.lo e.range.lo)

-- ---- the short arc
-- its range: from the parameter nearest to one vertex to that nearest to the other
abbrev pub short_range : Tables → Edge → Interval
short_range T e = ordered_interval (nearest (edge_curve T e) (edge_start T e)) (nearest (edge_curve T e) (edge_end T e))

-- the curve's natural range is swept for them where it is finite and not empty
abbrev pub is_swept : Interval → Bool
is_swept natural = finite (span_of natural) && lt plus_zero (span_of natural)

-- the parameters that are then asked for, first to last; a second time for the second vertex
abbrev pub sweep : Interval → List Float
sweep natural = cond (is_swept natural) (evenly natural 512) []

-- it is drawn where the curve's natural range is finite, and neither range is empty
abbrev pub has_short_arc : Tables → Edge → Bool
has_short_arc T e = is_swept (natural_range (edge_curve T e)) && lt plus_zero (span_of (short_range T e))

-- it serves where it stays inside and reaches both vertices
abbrev pub serves : Tables → Edge → Resolved → List Sample → Bool
serves T e r arc =
    not (escapes (reference T e) r arc) && (reaches e r (edge_start T e) arc && reaches e r (edge_end T e) arc)

-- the arc where it serves, else the chord
unfoldable pub arc_or_chord : Tables → Edge → Resolved → List Sample → Got
arc_or_chord T e r arc = cond (serves T e r arc) (by ShortArc arc) (runaway T e)

-- drawn and tried, else the chord
unfoldable pub short_arc_tried : Mode → Tables → Edge → Resolved → Work Got
short_arc_tried mode T e r =
    elim (has_short_arc T e) [
      | true ↦ and_then (discretised mode T (with_range e (short_range T e)) r) (λ arc. done (arc_or_chord T e r arc))
      | false ↦ done (runaway T e)
    ]

-- the sweep, then that
abbrev pub by_short_arc : Mode → Tables → Edge → Resolved → Work Got
by_short_arc mode T e r = asking (asks_far (edge_curve T e)) (sweep (natural_range (edge_curve T e))) (short_arc_tried mode T e r)

-- ---- the complementary arc of a periodic curve
-- its range: from where the edge's range ends back round to where it began
abbrev pub complement_range : Edge → Float → Interval
complement_range e p = interval e.range.hi (e.range.lo ⊕ p)

-- the arc where it stays inside, else the short arc
abbrev pub complement_or_short : Mode → Tables → Edge → Resolved → List Sample → Work Got
complement_or_short mode T e r arc =
    elim (escapes (reference T e) r arc) [ true ↦ by_short_arc mode T e r | false ↦ done (by Complement arc) ]

-- drawn and tried where its range is not empty, else the short arc
unfoldable pub by_complement : Mode → Tables → Edge → Resolved → Float → Work Got
by_complement mode T e r p =
    elim (lt plus_zero (span_of (complement_range e p))) [
      | true ↦ and_then (discretised mode T (with_range e (complement_range e p)) r) (λ arc. complement_or_short mode T e r arc)
      | false ↦ by_short_arc mode T e r
    ]

-- ---- repair_runaway
-- the complementary arc where the curve has a period, else the short arc
unfoldable pub by_period : Mode → Tables → Edge → Resolved → Option Float → Work Got
by_period mode T e r (Some p) = by_complement mode T e r p
by_period mode T e r None = by_short_arc mode T e r

-- a chain stays where the box has no extent or holds it
abbrev pub stays : Tables → Edge → Resolved → List Sample → Bool
stays T e r chain =
    let box = reference T e in
    is_empty box || (not (lt plus_zero (diagonal box)) || not (escapes box r chain))

-- a chain that stays, or what is drawn in its place
unfoldable pub repaired : Mode → Tables → Edge → Resolved → Got → Work Got
repaired mode T e r g =
    elim (stays T e r g.chain) [ true ↦ done g | false ↦ by_period mode T e r (period (edge_curve T e)) ]
