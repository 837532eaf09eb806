-- Drawing an edge in a mode: the answer, what both chain buffers hold afterwards, and what holds of every chain. Definitions only.
use Rattle.std.specs.Prelude.{◌≡◌, Bool, true, false, cond, ◌||◌, ℕ, ◌<◌, ◌≤◌, ◌-◌, ◌*◌, ◌/◌, min, length, ltb, leb, Float, Option, Some, None, Ok, Err}
use mathlib.Core.List.{List, [], map, drop_last}
use Rattle.std.specs.Float.Ieee.{lt}
use Rattle.base_lists.specs.All.{All}
use Rattle.base_lists.specs.Room.{filled}
use Rattle.arith.specs.Notation.{plus_zero}
use Rattle.brep.specs.declared.Edge.{Edge}
use Rattle.brep.specs.Rows.{Tables}
use Rattle.curve.specs.Eval.{point_at}
use Rattle.options.specs.declared.Mode.{Mode}
use Rattle.options.specs.declared.Options.{Options}
use Rattle.options.specs.declared.Resolved.{Resolved}
use Rattle.options.specs.Options.{resolve, for_extent}
use Rattle.causes_bounds.specs.Bounds.{unbounded}
use Rattle.causes_form.specs.Forms.{ill_formed}
use Rattle.causes.specs.Causes.{oversize, unordered, too_deep, missing, verdict}
use Rattle.curve_asks.specs.Asks.{asks_far}
use Rattle.edge_params.specs.Work.{Work, done, and_then, asking, overflows, within}
use Rattle.edge_params.specs.Params.{evenly}
use Rattle.edge_params.specs.OneWay.{OneWay}
use Rattle.edge_record.specs.declared.Sample.{Sample}
use Rattle.edge_record.specs.Chain.{width, shortest, most, flat, samples, sample_point, inner_samples}
use Rattle.edge_merge.specs.Merge.{merge_floor, Apart}
use Rattle.edge_range.specs.Usable.{usable_range, has_no_domain}
use Rattle.draw_spec.specs.declared.Way.{Way}
use Rattle.draw_spec.specs.declared.Way.TheVariants.{AsDrawn, Chord, Complement, ShortArc, Runaway}
use Rattle.draw_spec.specs.Edge.{edge_curve, edge_start, edge_end, edge_extent, chord_of, discretised}
use Rattle.draw_spec.specs.Repair.{Got, by, repaired}
use Rattle.math.specs.declared.Interval.{Interval}
use Rattle.draw_spec.specs.declared.Drawn.{Drawn}
use Rattle.refusal.specs.Answer.{Answer}
use Rattle.refusal.specs.Refusal.{number_of}
use Rattle.refusal.specs.declared.Refusal.{Refusal}
use Rattle.refusal.specs.declared.Refusal.TheVariants.{ShortBuffer, Endless, TooFar}

-- ---- the closure inside discretise_all
-- options.for_extent(edge_extent(solid, e))
unfoldable pub local_options : Tables → Edge → Options → Resolved
local_options T e o = for_extent (resolve o) (edge_extent T e)

-- the way of the first drawing
unfoldable pub first_way : Option Interval → Way
first_way (Some range) = AsDrawn
first_way None = Chord

-- the parameters at which edge_extent asks for the curve's points, whether or not the options use the extent
unfoldable pub probes : Option Interval → List Float
probes (Some range) = evenly range 8
probes None = []

-- discretise, then repair_runaway
abbrev pub drawn_repaired : Mode → Tables → Edge → Resolved → Work Got
drawn_repaired mode T e r =
    and_then (discretised mode T e r) (λ chain. repaired mode T e r (by (first_way (usable_range (edge_curve T e) e.range)) chain))

-- edge_extent's probes, then that
abbrev pub drawn_probed : Mode → Tables → Edge → Resolved → Work Got
drawn_probed mode T e r = asking (asks_far (edge_curve T e)) (probes (usable_range (edge_curve T e) e.range)) (drawn_repaired mode T e r)

-- what strict mode answers for a curve that has no domain: the chord of the vertices, its parameters lo and hi. Repair does not look at it
abbrev pub lost_chord : Tables → Edge → Got
lost_chord T e = by Chord (chord_of T e e.range.lo e.range.hi)

-- the reference, which has no room: as it was published, or corrected in strict mode
unfoldable pub referenced : Mode → Tables → Edge → Resolved → Work Got
referenced mode T e r =
    elim (has_no_domain mode (edge_curve T e) e.range) [
      | true ↦ done (lost_chord T e)
      | false ↦ drawn_probed mode T e r
    ]

-- ---- the entry point
-- room R, of buffers of so many floats: the smallest of 16,384 and the number of whole records in either
unfoldable pub room_of : ℕ → ℕ → ℕ
room_of first second = min most (min (first / width) (second / width))

-- the program lends two buffers of so many records
abbrev pub program_points : ℕ
program_points = 2048

-- and so many floats in each
abbrev pub program_floats : ℕ
program_floats = width * program_points

-- cause 7: a chain buffer shorter than two records
abbrev pub too_short : ℕ → ℕ → Bool
too_short first second = ltb first shortest || ltb second shortest

-- drawing into two buffers of so many floats: 7 where one is too short; else the reference in the room: 8, 9, 11, or the chain and its way
abbrev pub in_buffers : Mode → Tables → Edge → Options → ℕ → ℕ → Answer Got
in_buffers mode T e o first second =
    cond (too_short first second) (Err ShortBuffer) (within (room_of first second) (referenced mode T e (local_options T e o)))

-- the refusal with the lowest number from 1 to 6; else drawing into the buffers
unfoldable pub drawn : Mode → Tables → Edge → Options → ℕ → ℕ → Answer Got
drawn mode T e o first second =
    elim (verdict T e o) [
      | Err n ↦ Err n
      | Ok t ↦ in_buffers mode T e o first second
    ]

-- a chain got in a way, of so many points
abbrev pub drawn_as : Way → ℕ → Answer Drawn
drawn_as way n = Ok (record { way = way; count = n })

-- the answer
unfoldable pub answer_of : Answer Got → Answer Drawn
answer_of (Err n) = Err n
answer_of (Ok g) = drawn_as g.way (length g.chain)

-- ---- the buffers afterwards
-- a chain lies in the first buffer where it was kept as first drawn, in the second where repair replaced it
abbrev pub in_first : Way → Bool
in_first AsDrawn = true
in_first Chord = true
in_first Complement = false
in_first ShortArc = false
in_first Runaway = false

-- an answer's chain lies in the first buffer; the empty chain of a refusal counts as lying there
abbrev pub lies_in_first : Answer Drawn → Bool
lies_in_first (Err n) = true
lies_in_first (Ok chain) = in_first chain.way

-- how many floats an answer's chain has
abbrev pub chain_floats : Answer Drawn → ℕ
chain_floats (Err n) = 0
chain_floats (Ok chain) = width * chain.count

-- 1 to 7 leave a buffer as before, 8, 9 and 11 leave it all +0.0
abbrev pub after_refusal : Refusal → List Float → List Float
after_refusal cause entry = cond (leb (number_of cause) 7) entry (filled (length entry) [])

-- the first buffer: a chain that lies there, and +0.0 behind it; all +0.0 where the chain lies in the second
unfoldable pub first_after : List Float → Answer Got → List Float
first_after entry (Err n) = after_refusal n entry
first_after entry (Ok g) = filled (length entry) (cond (in_first g.way) (flat g.chain) [])

-- the second buffer: a chain that lies there, and +0.0 behind it; all +0.0 where the chain lies in the first
unfoldable pub second_after : List Float → Answer Got → List Float
second_after entry (Err n) = after_refusal n entry
second_after entry (Ok g) = filled (length entry) (cond (in_first g.way) [] (flat g.chain))

-- the chain as the buffers hold it
unfoldable pub chain_in : List Float → List Float → Answer Drawn → List Sample
chain_in first second (Err n) = []
chain_in first second (Ok chain) = samples chain.count (cond (in_first chain.way) first second)

-- ---- the five clauses that hold of every chain
-- what holds of every chain of an edge, whichever way it was got, with its merge floor
pub record Sound (T : Tables) (e : Edge) (floor : Float) (chain : List Sample) : Type 0 where
  -- it has at least two points
  pub two : 2 ≤ length chain
  -- its first point is the edge's start vertex and its last the end vertex, bit for bit
  pub ends : (sample_point chain 0 ≡ edge_start T e) × (sample_point chain (length chain - 1) ≡ edge_end T e)
  -- every point between is the curve's own point at the parameter beside it
  pub own : All (λ (s : Sample). s.point ≡ point_at (edge_curve T e) s.param) (inner_samples chain)
  -- its parameters do not rise in one place and fall in another
  pub one_way : OneWay (map (λ (s : Sample). s.param) chain)
  -- where the merge floor is above zero, each point but the last is further than it from the one before
  pub apart : lt plus_zero floor ≡ true → Apart floor (drop_last chain)

-- ---- the table of causes
-- cause n applies, whether or not a lower one does
pub data Applies (mode : Mode) (T : Tables) (e : Edge) (o : Options) (first second : ℕ) : ℕ → Type 0 where
  -- a table above its size
  one : oversize T ≡ true → Applies mode T e o first second 1
  -- a float not finite, or above 1e9 in magnitude
  two : unbounded T.points T.reals T.ranges e o ≡ true → Applies mode T e o first second 2
  -- what does not follow the tables' form
  three : ill_formed T e o ≡ true → Applies mode T e o first second 3
  -- a reference that does not fall
  four : unordered T ≡ true → Applies mode T e o first second 4
  -- nested deeper than 8
  five : too_deep T ≡ true → Applies mode T e o first second 5
  -- the edge's curve, start, end, low or high outside its table
  six : missing T e ≡ true → Applies mode T e o first second 6
  -- a chain buffer shorter than two records
  seven : too_short first second ≡ true → Applies mode T e o first second 7
  -- a parameter list formed on the reference's way is longer than the room
  eight : overflows (room_of first second) (referenced mode T e (local_options T e o)).acts ≡ true → Applies mode T e o first second 8
  -- the reference never ends: `thin` reaches a span that it splits for ever
  nine : (referenced mode T e (local_options T e o)).end ≡ Err Endless → Applies mode T e o first second 9
  -- the reference would ask a hyperbola for a parameter beyond 100 in magnitude
  eleven : (referenced mode T e (local_options T e o)).end ≡ Err TooFar → Applies mode T e o first second 11

-- cause n applies, and no lower one. (8, 9 and 11 need no order of their own: whatever is recorded of the reference's work comes before the span at
-- which it never ends, and before the parameter that it may not ask for.)
pub record Lowest (mode : Mode) (T : Tables) (e : Edge) (o : Options) (first second n : ℕ) : Type 0 where
  pub applies : Applies mode T e o first second n
  pub lowest : (m : ℕ) → m < n → Applies mode T e o first second m → ⊥

-- the outcome of drawing: answer and buffers by the definition, and the five clauses of the chain that the buffers hold
pub record Outcome (mode : Mode) (T : Tables) (e : Edge) (o : Options) (first second : List Float) (answer : Answer Drawn) (first' second' : List Float) : Type 0 where
  pub answered : answer ≡ answer_of (drawn mode T e o (length first) (length second))
  pub first_holds : first' ≡ first_after first (drawn mode T e o (length first) (length second))
  pub second_holds : second' ≡ second_after second (drawn mode T e o (length first) (length second))
  -- a refusal is that of a cause that applies, the lowest; a chain is answered exactly where none applies
  pub refuses : (cause : Refusal) → answer ≡ Err cause → Lowest mode T e o (length first) (length second) (number_of cause)
  pub accepts : (chain : Drawn) → answer ≡ Ok chain → (m : ℕ) → Applies mode T e o (length first) (length second) m → ⊥
  pub sound : (chain : Drawn) → answer ≡ Ok chain
      → Sound T e (merge_floor e.tolerance (local_options T e o).sag) (chain_in first' second' answer)
