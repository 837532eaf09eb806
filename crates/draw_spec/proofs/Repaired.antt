-- The five clauses of every chain that `repair_runaway` leaves or puts in another's place. Assumes nothing.
use Rattle.std.specs.Prelude.{Option, Float, Some, None}
use mathlib.Core.Path.{◌≡◌, refl}
use mathlib.Core.Bool.{Bool, true, false, cond}
use mathlib.Core.List.{List}
use Prim.Native.Nat.{ℕ}
use lib.Dec.{T}
use lib.Ieee.{Float, lt}
use lib.Ieee.Scale.{finite}
use Rattle.arith.specs.Notation.{plus_zero}
use Rattle.math.specs.declared.Interval.{Interval}
use Rattle.math.specs.Math.{span_of}
use Rattle.brep.specs.declared.Edge.{Edge}
use Rattle.brep.specs.Rows.{Tables}
use Rattle.curve.specs.Eval.{natural_range, period}
use Rattle.options.specs.declared.Mode.{Mode}
use Rattle.options.specs.declared.Resolved.{Resolved}
use Rattle.curve_asks.specs.Asks.{asks_far}
use Rattle.edge_params.specs.Work.{Work, done, and_then}
use Rattle.edge_params.proofs.Ends.{Size}
use Rattle.edge_record.specs.declared.Sample.{Sample}
use Rattle.edge_merge.specs.Merge.{merge_floor}
use Rattle.edge_range.specs.Usable.{usable_range, has_no_domain}
use Rattle.draw_spec.specs.declared.Way.TheVariants.{Complement, ShortArc}
use Rattle.draw_spec.specs.Edge.{edge_curve, edge_start, edge_end, discretised}
use Rattle.edge_drawing.specs.Range.{with_range}
use Rattle.draw_spec.specs.Repair.{Got, by, reference, escapes, runaway, serves, arc_or_chord, short_range, sweep, has_short_arc, short_arc_tried, by_short_arc, complement_or_short, complement_range, by_complement, by_period, stays, repaired}
use Rattle.draw_spec.specs.Draw.{first_way, probes, drawn_repaired, drawn_probed, lost_chord, referenced}
use Rattle.draw_spec.proofs.Tame.{Tame}
use Rattle.draw_spec.proofs.Ranges.{Ends, goods_ends, complement_ends, short_goods}
use Rattle.draw_spec.proofs.Answers.{Answers, answer, answers_ends, answers_then, answers_asking}
use Rattle.draw_spec.proofs.Discretised.{Chained, Room, chord_chained, discretised_answers}

-- an edge's own range: a lo that is finite is small enough to have a period added to it
pub record OwnRange (range : Interval) : Type 0 where
  pub ends : Ends range
  pub low : T (finite range.lo) → Size 40 range.lo

module _ (H : Type 0) (mode : Mode) (t : Tables) (e : Edge) (tame : H → Tame (edge_curve t e)) (own : H → OwnRange e.range) (room : ℕ) (fine : Room room) (r : Resolved) where
  -- a chain of this edge, whichever way it was got
  abbrev Fine : Got → Type 0
  Fine g = Chained H t e (merge_floor e.tolerance r.sag) room g.chain

  -- a chain of the edge with another range is one of the edge
  another : (range : Interval) (l : List Sample) → Chained H t (with_range e range) (merge_floor e.tolerance r.sag) room l → Chained H t e (merge_floor e.tolerance r.sag) room l
  another range l c = record {
    sound = λ x. let s = c.sound x in record { two = s.two; ends = s.ends; own = s.own; one_way = s.one_way; apart = s.apart };
    fits = c.fits;
  }

  redrawn : (range : Interval) → (H → Ends range) → (f : List Sample → Work Got)
      → ((l : List Sample) → Chained H t e (merge_floor e.tolerance r.sag) room l → Answers room Fine (f l))
      → Answers room Fine (and_then (discretised mode t (with_range e range) r) f)
  redrawn range ends f g =
      answers_then room (discretised mode t (with_range e range) r) f (discretised_answers H mode t (with_range e range) tame ends room fine r) (λ l c. g l (another range l c))

  runaway_fine : Answers room Fine (done (runaway t e))
  runaway_fine = answers_ends room (answer (chord_chained H t e (merge_floor e.tolerance r.sag) room fine.least e.range.lo e.range.lo))

  arc_fine : (arc : List Sample) → Chained H t e (merge_floor e.tolerance r.sag) room arc → Answers room Fine (done (arc_or_chord t e r arc))
  unfolding arc_or_chord
  arc_fine arc c = go (serves t e r arc)
    where
      go : (b : Bool) → Answers room Fine (done (cond b (by ShortArc arc) (runaway t e)))
      go true = answers_ends room (answer c)
      go false = runaway_fine

  tried_answers : Answers room Fine (short_arc_tried mode t e r)
  unfolding short_arc_tried
  tried_answers = go (has_short_arc t e)
    where
      go : (b : Bool) → Answers room Fine (elim b [
        | true ↦ and_then (discretised mode t (with_range e (short_range t e)) r) (λ arc. done (arc_or_chord t e r arc))
        | false ↦ done (runaway t e)
      ])
      go true =
          redrawn (short_range t e)
          (λ x. goods_ends (short_goods (edge_curve t e) (tame x) (edge_start t e) (edge_end t e)))
          (λ arc. done (arc_or_chord t e r arc)) arc_fine
      go false = runaway_fine

  short_answers : Answers room Fine (by_short_arc mode t e r)
  short_answers = answers_asking room (asks_far (edge_curve t e)) (sweep (natural_range (edge_curve t e))) (short_arc_tried mode t e r) tried_answers

  complement_answers : (p : Float) → (H → Size 40 p) → Answers room Fine (by_complement mode t e r p)
  unfolding by_complement
  complement_answers p s = go (lt plus_zero (span_of (complement_range e p)))
    where
      kept : (arc : List Sample) → Chained H t e (merge_floor e.tolerance r.sag) room arc → (b : Bool)
          → Answers room Fine (elim b [ true ↦ by_short_arc mode t e r | false ↦ done (by Complement arc) ])
      kept arc c true = short_answers
      kept arc c false = answers_ends room (answer c)

      go : (b : Bool) → Answers room Fine (elim b [
        | true ↦ and_then (discretised mode t (with_range e (complement_range e p)) r) (complement_or_short mode t e r)
        | false ↦ by_short_arc mode t e r
      ])
      go true =
          redrawn (complement_range e p)
          (λ x. complement_ends e.range p (own x).ends (own x).low (s x))
          (complement_or_short mode t e r)
          (λ arc c. kept arc c (escapes (reference t e) r arc))
      go false = short_answers

  period_answers : (p : Option Float) → period (edge_curve t e) ≡ p → Answers room Fine (by_period mode t e r p)
  unfolding by_period
  period_answers (Some p) q = complement_answers p (λ x. (tame x).every p q)
  period_answers None q = short_answers

  repaired_answers : (g : Got) → Fine g → Answers room Fine (repaired mode t e r g)
  unfolding repaired
  repaired_answers g c = go (stays t e r g.chain)
    where
      go : (b : Bool) → Answers room Fine (elim b [ true ↦ done g | false ↦ by_period mode t e r (period (edge_curve t e)) ])
      go true = answers_ends room (answer c)
      go false = period_answers (period (edge_curve t e)) refl

  -- discretise, then repair_runaway
  drawn_repaired_answers : Answers room (λ (g : Got). Chained H t e (merge_floor e.tolerance r.sag) room g.chain) (drawn_repaired mode t e r)
  drawn_repaired_answers =
      let way = first_way (usable_range (edge_curve t e) e.range) in
      answers_then room (discretised mode t e r) (λ chain. repaired mode t e r (by way chain)) (discretised_answers H mode t e tame (λ x. (own x).ends) room fine r)
      (λ l c. repaired_answers (by way l) c)

  -- edge_extent's probes, then that
  pub probed_answers : Answers room (λ (g : Got). Chained H t e (merge_floor e.tolerance r.sag) room g.chain) (drawn_probed mode t e r)
  probed_answers =
      answers_asking room (asks_far (edge_curve t e)) (probes (usable_range (edge_curve t e) e.range)) (drawn_repaired mode t e r) drawn_repaired_answers

  -- whichever way
  pub referenced_answers : Answers room (λ (g : Got). Chained H t e (merge_floor e.tolerance r.sag) room g.chain) (referenced mode t e r)
  unfolding referenced
  referenced_answers = go (has_no_domain mode (edge_curve t e) e.range)
    where
      go : (b : Bool) → Answers room (λ (g : Got). Chained H t e (merge_floor e.tolerance r.sag) room g.chain) (elim b [ true ↦ done (lost_chord t e) | false ↦ drawn_probed mode t e r ])
      go true = answers_ends room (answer (chord_chained H t e (merge_floor e.tolerance r.sag) room fine.least e.range.lo e.range.hi))
      go false = probed_answers
