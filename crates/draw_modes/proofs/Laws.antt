-- Strict mode against the reference: the same steps to the same end where the breaks are the same, and the chord of a curve that has no domain.
-- Assumes nothing.
use Rattle.std.specs.Prelude.{Option, Some, None, Ok, Err}
use mathlib.Core.Path.{◌≡◌, refl, sym, ap, ◌∙◌}
use mathlib.Core.Bool.{Bool, true, false, cond}
use mathlib.Core.List.{List}
use Prim.Native.Nat.{ℕ, ◌*◌, ◌≤◌}
use native.Mathlib.Omega.{arith}
use lib.ListN.{length}
use lib.Ieee.{Float, lt}
use borrow.Author.Tests.{le-ltb}
use Rattle.refusal.specs.declared.Refusal.TheVariants.{Oversize, IllFormed}
use Rattle.arith.specs.Notation.{plus_zero}
use Rattle.math.specs.declared.Interval.{Interval}
use Rattle.math.specs.Math.{span_of}
use Rattle.brep.specs.declared.Edge.{Edge}
use Rattle.brep.specs.Rows.{Tables, most_segments}
use Rattle.brep.specs.Tree.{CurveTree, analytic, polyline, trimmed, composite}
use Rattle.curve.specs.Eval.{period}
use Rattle.options.specs.declared.Mode.{Mode}
use Rattle.options.specs.declared.Mode.TheVariants.{Reference, Strict}
use Rattle.options.specs.declared.Options.{Options}
use Rattle.options.specs.declared.Resolved.{Resolved}
use Rattle.causes.specs.Causes.{oversize, verdict, edge_verdict}
use Rattle.curve_nests.specs.Nests.{nests}
use Rattle.knots.specs.Knots.{curve_knots}
use Rattle.knots_breaks.specs.Breaks.{segments_under, breaks_in}
use Rattle.knots_breaks.proofs.Answers.{two_each}
use Rattle.knots_breaks.proofs.Laws.{breaks_none}
use Rattle.edge_params.specs.Work.{Work, done, and_then, overflows, within}
use Rattle.edge_range.specs.Usable.{usable_range, is_open_conic, is_no_range, has_no_domain}
use Rattle.edge_record.specs.declared.Sample.{Sample}
use Rattle.edge_sample.specs.Sample.{sampler, sampled}
use Rattle.edge_drawing.specs.Range.{with_range}
use Rattle.draw_spec.specs.Edge.{edge_curve, over_range, discretised}
use Rattle.draw_spec.specs.Repair.{Got, reference, escapes, short_range, has_short_arc, short_arc_tried, by_short_arc, complement_range, complement_or_short, by_complement, by_period, stays, repaired}
use Rattle.draw_spec.specs.Draw.{local_options, drawn_repaired, drawn_probed, lost_chord, referenced, in_buffers, room_of, too_short, drawn, Applies, one, two, three, four, five, six, seven, eight, nine, eleven}
use Rattle.draw_spec.proofs.Accepted.{given}
use Rattle.draw.specs.Over.{long_run, drawn_over}
use Rattle.draw_modes.specs.Modes.{ReferenceIs, StrictChord, Alike, StrictElsewhere, SameIn, SameBreaks}

-- ---- equal cases, and equal works one after the other
module _ {A : Type 0} where
  by_test : (b : Bool) {x x' y y' : A} → x ≡ x' → y ≡ y' → ◌≡◌ {A = A} (elim b [ true ↦ x | false ↦ y ]) (elim b [ true ↦ x' | false ↦ y' ])
  by_test b p q = λ i. elim b [ true ↦ p i | false ↦ q i ]

  by_usable : (u : Option Interval) (x : A) {f g : Interval → A} → ((range : Interval) → u ≡ Some range → f range ≡ g range)
      → ◌≡◌ {A = A} (elim u [ None ↦ x | Some range ↦ f range ]) (elim u [ None ↦ x | Some range ↦ g range ])
  by_usable None x p = refl
  by_usable (Some range) x p = p range refl

  then_same : {B : Type 0} {v w : Work A} {f g : A → Work B} → v ≡ w → ((a : A) → f a ≡ g a) → and_then v f ≡ and_then w g
  then_same p q = λ i. and_then (p i) (λ a. q a i)

-- ---- the same breaks
-- without segments there are no knots, and no breaks in either mode
none_same : (c : CurveTree) → segments_under c ≡ 0 → (own : Interval) → SameIn c own
unfolding breaks_in
none_same c none own range u =
    let k : 0 ≡ length (curve_knots c) = omega (arith, two_each c) in
    sym (breaks_none Strict c range.lo range.hi k) ∙ breaks_none Reference c range.lo range.hi k

-- a curve with a period has no segments
period_none : (c : CurveTree) (p : Float) → period c ≡ Some p → segments_under c ≡ 0
unfolding period segments_under
period_none (analytic a) p h = refl
period_none (polyline ps) p h = refl
period_none (trimmed base own) p h = period_none base p h
period_none (composite ss) p h = absurd (let z : ◌≡◌ {A = ℕ} 0 1 = cc in omega arith)

-- ---- drawing, step by step, where the breaks are the same in both modes
module _ (T : Tables) (e : Edge) (r : Resolved) where
  same_sampled : (range : Interval) → breaks_in Strict (edge_curve T e) range.lo range.hi ≡ breaks_in Reference (edge_curve T e) range.lo range.hi
      → sampled Strict (edge_curve T e) range r ≡ sampled Reference (edge_curve T e) range r
  unfolding sampled sampler
  same_sampled range same = rw same

  same_discretised : (own : Interval) → SameIn (edge_curve T e) own → discretised Strict T (with_range e own) r ≡ discretised Reference T (with_range e own) r
  unfolding discretised breaks_in
  same_discretised own same = by_usable (usable_range (edge_curve T e) own) _ over
    where
      over : (range : Interval) → usable_range (edge_curve T e) own ≡ Some range → over_range Strict T (with_range e own) r range ≡ over_range Reference T (with_range e own) r range
      over range u = rw (same_sampled range (same range u))

module _ (T : Tables) (e : Edge) (r : Resolved) (short : SameIn (edge_curve T e) (short_range T e)) where
  same_tried : short_arc_tried Strict T e r ≡ short_arc_tried Reference T e r
  unfolding short_arc_tried
  same_tried = by_test (has_short_arc T e) (rw (same_discretised T e r (short_range T e) short)) refl

  same_short : by_short_arc Strict T e r ≡ by_short_arc Reference T e r
  same_short = rw same_tried

  same_or_short : (arc : List Sample) → complement_or_short Strict T e r arc ≡ complement_or_short Reference T e r arc
  same_or_short arc = by_test (escapes (reference T e) r arc) same_short refl

  same_complement : (p : Float) → period (edge_curve T e) ≡ Some p → by_complement Strict T e r p ≡ by_complement Reference T e r p
  unfolding by_complement
  same_complement p h =
      let own = complement_range e p in
      by_test (lt plus_zero (span_of own)) (then_same (same_discretised T e r own (none_same (edge_curve T e) (period_none (edge_curve T e) p h) own)) same_or_short) same_short

  same_period : (p : Option Float) → period (edge_curve T e) ≡ p → by_period Strict T e r p ≡ by_period Reference T e r p
  unfolding by_period
  same_period (Some p) h = same_complement p h
  same_period None h = same_short

  same_repaired : (g : Got) → repaired Strict T e r g ≡ repaired Reference T e r g
  unfolding repaired
  same_repaired g = by_test (stays T e r g.chain) refl (same_period (period (edge_curve T e)) refl)

  module _ (own : SameIn (edge_curve T e) e.range) where
    same_drawn : drawn_repaired Strict T e r ≡ drawn_repaired Reference T e r
    same_drawn = then_same (same_discretised T e r e.range own) (λ chain. same_repaired _)

    same_probed : drawn_probed Strict T e r ≡ drawn_probed Reference T e r
    same_probed = rw same_drawn

    same_referenced : has_no_domain Strict (edge_curve T e) e.range ≡ false → referenced Strict T e r ≡ referenced Reference T e r
    unfolding referenced has_no_domain
    same_referenced h = rw (h, referenced) same_probed

-- ---- what follows from the same work
-- the causes look at the mode by the work alone
carried : (a b : Mode) (T : Tables) (e : Edge) (o : Options) (first second : ℕ) → referenced a T e (local_options T e o) ≡ referenced b T e (local_options T e o)
    → (m : ℕ) → Applies a T e o first second m → Applies b T e o first second m
carried a b T e o first second w m (one h) = one h
carried a b T e o first second w m (two h) = two h
carried a b T e o first second w m (three h) = three h
carried a b T e o first second w m (four h) = four h
carried a b T e o first second w m (five h) = five h
carried a b T e o first second w m (six h) = six h
carried a b T e o first second w m (seven h) = seven h
carried a b T e o first second w m (eight h) = eight (sym (ap (λ (x : Work Got). overflows (room_of first second) x.acts) w) ∙ h)
carried a b T e o first second w m (nine h) = nine (sym (ap (λ (x : Work Got). x.end) w) ∙ h)
carried a b T e o first second w m (eleven h) = eleven (sym (ap (λ (x : Work Got). x.end) w) ∙ h)

module _ (T : Tables) (e : Edge) (w : (r : Resolved) → referenced Strict T e r ≡ referenced Reference T e r) (o : Options) (first second : ℕ) where
  same_buffers : in_buffers Strict T e o first second ≡ in_buffers Reference T e o first second
  same_buffers = rw (w (local_options T e o))

  same_answer : drawn Strict T e o first second ≡ drawn Reference T e o first second
  unfolding drawn
  same_answer = λ i. elim (verdict T e o) [ Err n ↦ Err n | Ok t ↦ same_buffers i ]

  same_over : drawn_over Strict T e o first second ≡ drawn_over Reference T e o first second
  unfolding drawn_over
  same_over =
      λ i. cond (oversize T) (Err Oversize)
      (elim (edge_verdict T e o) [ Err n ↦ Err n | Ok t ↦ cond (long_run T e) (Err IllFormed) (cond (nests (edge_curve T e)) (same_answer i) (same_buffers i)) ])

alike : (T : Tables) (e : Edge) → ((r : Resolved) → referenced Strict T e r ≡ referenced Reference T e r) → Alike T e
alike T e w = record {
  work = w;
  drawing = same_answer T e w;
  over = same_over T e w;
  causes = λ o first second m.
      let at = w (local_options T e o) in
      (carried Strict Reference T e o first second at m, carried Reference Strict T e o first second (sym at) m);
}

-- ---- the claims
pub reference_is : ReferenceIs
unfolding referenced has_no_domain breaks_in
reference_is = record { work = λ T e r. refl; breaks = λ c lo hi. refl }

pub same_breaks : SameBreaks
same_breaks T e h own short = alike T e (λ r. same_referenced T e r short own h)

pub strict_elsewhere : StrictElsewhere
strict_elsewhere T e h none = let c = edge_curve T e in same_breaks T e h (none_same c none e.range) (none_same c none (short_range T e))

module _ (T : Tables) (e : Edge) (conic : is_open_conic (edge_curve T e) ≡ true) (none : is_no_range e.range ≡ true) where
  chord_work : (r : Resolved) → referenced Strict T e r ≡ done (lost_chord T e)
  unfolding referenced has_no_domain
  chord_work r = rw (conic, none, referenced)

  chord_drawing : (o : Options) (first second : ℕ) → verdict T e o ≡ Ok tt → too_short first second ≡ false → drawn Strict T e o first second ≡ Ok (lost_chord T e)
  unfolding overflows
  chord_drawing o first second accepted long =
      given Strict T e o first second (Ok tt) false accepted long ∙ ap (within (room_of first second)) (chord_work (local_options T e o))

  -- such a row has no segments, so that nothing is a long run and nothing nests
  conic_plain : (c : CurveTree) → is_open_conic c ≡ true → (length (curve_knots c) ≡ 0) × (nests c ≡ false)
  unfolding curve_knots is_open_conic nests
  conic_plain (analytic a) h = (refl, refl)
  conic_plain (polyline ps) h = absurd (let z : ◌≡◌ {A = ℕ} 0 1 = cc in omega arith)
  conic_plain (trimmed base own) h = absurd (let z : ◌≡◌ {A = ℕ} 0 1 = cc in omega arith)
  conic_plain (composite ss) h = absurd (let z : ◌≡◌ {A = ℕ} 0 1 = cc in omega arith)

  chord_over : (o : Options) (first second : ℕ) → oversize T ≡ false → edge_verdict T e o ≡ Ok tt → too_short first second ≡ false
      → drawn_over Strict T e o first second ≡ Ok (lost_chord T e)
  unfolding drawn_over overflows
  chord_over o first second fits accepted long =
      let plain = conic_plain (edge_curve T e) conic in
      let short : long_run T e ≡ false = le-ltb (2 * most_segments) (length (curve_knots (edge_curve T e))) (omega (arith, plain.0)) in
      rw (fits, accepted, short, plain.1, long, chord_work (local_options T e o))

  never : (o : Options) (first second m : ℕ) → 8 ≤ m → Applies Strict T e o first second m → ⊥
  unfolding overflows
  never o first second m h (one x) = omega (arith, h)
  never o first second m h (two x) = omega (arith, h)
  never o first second m h (three x) = omega (arith, h)
  never o first second m h (four x) = omega (arith, h)
  never o first second m h (five x) = omega (arith, h)
  never o first second m h (six x) = omega (arith, h)
  never o first second m h (seven x) = omega (arith, h)
  never o first second m h (eight x) = let y = rw (chord_work (local_options T e o)) at x in let z : ◌≡◌ {A = ℕ} 0 1 = cc in omega arith
  never o first second m h (nine x) = let y = rw (chord_work (local_options T e o)) at x in let z : ◌≡◌ {A = ℕ} 0 1 = cc in omega arith
  never o first second m h (eleven x) = let y = rw (chord_work (local_options T e o)) at x in let z : ◌≡◌ {A = ℕ} 0 1 = cc in omega arith

pub strict_chord : StrictChord
strict_chord T e conic none = record {
  work = chord_work T e conic none;
  drawing = chord_drawing T e conic none;
  over = chord_over T e conic none;
  never_8 = λ o first second. never T e conic none o first second 8 (omega arith);
  never_9 = λ o first second. never T e conic none o first second 9 (omega arith);
  never_11 = λ o first second. never T e conic none o first second 11 (omega arith);
}
