-- The ways through repair_runaway, by the tests that lead there. Assumes nothing.
use Rattle.std.specs.Prelude.{Option, Some, None, Err, Ok}
use mathlib.Core.Path.{◌≡◌, refl, sym, ap, ◌∙◌}
use mathlib.Core.Bool.{Bool, true, false, cond, not, ◌||◌}
use mathlib.Core.List.{List}
use Prim.Native.Nat.{ℕ}
use lib.Dec.{T}
use lib.Ieee.{Float, binary64, fits, lt, le}
use lib.Ieee.Scale.{finite}
use Rattle.arith.specs.Notation.{plus_zero}
use Rattle.arith_root_limit.proofs.Roots.{root_above_zero}
use Rattle.math.specs.Math.{interval, span_of, is_empty, v_length_squared, v_length, box_size, diagonal}
use Rattle.math.specs.declared.Interval.{Interval}
use Rattle.math.specs.declared.Aabb.{Aabb}
use Rattle.math.specs.declared.Vec3.{Vec3}
use Rattle.brep.specs.declared.Edge.{Edge}
use Rattle.brep.specs.Rows.{Tables}
use Rattle.curve.specs.Eval.{natural_range, period}
use Rattle.options.specs.declared.Mode.{Mode}
use Rattle.options.specs.declared.Resolved.{Resolved}
use Rattle.curve_asks.specs.Asks.{asks_far}
use Rattle.edge_params.specs.Work.{done, and_then, some_far, overflows, within}
use Rattle.edge_params.proofs.Asks.{asking_clear, asking_far}
use Rattle.edge_params.proofs.Work.{within_then}
use Rattle.edge_record.specs.declared.Sample.{Sample}
use Rattle.draw_spec.specs.declared.Way.TheVariants.{Complement, ShortArc}
use Rattle.draw_spec.specs.Edge.{edge_curve, edge_start, edge_end, discretised}
use Rattle.edge_drawing.specs.Range.{with_range}
use Rattle.draw_spec.specs.Repair.{Got, by, reference, escapes, nearest, ordered_interval, runaway, serves, arc_or_chord, short_range, sweep, has_short_arc, short_arc_tried, by_short_arc, complement_or_short, complement_range, by_complement, by_period, stays, repaired}
use Rattle.edge_place.specs.Own.Place.{of_points}
use Rattle.edge_short_arc.specs.declared.ArcTest.{ArcTest}
use Rattle.edge_short_arc.specs.Seen.{test_of, unseen, seen_after, served}
use Rattle.edge_short_arc.proofs.Laws.{one_walk}
use Rattle.refusal.specs.Answer.{Answer, bind}
use Rattle.refusal.specs.declared.Refusal.TheVariants.{TooFar}

-- ---- a diagonal is above zero where its square is
pub diagonal_above_zero : (box : Aabb) (square : Float) → T (fits binary64 square) → square ≡ v_length_squared (box_size box) → lt plus_zero (diagonal box) ≡ lt plus_zero square
unfolding v_length diagonal
diagonal_above_zero box square F q = rw (sym q) (root_above_zero square F)

-- ---- the short arc
module _ (T : Tables) (e : Edge) where
  module _ {start end : Vec3} {a b : Float} (s : start ≡ edge_start T e) (t : end ≡ edge_end T e)
      (p : a ≡ nearest (edge_curve T e) start) (q : b ≡ nearest (edge_curve T e) end) where
    from_nearest : ordered_interval a b ≡ short_range T e
    from_nearest = rw (p, q, s, t)

    pub short_rising : le a b ≡ true → interval a b ≡ short_range T e
    short_rising h = sym (ap (λ (x : Bool). cond x (interval a b) (interval b a)) h) ∙ from_nearest

    pub short_falling : le a b ≡ false → interval b a ≡ short_range T e
    short_falling h = sym (ap (λ (x : Bool). cond x (interval a b) (interval b a)) h) ∙ from_nearest

  -- whether it is drawn
  module _ {natural : Interval} {span : Float} {bounded : Bool} (p : natural ≡ natural_range (edge_curve T e)) (q : span ≡ span_of natural) (b : bounded ≡ finite span) where
    natural_finite : finite (span_of (natural_range (edge_curve T e))) ≡ bounded
    natural_finite = rw (b, q, p)

    natural_long : lt plus_zero (span_of (natural_range (edge_curve T e))) ≡ lt plus_zero span
    natural_long = rw (q, p)

    pub short_endless : bounded ≡ false → has_short_arc T e ≡ false
    short_endless h = rw (natural_finite, h)

    pub short_flat : bounded ≡ true → lt plus_zero span ≡ false → has_short_arc T e ≡ false
    short_flat h k = rw (natural_finite, h, natural_long, k)

    pub short_by : {short : Interval} {width : Float} (v : Bool) → short ≡ short_range T e → width ≡ span_of short → bounded ≡ true → lt plus_zero span ≡ true
        → lt plus_zero width ≡ v → has_short_arc T e ≡ v
    short_by v f g h k l = rw (natural_finite, h, natural_long, k) (ap (λ (i : Interval). lt plus_zero (span_of i)) (sym f) ∙ ap (lt plus_zero) (sym g) ∙ l)

-- ---- what the tests decide
module _ (T : Tables) (e : Edge) (r : Resolved) where
  -- ---- the short arc or the chord: the points are all that is asked of the tables
  pub arc_kept : (arc : List Sample) → serves T e r arc ≡ true → by ShortArc arc ≡ arc_or_chord T e r arc
  unfolding arc_or_chord
  arc_kept arc h = sym (ap (λ (b : Bool). cond b (by ShortArc arc) (runaway T e)) h)

  pub arc_chord : (arc : List Sample) → serves T e r arc ≡ false → runaway T e ≡ arc_or_chord T e r arc
  unfolding arc_or_chord
  arc_chord arc h = sym (ap (λ (b : Bool). cond b (by ShortArc arc) (runaway T e)) h)

  pub arc_points : (arc : List Sample) → arc_or_chord (of_points T.points) e r arc ≡ arc_or_chord T e r arc
  unfolding arc_or_chord
  arc_points arc = refl

  module _ (room : ℕ) (mode : Mode) where
    -- ---- the short arc
    pub short_chord : has_short_arc T e ≡ false → Ok (runaway (of_points T.points) e) ≡ within room (short_arc_tried mode T e r)
    unfolding short_arc_tried overflows
    short_chord h = rw (h, short_arc_tried)

    module _ {short : Interval} (h : has_short_arc T e ≡ true) (s : short ≡ short_range T e) where
      pub short_bind : within room (short_arc_tried mode T e r) ≡ bind (within room (discretised mode T (with_range e short) r)) (λ arc. Ok (arc_or_chord T e r arc))
      unfolding short_arc_tried overflows
      short_bind =
          let q : short_arc_tried mode T e r ≡ and_then (discretised mode T (with_range e short) r) (λ arc. done (arc_or_chord T e r arc)) = rw (h, short_arc_tried, s) in
          ap (within room) q ∙ within_then room (discretised mode T (with_range e short) r) (λ arc. done (arc_or_chord T e r arc))

      pub short_drawn : (arc : List Sample) → within room (discretised mode T (with_range e short) r) ≡ Ok arc → Ok (arc_or_chord T e r arc) ≡ within room (short_arc_tried mode T e r)
      short_drawn arc d = sym (short_bind ∙ ap (λ (X : Answer (List Sample)). bind X (λ arc. Ok (arc_or_chord T e r arc))) d)

    -- swept first: a parameter that is too far is refused, and otherwise it is tried
    module _ {natural : Interval} {w : Bool} (p : natural ≡ natural_range (edge_curve T e)) (own : w ≡ some_far (asks_far (edge_curve T e)) (sweep natural)) where
      sweep_is : (v : Bool) → w ≡ v → some_far (asks_far (edge_curve T e)) (sweep (natural_range (edge_curve T e))) ≡ v
      sweep_is v h = ap (λ (i : Interval). some_far (asks_far (edge_curve T e)) (sweep i)) (sym p) ∙ sym own ∙ h

      pub short_far : w ≡ true → Err TooFar ≡ within room (by_short_arc mode T e r)
      unfolding overflows
      short_far h = sym (ap (within room) (asking_far (asks_far (edge_curve T e)) _ (short_arc_tried mode T e r) (sweep_is true h)))

      pub short_tried : w ≡ false → within room (short_arc_tried mode T e r) ≡ within room (by_short_arc mode T e r)
      short_tried h = sym (ap (within room) (asking_clear (asks_far (edge_curve T e)) _ (short_arc_tried mode T e r) (sweep_is false h)))

    -- ---- the complementary arc
    module _ (p : Float) {width : Float} (w : width ≡ span_of (complement_range e p)) where
      complement_long : {v : Bool} → not (lt plus_zero width) ≡ v → lt plus_zero (span_of (complement_range e p)) ≡ not v
      complement_long {v} h = ap (lt plus_zero) (sym w) ∙ go (lt plus_zero width) h
        where
          go : (b : Bool) → not b ≡ v → b ≡ not v
          go true h = ap not h
          go false h = ap not h

      pub complement_none : not (lt plus_zero width) ≡ true → within room (by_short_arc mode T e r) ≡ within room (by_complement mode T e r p)
      unfolding by_complement
      complement_none h = rw (complement_long h, by_complement)

      module _ (h : not (lt plus_zero width) ≡ false) where
        pub complement_bind : within room (by_complement mode T e r p) ≡ bind (within room (discretised mode T (with_range e (complement_range e p)) r)) (λ arc. within room (complement_or_short mode T e r arc))
        unfolding by_complement
        complement_bind =
            let q : by_complement mode T e r p ≡ and_then (discretised mode T (with_range e (complement_range e p)) r) (λ arc. complement_or_short mode T e r arc) = rw (complement_long h, by_complement) in
            ap (within room) q ∙ within_then room (discretised mode T (with_range e (complement_range e p)) r) (λ arc. complement_or_short mode T e r arc)

        module _ (arc : List Sample) (q : within room (discretised mode T (with_range e (complement_range e p)) r) ≡ Ok arc) where
          complement_drawn : within room (by_complement mode T e r p) ≡ within room (complement_or_short mode T e r arc)
          complement_drawn = complement_bind ∙ ap (λ (X : Answer (List Sample)). bind X (λ arc. within room (complement_or_short mode T e r arc))) q

          pub complement_escapes : escapes (reference T e) r arc ≡ true → within room (by_short_arc mode T e r) ≡ within room (by_complement mode T e r p)
          complement_escapes k = sym (complement_drawn ∙ rw (k, complement_or_short))

          pub complement_stays : escapes (reference T e) r arc ≡ false → Ok (by Complement arc) ≡ within room (by_complement mode T e r p)
          unfolding overflows
          complement_stays k = sym (complement_drawn ∙ rw (k, complement_or_short))

    -- ---- the repair
    module _ (g : Got) where
      pub repaired_kept : stays (of_points T.points) e r g.chain ≡ true → within room (repaired mode T e r g) ≡ Ok g
      unfolding repaired overflows
      repaired_kept h = rw (h, repaired)

      module _ (h : stays (of_points T.points) e r g.chain ≡ false) {u : Option Float} (own : u ≡ period (edge_curve T e)) where
        repaired_by : by_period mode T e r u ≡ repaired mode T e r g
        unfolding repaired
        repaired_by = rw (own, h, repaired)

        pub repaired_complement : (p : Float) → u ≡ Some p → within room (by_complement mode T e r p) ≡ within room (repaired mode T e r g)
        unfolding by_period
        repaired_complement p q = ap (within room) (sym (ap (by_period mode T e r) q) ∙ repaired_by)

        pub repaired_short : u ≡ None → within room (by_short_arc mode T e r) ≡ within room (repaired mode T e r g)
        unfolding by_period
        repaired_short q = ap (within room) (sym (ap (by_period mode T e r) q) ∙ repaired_by)

  -- ---- the tests, by what the calls answer
  module _ (chain : List Sample) {box : Aabb} (b : box ≡ reference T e) where
    escapes_is : {out : Bool} (v : Bool) → out ≡ escapes box r chain → out ≡ v → escapes (reference T e) r chain ≡ v
    escapes_is v o h = ap (λ (x : Aabb). escapes x r chain) (sym b) ∙ sym o ∙ h

    empty_is : {none : Bool} (v : Bool) → none ≡ is_empty box → none ≡ v → is_empty (reference T e) ≡ v
    empty_is v n h = ap is_empty (sym b) ∙ sym n ∙ h

    module _ {none : Bool} (n : none ≡ is_empty box) where
      pub stays_empty : none ≡ true → true ≡ stays T e r chain
      stays_empty h = rw (empty_is true n h)

      pub stays_inside : {out : Bool} → none ≡ false → out ≡ escapes box r chain → out ≡ false → true ≡ stays T e r chain
      stays_inside h o k = rw (empty_is false n h, escapes_is false o k) (go (lt plus_zero (diagonal (reference T e))))
        where
          go : (x : Bool) → true ≡ (not x || not false)
          go true = refl
          go false = refl

      pub stays_outside : (square : Float) {out : Bool} → none ≡ false → lt plus_zero (diagonal box) ≡ lt plus_zero square → out ≡ escapes box r chain → out ≡ true
          → not (lt plus_zero square) ≡ stays T e r chain
      stays_outside square h q o k = rw (empty_is false n h, escapes_is true o k, sym b, q) (go (lt plus_zero square))
        where
          go : (x : Bool) → not x ≡ (not x || not true)
          go true = refl
          go false = refl

    -- what one walk over it has seen
    pub arc_served : {start end : Vec3} {test : ArcTest} {yes : Bool} → start ≡ edge_start T e → end ≡ edge_end T e → test ≡ test_of box e r start end → yes ≡ served (seen_after test unseen chain) → yes ≡ serves T e r chain
    arc_served s t q h = rw (h, q, b, s, t) (one_walk.whole T e r chain)
