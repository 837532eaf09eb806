-- The ways through drawing: the answer and both buffers, by what discretise and repair_runaway left. Assumes nothing but what its statements say.
use Rattle.std.specs.Prelude.{Option, Some, None, Ok, Err}
use mathlib.Core.Path.{◌≡◌, refl, sym, ap, subst, ◌∙◌}
use mathlib.Core.Bool.{Bool, true, false, cond, ◌||◌, false≢true}
use mathlib.Core.List.{List, []}
use Prim.Native.Nat.{ℕ, ◌*◌, ◌-◌, ◌<◌, ◌≤◌}
use native.Mathlib.Omega.{arith}
use lib.ListN.{length, replicate}
use lib.Dec.{T, ltb}
use lib.Ieee.{Float, binary64, fits, of_bits, le}
use borrow.Author.Tests.{lt-ltb, le-ltb, le-leb, lt-leb}
use Rattle.base_lists.specs.Own.ListOf.{list_of}
use Rattle.base_lists.specs.Room.{filled}
use Rattle.arith.specs.Notation.{plus_zero}
use Rattle.math.specs.declared.Vec3.{Vec3}
use Rattle.math.specs.declared.Interval.{Interval}
use Rattle.brep.specs.declared.Edge.{Edge}
use Rattle.brep.specs.Rows.{Tables}
use Rattle.brep.specs.Tree.{CurveTree, analytic, line, circle, ellipse, parabola, hyperbola, polyline, trimmed, composite}
use Rattle.options.specs.declared.Mode.{Mode}
use Rattle.options.specs.declared.Mode.TheVariants.{Reference, Strict}
use Rattle.options.specs.declared.Options.{Options}
use Rattle.options.specs.declared.Resolved.{Resolved}
use Rattle.options.specs.Options.{resolve, for_extent}
use Rattle.causes.specs.Causes.{verdict}
use Rattle.causes.proofs.Checked.{verdict_numbers}
use Rattle.curve_prepared.specs.declared.Prepared.TheVariants.{Line}
use Rattle.curve_prepared.specs.Own.Prepared.{prepared_of}
use Rattle.curve_prepared.proofs.Laws.{through_line}
use Rattle.curve_asks.specs.Asks.{asks_far}
use Rattle.edge_params.specs.Params.{evenly}
use Rattle.edge_params.specs.Work.{Work, done, within}
use Rattle.edge_params.proofs.Asks.{some_far-never, asking_clear, asking_then}
use Rattle.edge_params.proofs.Work.{within_then}
use Rattle.edge_range.specs.Usable.{usable_range, is_open_conic, has_no_domain}
use Rattle.edge_record.specs.declared.Sample.{Sample}
use Rattle.edge_record.specs.Own.Stored.{counted_of}
use Rattle.edge_record.specs.Chain.{width, shortest, flat, samples}
use Rattle.edge_record.proofs.Laws.{reads}
use Rattle.edge_merge.specs.Merge.{merge_floor}
use Rattle.draw_spec.specs.declared.Way.{Way}
use Rattle.draw_spec.specs.declared.Way.TheVariants.{AsDrawn}
use Rattle.draw_spec.specs.Edge.{edge_curve, edge_start, edge_end, edge_extent, placed, over_range, discretised}
use Rattle.draw_spec.specs.Repair.{Got, by, stays, repaired}
use Rattle.draw_spec.specs.Draw as draw
use Rattle.draw_spec.specs.Draw.{first_way, local_options, probes, drawn_probed, lost_chord, referenced, in_buffers, room_of, too_short, drawn, Outcome, in_first, after_refusal, first_after, second_after, drawn_as}
use Rattle.draw_spec.specs.Own.Binary.{AllBinary64}
use Rattle.draw_spec.proofs.Answers.{Answers, late_above, answers_asking, answers_got, answers_refused}
use Rattle.draw_spec.proofs.Discretised.{Chained, Room, discretised_answers}
use Rattle.draw_spec.proofs.Repaired.{probed_answers, referenced_answers}
use Rattle.draw_spec.proofs.Sound.{Binary}
use Rattle.draw_spec.proofs.Accepted.{given, by_tables, refused_so}
use Rattle.draw_spec.proofs.ReadBack.{outcome}
use Rattle.edge_segment.specs.Own.Segment.{SegmentInto}
use Rattle.edge_segment.proofs.Sag.{sag_above}
use Rattle.edge_segment.proofs.Laws.{placed_size, placed_chord}
use Rattle.edge_place.specs.Own.Place.{of_points, chord_between}
use Rattle.edge_discretise.specs.Own.Discretised.{asked_discretised, DiscretisedInto}
use Rattle.edge_repair.specs.declared.buffers.Buffers.{Buffers}
use Rattle.edge_repair.specs.Own.Buffers.{room_in, SameBuffers}
use Rattle.edge_repair.specs.Own.Redrawn.{DrawnInto, DrawnIn}
use Rattle.edge_repair.proofs.Redrawn.{then}
use Rattle.edge_repair.proofs.Ways.{repaired_kept}
use Rattle.draw.specs.Own.Straight.{StraightInto}
use Rattle.draw_spec.specs.declared.Drawn.{Drawn}
use Rattle.refusal.specs.Answer.{Answer, bind}
use Rattle.refusal.specs.declared.Refusal.TheVariants.{ShortBuffer}
use Rattle.refusal.specs.declared.Refusal.{Refusal}
use Rattle.refusal.specs.Refusal.{number_of}

-- ---- the room of buffers that are long enough
room_fine : (first second : ℕ) → shortest ≤ first → shortest ≤ second → Room (room_of first second)
unfolding room_of
room_fine first second p q = record { least = omega arith; most = omega arith }

room_least : (first second n : ℕ) → n ≤ room_of first second → width * n ≤ first
unfolding room_of
room_least first second n h = omega arith

-- ---- what a refusal of drawing leaves
late : (n : Refusal) (entry : List Float) → 7 < number_of n → after_refusal n entry ≡ filled (length entry) []
late n entry h = ap (λ (b : Bool). cond b entry (filled (length entry) [])) (lt-leb (number_of n) 7 h)

flat_none : flat [] ≡ []
unfolding flat
flat_none = refl

pub first_in_first : (u : Option Interval) → in_first (first_way u) ≡ true
unfolding first_way
first_in_first (Some range) = refl
first_in_first None = refl

-- a buffer of the same length is left alike
same_first : (g : Answer Got) (a b : List Float) → ((n : Refusal) → g ≡ Err n → 7 < number_of n) → length a ≡ length b → first_after a g ≡ first_after b g
unfolding first_after
same_first (Err n) a b h e = late n a (h n refl) ∙ ap (λ (m : ℕ). filled m []) e ∙ sym (late n b (h n refl))
same_first (Ok g) a b h e = ap (λ (m : ℕ). filled m (cond (in_first g.way) (flat g.chain) [])) e

same_second : (g : Answer Got) (a b : List Float) → ((n : Refusal) → g ≡ Err n → 7 < number_of n) → length a ≡ length b → second_after a g ≡ second_after b g
unfolding second_after
same_second (Err n) a b h e = late n a (h n refl) ∙ ap (λ (m : ℕ). filled m []) e ∙ sym (late n b (h n refl))
same_second (Ok g) a b h e = ap (λ (m : ℕ). filled m (cond (in_first g.way) [] (flat g.chain))) e

refused_left : (n : Refusal) (first second : List Float) → 7 < number_of n → DrawnInto (Err n) first second (Err n) (filled (length first) []) (filled (length second) [])
unfolding draw.answer_of first_after second_after
refused_left n first second h = record { answered = refl; first_holds = sym (late n first h); second_holds = sym (late n second h) }

-- ---- drawing in the room answers 8, 9, 11 or a chain that fits it, whatever the tables hold
pub room_answers : (mode : Mode) (t : Tables) (e : Edge) (r : Resolved) (first second : ℕ) → shortest ≤ first → shortest ≤ second
    → Answers (room_of first second) (λ (g : Got). Chained ⊥ t e (merge_floor e.tolerance r.sag) (room_of first second) g.chain) (referenced mode t e r)
room_answers mode t e r first second p q = referenced_answers ⊥ mode t e (λ x. absurd x) (λ x. absurd x) (room_of first second) (room_fine first second p q) r

-- ---- drawn_in, after discretise answered w and left new
module _ (mode : Mode) (t : Tables) (e : Edge) (r : Resolved) (old : Buffers) where
  room : Room (room_in old)
  room = room_fine (length old.first.now) (length old.second.now) old.first_long old.second_long

  abbrev chain : Answer (List Sample)
  chain = within (room_in old) (asked_discretised true mode t e r)

  abbrev whole : Answer Got
  whole = within (room_in old) (drawn_probed mode t e r)

  abbrev way : Way
  way = first_way (usable_range (edge_curve t e) e.range)

  chain_answers : Answers (room_in old) (Chained ⊥ t e (merge_floor e.tolerance r.sag) (room_in old)) (asked_discretised true mode t e r)
  chain_answers = answers_asking (room_in old) (asks_far (edge_curve t e)) (probes (usable_range (edge_curve t e) e.range)) (discretised mode t e r)
      (discretised_answers ⊥ mode t e (λ x. absurd x) (λ x. absurd x) (room_in old) room r)

  chain_late : (n : Refusal) → chain ≡ Err n → 7 < number_of n
  chain_late n h = late_above (answers_refused n chain_answers h)

  chain_fits : (l : List Sample) → chain ≡ Ok l → width * length l ≤ length old.first.now
  chain_fits l h = room_least (length old.first.now) (length old.second.now) (length l) (answers_got l chain_answers h).fits

  whole_late : (n : Refusal) → whole ≡ Err n → 7 < number_of n
  whole_late n h = late_above (answers_refused n (probed_answers ⊥ mode t e (λ x. absurd x) (λ x. absurd x) (room_in old) room r) h)

  -- what follows the chain, by what discretise answered
  whole_by : (c : Answer (List Sample)) → chain ≡ c → whole ≡ bind c (λ l. within (room_in old) (repaired mode t e r (by way l)))
  whole_by c h =
      ap (within (room_in old)) (asking_then (asks_far (edge_curve t e)) (probes (usable_range (edge_curve t e) e.range)) (discretised mode t e r) (λ l. repaired mode t e r (by way l)))
      ∙ within_then (room_in old) (asked_discretised true mode t e r) (λ l. repaired mode t e r (by way l))
      ∙ ap (λ (x : Answer (List Sample)). bind x (λ l. within (room_in old) (repaired mode t e r (by way l)))) h

  module _ {w : Answer ℕ} (new : Buffers) (same : SameBuffers old new)
      (d : DiscretisedInto (asked_discretised true mode t e r) old.first.now old.second.now w new.first.now new.second.now) where
    -- it refused
    pub not_drawn : (n : Refusal) → w ≡ Err n → DrawnIn whole old (Err n) new
    not_drawn n is = record { same = same; drawn = go chain refl }
      where
        go : (c : Answer (List Sample)) → chain ≡ c → DrawnInto whole old.first.now old.second.now (Err n) new.first.now new.second.now
        go (Ok l) h = absurd (let a : Err n ≡ counted_of (Ok l) = sym is ∙ d.drawn.answered ∙ ap counted_of h in let z : ◌≡◌ {A = ℕ} 0 1 = cc in omega arith)
        go (Err m) h =
            let a : Err n ≡ counted_of (Err m) = sym is ∙ d.drawn.answered ∙ ap counted_of h in
            let k : m ≡ n = cc in
            let c : chain ≡ Err n = h ∙ ap (λ (x : Refusal). Err x) k in
            rw (whole_by (Err n) c, d.drawn.holds, c, flat_none, d.cleared) (refused_left n old.first.now old.second.now (chain_late n c))

    -- it counted n: the chain that the first buffer holds
    pub record Counts (n : ℕ) : Type 0 where
      pub is : chain ≡ Ok (samples n new.first.now)
      pub fits : width * n ≤ length new.first.now
      pub alone : new.first.now ≡ filled (length new.first.now) (flat (samples n new.first.now))
      pub clear : new.second.now ≡ filled (length new.second.now) []

    pub counts : (n : ℕ) → w ≡ Ok n → Counts n
    counts n is = go chain refl
      where
        go : (c : Answer (List Sample)) → chain ≡ c → Counts n
        go (Err m) h = absurd (let a : Ok n ≡ counted_of (Err m) = sym is ∙ d.drawn.answered ∙ ap counted_of h in let z : ◌≡◌ {A = ℕ} 0 1 = cc in omega arith)
        go (Ok l) h =
            let a : Ok n ≡ counted_of (Ok l) = sym is ∙ d.drawn.answered ∙ ap counted_of h in
            let k : n ≡ length l = cc in
            let m = length old.first.now in
            let g : new.first.now ≡ filled m (flat l) = d.drawn.holds ∙ ap (λ (x : Answer (List Sample)). filled m (flat (list_of x))) h in
            let read : samples n new.first.now ≡ l =
            ap (λ (x : List Float). samples n x) g ∙ ap (λ (x : ℕ). samples x (filled m (flat l))) k
            ∙ reads l (replicate (m - length (flat l)) (of_bits binary64 0)) in
            record {
              is = h ∙ ap (λ (x : List Sample). Ok x) (sym read);
              fits = omega (arith, k, same.first_room, chain_fits l h);
              alone = g ∙ ap (λ (x : ℕ). filled x (flat l)) (sym same.first_room) ∙ ap (λ (x : List Sample). filled (length new.first.now) (flat x)) (sym read);
              clear = d.cleared ∙ ap (λ (x : ℕ). filled x []) (sym same.second_room);
            }

    -- and repair_runaway went on from it
    pub drawn_on : (n : ℕ) → w ≡ Ok n → (v : Way) → v ≡ way → {answer : Answer Drawn} {end : Buffers}
        → DrawnIn (within (room_in new) (repaired mode t e r (by v (samples n new.first.now)))) new answer end → DrawnIn whole old answer end
    drawn_on n is v v_is h =
        let q : within (room_in new) (repaired mode t e r (by v (samples n new.first.now))) ≡ whole =
        rw (v_is, same.first_room, same.second_room) (sym (whole_by (Ok (samples n new.first.now)) (counts n is).is)) in
        record {
          same = then same h.same;
          drawn = record {
            answered = h.drawn.answered ∙ ap draw.answer_of q;
            first_holds = h.drawn.first_holds ∙ ap (first_after new.first.now) q ∙ same_first whole new.first.now old.first.now whole_late same.first_room;
            second_holds = h.drawn.second_holds ∙ ap (second_after new.second.now) q ∙ same_second whole new.second.now old.second.now whole_late same.second_room;
          };
        }

-- ---- by whether there is something to draw the curve over
module _ (mode : Mode) (t : Tables) (e : Edge) (r : Resolved) where
  domain_is : (b : Bool) → has_no_domain mode (edge_curve t e) e.range ≡ b → referenced mode t e r ≡ elim b [ true ↦ done (lost_chord t e) | false ↦ drawn_probed mode t e r ]
  unfolding referenced
  domain_is b = ap (λ (x : Bool). elim x [ true ↦ done (lost_chord t e) | false ↦ drawn_probed mode t e r ])

  pub without_domain : has_no_domain mode (edge_curve t e) e.range ≡ true → done (lost_chord t e) ≡ referenced mode t e r
  without_domain h = sym (domain_is true h)

  pub with_domain : has_no_domain mode (edge_curve t e) e.range ≡ false → drawn_probed mode t e r ≡ referenced mode t e r
  with_domain h = sym (domain_is false h)

-- what reads as a line is no parabola and no hyperbola
line_domain : (mode : Mode) (c : CurveTree) (range : Interval) {origin direction : Vec3} → prepared_of c ≡ Line origin direction → has_no_domain mode c range ≡ false
unfolding has_no_domain is_open_conic prepared_of
line_domain Reference c range h = refl
line_domain Strict (analytic (line o d)) range h = refl
line_domain Strict (analytic (circle f a)) range h = refl
line_domain Strict (analytic (ellipse f a b)) range h = refl
line_domain Strict (analytic (parabola f d)) range h = cc
line_domain Strict (analytic (hyperbola f a b)) range h = cc
line_domain Strict (polyline ps) range h = refl
line_domain Strict (trimmed base own) range h = refl
line_domain Strict (composite ss) range h = refl

-- ---- draw_straight
module _ (mode : Mode) (t : Tables) (e : Edge) (r : Resolved) (old : Buffers) (range : Interval)
    (u : usable_range (edge_curve t e) e.range ≡ Some range) (near : (x : Float) → asks_far (edge_curve t e) x ≡ false) where
  over_usable : over_range mode t e r range ≡ discretised mode t e r
  unfolding discretised
  over_usable = rw (u, discretised)

  -- and its probes ask for nothing that is too far
  over_probed : over_range mode t e r range ≡ asked_discretised true mode t e r
  over_probed =
      let ts = probes (usable_range (edge_curve t e) e.range) in
      over_usable ∙ sym (asking_clear (asks_far (edge_curve t e)) ts (discretised mode t e r) (some_far-never (asks_far (edge_curve t e)) near ts))

  -- one segment, which stays, is all of the drawing
  straight_whole : (l : List Sample) → within (room_in old) (over_range mode t e r range) ≡ Ok l → stays t e r l ≡ true → whole mode t e r old ≡ Ok (by AsDrawn l)
  unfolding first_way
  straight_whole l h k =
      whole_by mode t e r old (Ok l) (ap (within (room_in old)) (sym over_probed) ∙ h)
      ∙ repaired_kept t e r (room_in old) mode (by (first_way (usable_range (edge_curve t e) e.range)) l) k
      ∙ ap (λ (v : Option Interval). Ok (by (first_way v) l)) u

  straight_drawn : {b : Bool} {f s : List Float} → SegmentInto t e r range old.first.now b f → b ≡ true → stays t e r (placed t e (evenly range 1)) ≡ true
      → s ≡ filled (length old.second.now) [] → DrawnInto (whole mode t e r old) old.first.now old.second.now (drawn_as AsDrawn 2) f s
  unfolding draw.answer_of first_after second_after
  straight_drawn d h k c =
      rw (straight_whole (placed t e (evenly range 1)) (d.chain h mode (room_in old) (room mode t e r old).least) k)
      (record { answered = ap (drawn_as AsDrawn) (sym (placed_size t e range)); first_holds = d.holds h; second_holds = c })

-- ---- draw: answer and buffers, by the way out
-- what `binary64` says of the tables and the edge's range
pub binary : (t : Tables) (e : Edge) → AllBinary64 t.reals × AllBinary64 t.ranges × T (fits binary64 e.range.lo) × T (fits binary64 e.range.hi) → Binary t e
binary t e h = record { reals = h.0; ranges = h.1; lo = h.2; hi = h.3 }

-- 1 to 7 leave both buffers as before
pub early : (n : Refusal) (first second : List Float) (d : Answer Got) → number_of n ≤ 7 → d ≡ Err n → DrawnInto d first second (Err n) first second
unfolding draw.answer_of first_after second_after
early n first second d h q = record { answered = rw q; first_holds = rw (q, le-leb (number_of n) 7 h); second_holds = rw (q, le-leb (number_of n) 7 h) }

module _ (mode : Mode) (t : Tables) (e : Edge) (o : Options) (first second : List Float) where
  -- draw_in_buffers and draw_unchecked
  pub too_short_lem : too_short (length first) (length second) ≡ true → DrawnInto (in_buffers mode t e o (length first) (length second)) first second (Err ShortBuffer) first second
  too_short_lem h = early ShortBuffer first second _ (omega arith) (rw h)

  pub in_buffers_lem : too_short (length first) (length second) ≡ false → (r : Resolved) → r ≡ local_options t e o
      → (answer : Answer Drawn) (f s : List Float) → DrawnInto (within (room_of (length first) (length second)) (referenced mode t e r)) first second answer f s
      → DrawnInto (in_buffers mode t e o (length first) (length second)) first second answer f s
  in_buffers_lem h r is answer f s d = rw (h, ← is) d

  -- draw
  pub by_verdict : (n : Refusal) → verdict t e o ≡ Err n → DrawnInto (drawn mode t e o (length first) (length second)) first second (Err n) first second
  by_verdict n a = early n first second _ (omega (arith, verdict_numbers t e o n a)) (refused_so mode t e o (length first) (length second) n (by_tables a))

  pub by_drawing : verdict t e o ≡ Ok tt → (answer : Answer Drawn) (f s : List Float) → DrawnInto (in_buffers mode t e o (length first) (length second)) first second answer f s
      → DrawnInto (drawn mode t e o (length first) (length second)) first second answer f s
  by_drawing a answer f s = subst (λ (x : Answer Got). DrawnInto x first second answer f s) (sym (given mode t e o (length first) (length second) (Ok tt) (too_short (length first) (length second)) a refl))

  pub all_outcome : Binary t e → (answer : Answer Drawn) (f s : List Float) → DrawnInto (drawn mode t e o (length first) (length second)) first second answer f s → Outcome mode t e o first second answer f s
  all_outcome b answer f s d = outcome mode t e o first second answer f s d.answered d.first_holds d.second_holds b

-- ---- the lengths that draw_in_buffers looks at
pub first_short : (a b : ℕ) → a < shortest → too_short a b ≡ true
first_short a b h = ap (λ (x : Bool). x || ltb b shortest) (lt-ltb a shortest h)

pub second_short : (a b : ℕ) → b < shortest → too_short a b ≡ true
second_short a b h = ap (λ (x : Bool). ltb a shortest || x) (lt-ltb b shortest h) ∙ or_true (ltb a shortest)
  where
    or_true : (x : Bool) → x || true ≡ true
    or_true true = refl
    or_true false = refl

pub neither_short : (a b : ℕ) → shortest ≤ a → shortest ≤ b → too_short a b ≡ false
neither_short a b g h = ap (λ (x : Bool). x || ltb b shortest) (le-ltb a shortest g) ∙ le-ltb b shortest h

-- ---- the depth that `resolve` leaves, which no extent changes
pub depth_above : (t : Tables) (e : Edge) (o : Options) {r : Resolved} → r ≡ local_options t e o → 0 < r.depth
unfolding local_options for_extent resolve
depth_above t e o {r} h = let d : r.depth ≡ (local_options t e o).depth = ap (λ (x : Resolved). x.depth) h in omega arith

-- ---- draw_straight, by the way out
pub not_straight : (D : Answer Got) (old new : Buffers) → new.first.ghost_name ≡ old.first.ghost_name → new.second.ghost_name ≡ old.second.ghost_name
    → new.first.now ≡ old.first.now → new.second.now ≡ old.second.now → StraightInto D old false new
not_straight D old new f s h k = record {
  same = record { first = f; second = s; first_room = ap length h; second_room = ap length k };
  chain = λ z. absurd (false≢true z);
  kept_first = λ z. h;
  kept_second = λ z. k;
}

module _ (mode : Mode) (t : Tables) (e : Edge) (o : Options) (old new : Buffers) (range : Interval)
    (u : usable_range (edge_curve t e) e.range ≡ Some range) {origin direction : Vec3} (line : prepared_of (edge_curve t e) ≡ Line origin direction)
    {start end : Vec3} (at_start : start ≡ edge_start t e) (at_end : end ≡ edge_end t e) where
  -- a line asks no hyperbola for anything
  line_near : (x : Float) → asks_far (edge_curve t e) x ≡ false
  unfolding asks_far
  line_near x = through_line (λ c. asks_far c x) (λ b i. refl) (edge_curve t e) line

  -- the vertices' chord stays with any parameters, and so with its own
  own_stays : (r : Resolved) → ((x y : Float) → stays (of_points t.points) e r (chord_between start end x y) ≡ true) → stays t e r (placed t e (evenly range 1)) ≡ true
  own_stays r k =
      let z = placed_chord t e line range in
      ap (λ (l : List Sample). stays t e r l) (sym z.2) ∙ rw (at_start, at_end) at (k z.0 z.1)

  pub straight : SameBuffers old new → {b : Bool} → SegmentInto t e (for_extent (resolve o) (edge_extent t e)) range old.first.now b new.first.now → b ≡ true
      → ((r : Resolved) → le plus_zero r.sag ≡ true → (x y : Float) → stays (of_points t.points) e r (chord_between start end x y) ≡ true)
      → new.second.now ≡ filled (length old.second.now) [] → StraightInto (in_buffers mode t e o (length old.first.now) (length old.second.now)) old true new
  unfolding local_options for_extent
  straight same {b} d h k c =
      let r = for_extent (resolve o) (edge_extent t e) in
      record {
        same = same;
        chain = λ z.
            in_buffers_lem mode t e o old.first.now old.second.now (neither_short (length old.first.now) (length old.second.now) old.first_long old.second_long) r refl _ new.first.now new.second.now
            (subst (λ (D : Work Got). DrawnInto (within (room_in old) D) old.first.now old.second.now (drawn_as AsDrawn 2) new.first.now new.second.now)
            (with_domain mode t e r (line_domain mode (edge_curve t e) e.range line))
            (straight_drawn mode t e r old range u line_near d h (own_stays r (k r (sag_above o (edge_extent t e)))) c));
        kept_first = λ z. absurd (false≢true (sym z));
        kept_second = λ z. absurd (false≢true (sym z));
      }

-- the buffers as they were, and drawing went on from there
pub drawn_from : (D E : Work Got) → D ≡ E → {first second f s : List Float} → f ≡ first → s ≡ second → {answer : Answer Drawn} {f' s' : List Float}
    → DrawnInto (within (room_of (length f) (length s)) D) f s answer f' s'
    → DrawnInto (within (room_of (length first) (length second)) E) first second answer f' s'
drawn_from D E q h k d = rw (← h, ← k, ← q) d
