-- What a line's chain over a range is, in one segment. Assumes nothing.
use Rattle.std.specs.Prelude.{Some, Ok}
use mathlib.Core.Path.{◌≡◌, refl, sym, ap, ◌∙◌}
use mathlib.Core.Bool.{Bool, true, false, cond, ◌&&◌, false≢true}
use mathlib.Core.List.{List, [], ◌∷◌, reverse}
use Prim.Native.Nat.{ℕ, max, ◌≤◌}
use native.Mathlib.Omega.{arith}
use lib.ListN.{length}
use lib.Dec.{T}
use lib.Ieee.{Float, binary64, fits, lt, le, of_bits, of_int, div}
use Rattle.base_lists.specs.Room.{filled}
use Rattle.arith.specs.Notation.{◌⊘◌, count, plus_zero, one, half}
use Rattle.arith_root.specs.Root.{root_of}
use Rattle.math.specs.declared.Vec3.{Vec3}
use Rattle.math.specs.declared.Interval.{Interval}
use Rattle.math.specs.Math.{v_add, v_sub, v_scale, v_length_squared, at}
use Rattle.brep.specs.declared.Edge.{Edge}
use Rattle.brep.specs.Rows.{Tables}
use Rattle.brep.specs.Tree.{CurveTree}
use Rattle.curve.specs.Eval.{point_at, is_sampled}
use Rattle.curve_prepared.specs.declared.Prepared.TheVariants.{Line}
use Rattle.curve_prepared.specs.Own.Prepared.{prepared_of}
use Rattle.curve_prepared.proofs.Laws.{through_line}
use Rattle.options.specs.declared.Mode.{Mode}
use Rattle.options.specs.declared.Options.{Options}
use Rattle.options.specs.declared.Resolved.{Resolved}
use Rattle.options.specs.Options.{resolve, sag_for, for_extent}
use Rattle.edge_params.specs.Work.{within}
use Rattle.edge_params.specs.Params.{midpoint, steps, evenly}
use Rattle.edge_params.specs.Own.InRoom.{refined_in, sample_params_in}
use Rattle.edge_params.proofs.Lists.{steps_length}
use Rattle.edge_params.proofs.Written.{fitting_fits}
use Rattle.edge_range.specs.Usable.{analytic_segments}
use Rattle.edge_record.specs.declared.Sample.{Sample}
use Rattle.edge_record.specs.Chain.{flat, last_of}
use Rattle.edge_closed_form.specs.Miss.{worst_miss}
use Rattle.edge_closed_form.specs.Own.Worst.{miss_square, larger_of}
use Rattle.edge_closed_form.proofs.Squares.{miss_root, worst_first, worst_next, same_test}
use Rattle.edge_sample.specs.Sample.{sampler}
use Rattle.edge_sample.specs.Own.Answered.{sampled_in}
use Rattle.edge_sample.proofs.Laws.{closed_never_far}
use Rattle.edge_merge.specs.Merge.{merge_floor, spaced, with_end, merged}
use Rattle.draw_spec.specs.Edge.{edge_curve, edge_start, edge_end, located, is_reversed, oriented, last_pinned, pinned, thinned_if, chord_of, placed, finished, over_range}
use Rattle.draw_spec.proofs.Listed.{listed_never, over_within}
use Rattle.edge_place.specs.Own.Place.{chord_between}
use Rattle.edge_place.proofs.Laws.{placed_length}
use Rattle.edge_segment.specs.Own.Segment.{SegmentInto}
use Rattle.refusal.specs.Answer.{Answer, bind, each}

-- ---- the two parameters
first_part : count 0 ⊘ count 1 ≡ plus_zero
unfolding div of_int of_bits
first_part = refl

last_part : count 1 ⊘ count 1 ≡ one
unfolding div of_int of_bits
last_part = refl

two_ends : (range : Interval) → evenly range 1 ≡ at range plus_zero ∷ at range one ∷ []
unfolding steps
two_ends range = rw (first_part, last_part)

-- ---- `meets`
module _ (c : CurveTree) {o d : Vec3} (R : prepared_of c ≡ Line o d) where
  line_point : (t : Float) → point_at c t ≡ v_add o (v_scale d t)
  unfolding point_at
  line_point t = through_line (λ k. point_at k t) (λ b i. refl) c R

  pub line_miss : (a b : Float) {s : Float} → s ≡ v_length_squared (v_sub (v_add o (v_scale d (midpoint a b))) (v_scale (v_add (v_add o (v_scale d a)) (v_add o (v_scale d b))) half)) → s ≡ miss_square c a b
  unfolding miss_square
  line_miss a b e = rw (line_point (midpoint a b), line_point a, line_point b) e

-- s is the square of the miss, and root that of the larger of it and zero
pub miss_within : (c : CurveTree) (a b s sag : Float) → T (fits binary64 s) → s ≡ miss_square c a b → le (root_of (larger_of plus_zero s)) sag ≡ le (worst_miss c plus_zero (a ∷ b ∷ [])) sag
unfolding worst_miss
miss_within c a b s sag F e =
    same_test _ _ sag (rw (sym (miss_root c a b), sym e) (worst_next plus_zero plus_zero s worst_first F).alike)

pub larger_taken : (s : Float) → lt plus_zero s ≡ true → larger_of plus_zero s ≡ s
unfolding larger_of
larger_taken s h = rw h

pub larger_left : (s : Float) → lt plus_zero s ≡ false → root_of (larger_of plus_zero s) ≡ plus_zero
unfolding larger_of root_of of_bits
larger_left s h = rw h

-- ---- the chain
module _ (c : CurveTree) {o d : Vec3} (R : prepared_of c ≡ Line o d) (range : Interval) (r : Resolved) where
  line_form : r.segments ≤ 1 → analytic_segments c range r ≡ Some 1
  unfolding analytic_segments
  line_form h =
      let n : max r.segments 1 ≡ 1 = omega arith in
      through_line (λ k. analytic_segments k range r) (λ b i. refl) c R ∙ ap Some n

  line_unsampled : is_sampled c ≡ false
  unfolding is_sampled
  line_unsampled = through_line is_sampled (λ b i. refl) c R

  -- in any room for two
  line_sampled : (mode : Mode) (room : ℕ) → 2 ≤ room → r.segments ≤ 1 → le (worst_miss c plus_zero (evenly range 1)) r.sag ≡ true → sampled_in room mode c range r ≡ Ok (evenly range 1)
  unfolding sampled_in sampler sample_params_in
  line_sampled mode room h k m =
      let l = evenly range 1 in
      let worse = refined_in room (sampler mode c range r) range in
      rw (line_form k, sample_params_in)
      (ap (λ (x : Answer (List Float)). bind x (λ l. elim ((sampler mode c range r).meets l) [ true ↦ Ok l | false ↦ worse ])) (fitting_fits room l (omega (arith, steps_length range 1 2)))
      ∙ ap (λ (b : Bool). elim b [ true ↦ Ok l | false ↦ worse ]) m)

-- merging leaves two as they are
merged_two : (floor : Float) (l : List Sample) → length l ≡ 2 → merged floor l ≡ l
unfolding merged last_of
merged_two floor [] h = absurd (omega arith)
merged_two floor (p ∷ []) h = absurd (omega arith)
merged_two floor (p ∷ q ∷ x ∷ l) h = absurd (omega arith)
merged_two floor (p ∷ q ∷ []) h = go (lt plus_zero floor)
  where
    go : (b : Bool) → cond (b && false) (with_end floor p (p ∷ spaced floor p.point []) q) (p ∷ q ∷ []) ≡ p ∷ q ∷ []
    go true = refl
    go false = refl

pub placed_size : (T : Tables) (e : Edge) (range : Interval) → length (placed T e (evenly range 1)) ≡ 2
placed_size T e range = placed_length T e (evenly range 1) ∙ steps_length range 1 2

module _ (T : Tables) (e : Edge) {o d : Vec3} (R : prepared_of (edge_curve T e) ≡ Line o d) (range : Interval) where
  line_over : (r : Resolved) → r.segments ≤ 1 → le (worst_miss (edge_curve T e) plus_zero (evenly range 1)) r.sag ≡ true
      → (mode : Mode) (room : ℕ) → 2 ≤ room → within room (over_range mode T e r range) ≡ Ok (placed T e (evenly range 1))
  unfolding finished thinned_if
  line_over r k m mode room h =
      let c = edge_curve T e in
      let P = placed T e (evenly range 1) in
      over_within mode T e r range room
      ∙ ap (λ (x : Answer (List Float)). bind x (finished T e r)) (listed_never room mode c range r (closed_never_far c range r 1 (line_form c R range r k)) ∙ line_sampled c R range r mode room h k m)
      ∙ ap (λ (b : Bool). each (merged (merge_floor e.tolerance r.sag)) (thinned_if b r P)) (line_unsampled c R range r)
      ∙ ap Ok (merged_two (merge_floor e.tolerance r.sag) P (placed_size T e range))

  -- the vertices, with the parameters the way round that the line's points there run
  line_placed : let a = at range plus_zero in let b = at range one in
      cond (is_reversed T e (v_add o (v_scale d a)) (v_add o (v_scale d b))) (chord_of T e b a) (chord_of T e a b) ≡ placed T e (evenly range 1)
  unfolding placed oriented pinned last_pinned located last_of
  line_placed =
      let c = edge_curve T e in
      let a = at range plus_zero in
      let b = at range one in
      rw (two_ends range, sym (line_point c R a), sym (line_point c R b)) (go a b (is_reversed T e (point_at c a) (point_at c b)))
    where
      go : (a b : Float) (v : Bool) → cond v (chord_of T e b a) (chord_of T e a b)
          ≡ pinned (edge_start T e) (edge_end T e) (cond v (reverse (located (edge_curve T e) (a ∷ b ∷ []))) (located (edge_curve T e) (a ∷ b ∷ [])))
      go a b true = refl
      go a b false = refl

  -- so that it is the vertices' chord, with some parameters
  pub placed_chord : (a : Float) × (b : Float) × (chord_of T e a b ≡ placed T e (evenly range 1))
  placed_chord = go (is_reversed T e (v_add o (v_scale d (at range plus_zero))) (v_add o (v_scale d (at range one)))) line_placed
    where
      go : (v : Bool) → cond v (chord_of T e (at range one) (at range plus_zero)) (chord_of T e (at range plus_zero) (at range one)) ≡ placed T e (evenly range 1)
          → (a : Float) × (b : Float) × (chord_of T e a b ≡ placed T e (evenly range 1))
      go true h = (at range one, at range plus_zero, h)
      go false h = (at range plus_zero, at range one, h)

-- ---- `draw_segment`
module _ (T : Tables) (e : Edge) (r : Resolved) (range : Interval) (entry : List Float) where
  pub not_drawn : {exit : List Float} → exit ≡ entry → SegmentInto T e r range entry false exit
  not_drawn h = record { chain = λ z. absurd (false≢true z); holds = λ z. absurd (false≢true z); kept = λ z. h }

  -- a and b are the parameters, pa and pb the points there of the line, p and q the vertices
  pub drawn : {o d pa pb p q : Vec3} {a b : Float} → p ≡ edge_start T e → q ≡ edge_end T e → prepared_of (edge_curve T e) ≡ Line o d → r.segments ≤ 1
      → a ≡ at range plus_zero → b ≡ at range one → pa ≡ v_add o (v_scale d a) → pb ≡ v_add o (v_scale d b)
      → le (worst_miss (edge_curve T e) plus_zero (a ∷ b ∷ [])) r.sag ≡ true
      → {exit : List Float} → exit ≡ filled (length entry) (flat (cond (is_reversed T e pa pb) (chord_between p q b a) (chord_between p q a b)))
      → SegmentInto T e r range entry true exit
  drawn S E R k A B P Q M H =
      let m = ap (λ (l : List Float). le (worst_miss (edge_curve T e) plus_zero l) r.sag) (two_ends range) ∙ rw (A, B) at M in
      record {
        chain = λ z. line_over T e R range r k m;
        holds = λ z. rw (Q, P, B, A, S, E) at H ∙ ap (λ (l : List Sample). filled (length entry) (flat l)) (line_placed T e R range);
        kept = λ z. absurd (false≢true (sym z));
      }

-- one segment at least, so that one is asked for where no more are
pub one_segment : (o : Options) (x : Float) → o.segments ≤ 1 → (for_extent (resolve o) x).segments ≤ 1
unfolding for_extent resolve
one_segment o x h = omega arith

pub its_sag : (o : Options) (x : Float) → sag_for (resolve o) x ≡ (for_extent (resolve o) x).sag
unfolding for_extent
its_sag o x = refl
