-- The five clauses of every chain that `discretise` gives, of a range that can be sampled. Assumes nothing.
use Rattle.std.specs.Prelude.{Option, Some, None, Err, Ok}
use mathlib.Core.Path.{◌≡◌, refl, ap, subst, ◌∙◌}
use mathlib.Core.Bool.{Bool, true, false}
use mathlib.Core.List.{List, [], ◌∷◌}
use Prim.Native.Nat.{ℕ, ◌^◌, ◌-◌, ◌+◌, ◌≤◌}
use native.Mathlib.Omega.{arith}
use lib.ListN.{length, get_or}
use lib.Ieee.{Float}
use Rattle.arith.specs.Notation.{◌⊗◌}
use Rattle.arith.specs.Constants.{hundredth}
use Rattle.base_lists.specs.All.{none}
use Rattle.base_lists.proofs.Order.{sub_length}
use Rattle.base_lists.proofs.Joined.{sub_map}
use Rattle.math.specs.declared.Interval.{Interval}
use Rattle.brep.specs.declared.Edge.{Edge}
use Rattle.brep.specs.Rows.{Tables}
use Rattle.brep.specs.Tree.{CurveTree}
use Rattle.curve.specs.Eval.{point_at, is_sampled}
use Rattle.options.specs.declared.Mode.{Mode}
use Rattle.options.specs.declared.Resolved.{Resolved}
use Rattle.knots.specs.Knots.{deviation}
use Rattle.knots_breaks.specs.Breaks.{breaks_in}
use Rattle.knots_breaks.proofs.Laws.{breaks_fit, breaks_between}
use Rattle.edge_params.proofs.Runs.{good_number}
use Rattle.edge_params.proofs.Steady.{Steady, steady_sub, steady_one_way, two_one_way, two_steady}
use Rattle.curve_asks.specs.Asks.{asks_far}
use Rattle.edge_params.specs.Work.{ends, done, asking}
use Rattle.edge_params.proofs.Sampled.{sampled_steady, thin_sampleable}
use Rattle.edge_record.specs.declared.Sample.{Sample}
use Rattle.edge_record.specs.Chain.{last_of}
use Rattle.edge_record.proofs.Shorter.{Shorter, shorter_same, shorter_trans, shorter_sub, shorter_two, shorter_first, shorter_last, shorter_between}
use Rattle.edge_merge.specs.Merge.{merge_floor, merged, one}
use Rattle.edge_merge.proofs.Laws.{merge_shorter, merge_apart}
use Rattle.edge_thin.proofs.Laws.{thin_shorter, thin_refused}
use Rattle.edge_range.specs.Usable.{usable_range}
use Rattle.edge_sample.specs.Sample.{sampler, sampled}
use Rattle.edge_sample.specs.Own.Answered.{sampled_in}
use Rattle.edge_sample.proofs.Laws.{sampled_room, sampled_kept, sampled_refused}
use Rattle.draw_spec.specs.Edge.{edge_curve, thinned_if, chord_of, at_least_two, placed, finished, listed, over_range, discretised}
use Rattle.draw_spec.specs.Draw.{Sound}
use Rattle.draw_spec.proofs.Tame.{Tame}
use Rattle.draw_spec.proofs.Ranges.{Ends, Goods, usable_goods}
use Rattle.draw_spec.proofs.Placed.{Own, Placed, placed_holds, placed_length}
use Rattle.draw_spec.proofs.Answers.{Answered, Answers, answer, nine, answers_ends, answers_then, answers_asking, answers_eleven}
use Rattle.refusal.specs.Answer.{Answer, each}
use Rattle.refusal.specs.declared.Refusal.{Refusal}
use Rattle.refusal.specs.declared.Refusal.TheVariants.{Endless}

-- a chain that fits the room, and of which the five clauses hold, given H
pub record Chained (H : Type 0) (t : Tables) (e : Edge) (floor : Float) (room : ℕ) (l : List Sample) : Type 0 where
  pub sound : H → Sound t e floor l
  pub fits : length l ≤ room

-- parameters of a chain: two or more, no more than the room has, and in one order, given H
record Parameters (H : Type 0) (room : ℕ) (l : List Float) : Type 0 where
  pub two : 2 ≤ length l
  pub fits : length l ≤ room
  pub steady : H → Steady l

-- how many records there is room for
pub record Room (room : ℕ) : Type 0 where
  pub least : 2 ≤ room
  pub most : room ≤ 2 ^ 53

-- ---- a chord of the vertices
pub chord_chained : (H : Type 0) (t : Tables) (e : Edge) (floor : Float) (room : ℕ) → 2 ≤ room → (a b : Float) → Chained H t e floor room (chord_of t e a b)
chord_chained H t e floor room h a b = record {
  sound = λ x. record {
    two = omega arith;
    ends = (refl, refl);
    own = none;
    one_way = two_one_way a b;
    apart = λ z. one;
  };
  fits = h;
}

-- ---- placed samples, thinned and merged
end-at : (d p : Sample) (l : List Sample) → get_or (p ∷ l) (length l) d ≡ last_of p l
unfolding last_of
end-at d p [] = refl
end-at d p (q ∷ l) = end-at d q l

last_at : (d : Sample) (l : List Sample) → 1 ≤ length l → get_or l (length l - 1) d ≡ last_of d l
unfolding last_of
last_at d [] h = absurd (omega arith)
last_at d (p ∷ l) h = let z : length (p ∷ l) - 1 ≡ length l = omega arith in rw z (end-at d p l)

module _ (r : Resolved) (l : List Sample) (two : 2 ≤ length l) where
  thinned_shorter : (b : Bool) (k : List Sample) → thinned_if b r l ≡ Ok k → Shorter k l
  unfolding thinned_if
  thinned_shorter true k q = thin_shorter (r.sag ⊗ hundredth) r.angle (r.segments + 1) l k two q
  thinned_shorter false k q = let x : l ≡ k = cc in subst (λ (m : List Sample). Shorter m l) x (itself l two)
    where
      itself : (l : List Sample) → 2 ≤ length l → Shorter l l
      itself [] h = absurd (omega arith)
      itself (a ∷ []) h = absurd (omega arith)
      itself (a ∷ b ∷ l) h = shorter_same a b l

  thinned_refused : (b : Bool) (n : Refusal) → thinned_if b r l ≡ Err n → n ≡ Endless
  unfolding thinned_if
  thinned_refused true n q = thin_refused (r.sag ⊗ hundredth) r.angle (r.segments + 1) l n q
  thinned_refused false n q = absurd (let z : ◌≡◌ {A = ℕ} 0 1 = cc in omega arith)

  merged_length : (floor : Float) (k : List Sample) → Shorter k l → length (merged floor k) ≤ length l
  merged_length floor k s =
      sub_length (shorter_sub (merged floor k) l (shorter_trans (merged floor k) k l (merge_shorter floor k (shorter_two k l s)) s))

-- what some of the placed samples keep, the ends among them
merged_sound : (t : Tables) (e : Edge) (l : List Sample) → Placed t e l → (floor : Float) (k : List Sample) → Shorter k l → Sound t e floor (merged floor k)
merged_sound t e l p floor k s =
    let m = merged floor k in
    let h = shorter_two k l s in
    let u = shorter_trans m k l (merge_shorter floor k h) s in
    let two = shorter_two m l u in
    record {
      two = two;
      ends = (
        ap (λ (x : Sample). x.point) (shorter_first m l u _) ∙ p.begins _,
        ap (λ (x : Sample). x.point) (last_at _ m (omega arith) ∙ shorter_last m l u _) ∙ p.finishes _,
      );
      own = shorter_between m l u (Own (edge_curve t e)) p.own;
      one_way = steady_one_way (steady_sub (sub_map (λ (x : Sample). x.param) (shorter_sub m l u)) p.steady);
      apart = λ z. merge_apart floor k h (rw z tt);
    }

module _ (t : Tables) (e : Edge) (r : Resolved) where
  abbrev edge_floor : Float
  edge_floor = merge_floor e.tolerance r.sag

  finished_answers : (H : Type 0) (room : ℕ) (params : List Float) → Parameters H room params → Answers room (Chained H t e edge_floor room) (ends (finished t e r params))
  unfolding finished
  finished_answers H room params p = answers_ends room (go (thinned_if (is_sampled (edge_curve t e)) r (placed t e params)) refl)
    where
      long : 2 ≤ length (placed t e params)
      long = omega (arith, placed_length t e params, p.two)

      go : (x : Answer (List Sample)) → thinned_if (is_sampled (edge_curve t e)) r (placed t e params) ≡ x
          → Answered (Chained H t e edge_floor room) false (each (merged edge_floor) x)
      go (Ok k) q =
          let l = placed t e params in
          let u = thinned_shorter r l long (is_sampled (edge_curve t e)) k q in
          answer (record {
            sound = λ x. merged_sound t e l (placed_holds t e params p.two (p.steady x)) edge_floor k u;
            fits = omega (arith, merged_length r l long edge_floor k u, placed_length t e params, p.fits);
          })
      go (Err k) q = let z = thinned_refused r (placed t e params) long (is_sampled (edge_curve t e)) k q in rw z nine

-- ---- the parameters
module _ (range : Interval) where
  at_least_two_lem : (l : List Float) → 2 ≤ length (at_least_two range l)
  unfolding at_least_two
  at_least_two_lem [] = omega arith
  at_least_two_lem (a ∷ []) = omega arith
  at_least_two_lem (a ∷ b ∷ l) = omega arith

  at_most : (room : ℕ) → 2 ≤ room → (l : List Float) → length l ≤ room → length (at_least_two range l) ≤ room
  unfolding at_least_two
  at_most room h [] n = h
  at_most room h (a ∷ []) n = h
  at_most room h (a ∷ b ∷ l) n = n

  module _ (g : Goods range) where
    ends_steady : Steady (range.lo ∷ range.hi ∷ [])
    ends_steady = two_steady range.lo range.hi (good_number g.low) (good_number g.high)

    still_steady : (l : List Float) → Steady l → Steady (at_least_two range l)
    unfolding at_least_two
    still_steady [] s = ends_steady
    still_steady (a ∷ []) s = ends_steady
    still_steady (a ∷ b ∷ l) s = s

-- ---- discretise
module _ (H : Type 0) (mode : Mode) (t : Tables) (e : Edge) (tame : H → Tame (edge_curve t e)) (own : H → Ends e.range) (room : ℕ) (fine : Room room) (r : Resolved) where
  -- the parameters of the curve over a range: whatever was asked for before, they are what `sampled_in` gives
  module _ (range : Interval) (g : H → Goods range) where
    abbrev c : CurveTree
    c = edge_curve t e

    list_steady : (l : List Float) → sampled_in room mode c range r ≡ Ok l → H → Steady l
    unfolding sampled_in sampler
    list_steady l q x =
        sampled_steady (sampler mode c range r) range
        (thin_sampleable (sampler mode c range r) range (breaks_in mode c range.lo range.hi) r.sag (deviation (point_at c)) refl (breaks_fit mode c range.lo range.hi (tame x).knots)
        (breaks_between mode c range.lo range.hi (g x).low.fits64 (g x).high.fits64 (g x).low.modest (g x).high.modest) (g x).low (g x).high)
        room fine.most l q

    listed_answers : Answers room (Parameters H room) (listed mode c range r)
    listed_answers =
        answers_then room (sampled mode c range r) (λ l. asking (asks_far c) (at_least_two range l) (done (at_least_two range l)))
        (answers_eleven {P = λ l. sampled_in room mode c range r ≡ Ok l} room (sampled mode c range r) (sampled_refused mode c range r) (sampled_kept room mode c range r))
        (λ l q. answers_asking room (asks_far c) (at_least_two range l) (done (at_least_two range l)) (answers_ends room (answer (record {
          two = at_least_two_lem range l;
          fits = at_most range room fine.least l (sampled_room room mode c range r l q);
          steady = λ x. still_steady range (g x) l (list_steady l q x);
        }))))

  pub discretised_answers : Answers room (Chained H t e (merge_floor e.tolerance r.sag) room) (discretised mode t e r)
  unfolding discretised
  discretised_answers = go (usable_range (edge_curve t e) e.range) refl
    where
      go : (u : Option Interval) → usable_range (edge_curve t e) e.range ≡ u
          → Answers room (Chained H t e (merge_floor e.tolerance r.sag) room) (elim u [
            | None ↦ done (chord_of t e e.range.lo e.range.hi)
            | Some range ↦ over_range mode t e r range
          ])
      go None q = answers_ends room (answer (chord_chained H t e (merge_floor e.tolerance r.sag) room fine.least e.range.lo e.range.hi))
      go (Some range) q =
          answers_then room (listed mode (edge_curve t e) range r) (λ params. ends (finished t e r params))
          (listed_answers range (λ x. usable_goods (edge_curve t e) (tame x) range e.range (own x) q))
          (finished_answers t e r H room)
