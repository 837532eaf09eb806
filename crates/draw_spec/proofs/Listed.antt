-- The parameters of a range in a room, by what is asked of the curve: where nothing is too far they are those of `sampled_in`, which the code
-- writes; and what the reference comes to of a curve that never asks a hyperbola for a parameter that is too far. Assumes nothing.
use Rattle.std.specs.Prelude.{None, Err, Ok}
use mathlib.Core.Path.{◌≡◌, refl, ap, ◌∙◌}
use mathlib.Core.Bool.{Bool, true, false}
use mathlib.Core.List.{List, [], ◌∷◌}
use Prim.Native.Nat.{ℕ, suc, ◌-◌, ◌≤◌, ◌<◌}
use native.Mathlib.Omega.{arith}
use lib.ListN.{length}
use lib.Ieee.{Float}
use Rattle.math.specs.declared.Interval.{Interval}
use Rattle.brep.specs.declared.Edge.{Edge}
use Rattle.brep.specs.Rows.{Tables}
use Rattle.brep.specs.Tree.{CurveTree}
use Rattle.curve.specs.Eval.{natural_range}
use Rattle.curve_asks.specs.Asks.{asks_far}
use Rattle.options.specs.declared.Mode.{Mode}
use Rattle.options.specs.declared.Resolved.{Resolved}
use Rattle.edge_params.specs.Work.{ends, done, some_far, asking, overflows, within}
use Rattle.edge_params.specs.Params.{evenly}
use Rattle.edge_params.specs.Own.Bisected.{bisected, NothingFar}
use Rattle.edge_params.proofs.Asks.{some_far-never, never_clear, asking_clear, within_asking}
use Rattle.edge_params.proofs.Work.{within_ends, within_then, open_near}
use Rattle.edge_range.specs.Usable.{analytic_segments}
use Rattle.edge_sample.specs.Sample.{sampler, sampled}
use Rattle.edge_sample.specs.Own.Answered.{sampled_in}
use Rattle.edge_sample.proofs.Laws.{sampled_two, sampled_in_lem, sampled_kept}
use Rattle.draw_spec.specs.Edge.{edge_curve, at_least_two, finished, listed, over_range}
use Rattle.draw_spec.specs.Repair.{sweep, short_arc_tried, by_short_arc}
use Rattle.refusal.specs.Answer.{Answer, bind}
use Rattle.refusal.specs.declared.Refusal.TheVariants.{TooFar}
use Rattle.refusal.specs.declared.Refusal.{Refusal}

-- two parameters or more are left as they are
pub two_left : (range : Interval) (l : List Float) → 2 ≤ length l → at_least_two range l ≡ l
unfolding at_least_two
two_left range [] h = absurd (omega arith)
two_left range (t ∷ []) h = absurd (omega arith)
two_left range (t ∷ u ∷ l) h = refl

-- the list where nothing in it is too far
abbrev pub unless_far : (Float → Bool) → List Float → Answer (List Float)
unless_far far l = elim (some_far far l) [ true ↦ Err TooFar | false ↦ Ok l ]

module _ (room : ℕ) (mode : Mode) (c : CurveTree) (range : Interval) (r : Resolved) where
  -- the parameters that sampling answers with, unless one of them is too far
  pub listed_within : within room (listed mode c range r) ≡ bind (within room (sampled mode c range r)) (unless_far (asks_far c))
  listed_within =
      within_then room (sampled mode c range r) (λ l. asking (asks_far c) (at_least_two range l) (done (at_least_two range l)))
      ∙ go (within room (sampled mode c range r)) refl
    where
      asked : (l : List Float) → within room (asking (asks_far c) l (done l)) ≡ unless_far (asks_far c) l
      asked l =
          within_asking (asks_far c) l (done l) room
          ∙ ap (λ (x : Answer (List Float)). elim (some_far (asks_far c) l) [ true ↦ Err TooFar | false ↦ x ]) (within_ends room (Ok l))

      go : (x : Answer (List Float)) → within room (sampled mode c range r) ≡ x
          → bind x (λ l. within room (asking (asks_far c) (at_least_two range l) (done (at_least_two range l)))) ≡ bind x (unless_far (asks_far c))
      go (Err n) q = refl
      go (Ok l) q =
          ap (λ (k : List Float). within room (asking (asks_far c) k (done k))) (two_left range l (sampled_two room mode c range r l (sampled_kept room mode c range r l q)))
          ∙ asked l

  -- what sampling refuses is refused, and so are parameters of which one is too far
  pub listed_refused : (n : Refusal) → within room (sampled mode c range r) ≡ Err n → within room (listed mode c range r) ≡ Err n
  listed_refused n q = listed_within ∙ ap (λ (x : Answer (List Float)). bind x (unless_far (asks_far c))) q

  pub listed_far : (l : List Float) → within room (sampled mode c range r) ≡ Ok l → some_far (asks_far c) l ≡ true → within room (listed mode c range r) ≡ Err TooFar
  listed_far l q f =
      listed_within ∙ ap (λ (x : Answer (List Float)). bind x (unless_far (asks_far c))) q
      ∙ ap (λ (b : Bool). elim b [ true ↦ Err TooFar | false ↦ Ok l ]) f

  -- where nothing that sampling asks for is too far, and nothing that it answers with
  pub listed_clear : NothingFar (sampler mode c range r) range → ((l : List Float) → sampled_in room mode c range r ≡ Ok l → some_far (asks_far c) l ≡ false)
      → within room (listed mode c range r) ≡ sampled_in room mode c range r
  listed_clear clear near =
      listed_within ∙ ap (λ (x : Answer (List Float)). bind x (unless_far (asks_far c))) (sampled_in_lem room mode c range r clear)
      ∙ go (sampled_in room mode c range r) near
    where
      go : (x : Answer (List Float)) → ((l : List Float) → x ≡ Ok l → some_far (asks_far c) l ≡ false) → bind x (unless_far (asks_far c)) ≡ x
      go (Err n) h = refl
      go (Ok l) h = ap (λ (b : Bool). elim b [ true ↦ Err TooFar | false ↦ Ok l ]) (h l refl)

  -- of a curve that never asks a hyperbola for a parameter that is too far
  pub listed_never : ((t : Float) → asks_far c t ≡ false) → within room (listed mode c range r) ≡ sampled_in room mode c range r
  unfolding sampler
  listed_never h = listed_clear (never_clear (sampler mode c range r) range h) (λ l q. some_far-never (asks_far c) h l)

  -- of a curve that has no closed form, with a depth above 0: of the answer only the segment floor's steps have to be looked at
  pub listed_open : NothingFar (sampler mode c range r) range → analytic_segments c range r ≡ None → 0 < r.depth
      → (length (bisected (sampler mode c range r) range) - 1 < r.segments → suc r.segments ≤ room → some_far (asks_far c) (evenly range r.segments) ≡ false)
      → within room (listed mode c range r) ≡ sampled_in room mode c range r
  unfolding sampled_in sampler
  listed_open clear formless deep floor = listed_clear clear (open_near room (sampler mode c range r) range clear formless deep floor)

-- ---- the chain over a range, in a room
module _ (mode : Mode) (T : Tables) (e : Edge) (r : Resolved) where
  pub over_within : (range : Interval) (room : ℕ) → within room (over_range mode T e r range) ≡ bind (within room (listed mode (edge_curve T e) range r)) (finished T e r)
  unfolding overflows
  over_within range room = within_then room (listed mode (edge_curve T e) range r) (λ params. ends (finished T e r params))

  -- ---- the short arc, of a curve that never asks a hyperbola for a parameter that is too far
  module _ (never : (t : Float) → asks_far (edge_curve T e) t ≡ false) where
    pub short_arc_never : by_short_arc mode T e r ≡ short_arc_tried mode T e r
    short_arc_never =
        let ts = sweep (natural_range (edge_curve T e)) in
        asking_clear (asks_far (edge_curve T e)) ts (short_arc_tried mode T e r) (some_far-never (asks_far (edge_curve T e)) never ts)
