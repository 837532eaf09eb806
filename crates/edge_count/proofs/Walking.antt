-- The walk over the stops: what is counted, then what the rest of the walk adds, is the whole. Assumes nothing.
use Rattle.std.specs.Prelude.{ℕ, Err, Ok}
use mathlib.Core.Path.{◌≡◌, refl, sym, ap, ◌∙◌}
use mathlib.Core.List.{List, [], ◌∷◌, ◌++◌, append_assoc}
use Prim.Native.Nat.{ℕ, ◌+◌, ◌≤◌}
use lib.ListN.{length, get_or, drop}
use lib.Ieee.{Float, nan}
use Rattle.math.specs.declared.Interval.{Interval}
use Rattle.brep.specs.Tree.{CurveTree}
use Rattle.options.specs.declared.Mode.{Mode}
use Rattle.options.specs.declared.Resolved.{Resolved}
use Rattle.curve_asks.specs.Asks.{asks_far}
use Rattle.knots_thin.specs.Thin.{kept_breaks}
use Rattle.edge_params.specs.Params.{Move, adds, breaks_along, walking, bisecting}
use Rattle.edge_params.specs.Own.Counted.{counted}
use Rattle.edge_params.proofs.Asks.{counted_append}
use Rattle.edge_subdivide.specs.declared.End.{End}
use Rattle.edge_subdivide.specs.Bisect.{end_at}
use Rattle.edge_subdivide.proofs.Laws.{end_t}
pub use Rattle.edge_subdivide.proofs.Laws.{end_own}
use Rattle.edge_sample.specs.Sample.{sampler}
use Rattle.edge_sample.specs.Own.Answered.{stops}
use Rattle.edge_sample.proofs.Stops.{stops_from, stops_past}
use Rattle.edge_count.proofs.Counting.{stands, goes_on, span_moves}
use Rattle.refusal.specs.Answer.{Answer, bind}
use Rattle.refusal.specs.declared.Refusal.{Refusal}

module _ (mode : Mode) (c : CurveTree) (range : Interval) (r : Resolved) where
  -- what the walk does from left on, with range.hi
  pub onwards : Float → List Float → List Move
  onwards left bs = walking (sampler mode c range r) range left bs ++ (adds range.hi ∷ [])

  onwards_none : (left : Float) → onwards left [] ≡ adds range.hi ∷ []
  unfolding onwards walking
  onwards_none left = refl

  onwards_more : (left b : Float) (bs : List Float) → span_moves c range r r.depth left b ++ onwards b bs ≡ onwards left (b ∷ bs)
  unfolding onwards walking sampler
  onwards_more left b bs = simp append_assoc

module _ (mode : Mode) (c : CurveTree) (range : Interval) (r : Resolved) (room : ℕ) where
  -- the number of parameters in the end, where there are k so far
  abbrev onward : ℕ → Float → List Float → Answer ℕ
  onward k left bs = counted (asks_far c) room k (onwards mode c range r left bs)

  abbrev whole : Answer ℕ
  whole = counted (asks_far c) room 0 (bisecting (sampler mode c range r) range)

  -- left is the end at the last stop, i the number of the next one
  pub record Walking (breaks : List Float) (left : End) (k i : ℕ) : Type 0 where
    pub own : left ≡ end_at c left.t
    pub all : onward k left.t (drop i (stops range breaks)) ≡ whole

  module _ (breaks : List Float) where
    -- range.lo, and what is counted behind it
    module _ (B : breaks ≡ kept_breaks mode c range.lo range.hi r.sag) where
      moves : adds range.lo ∷ onwards mode c range r range.lo (stops range breaks) ≡ bisecting (sampler mode c range r) range
      unfolding onwards bisecting breaks_along stops sampler
      moves = ap (λ (bs : List Float). adds range.lo ∷ onwards mode c range r range.lo (stops range bs)) B

      begun : bind (counted (asks_far c) room 0 (adds range.lo ∷ [])) (λ (n : ℕ). onward n range.lo (stops range breaks)) ≡ whole
      begun =
          sym (counted_append (asks_far c) room 0 (adds range.lo ∷ []) (onwards mode c range r range.lo (stops range breaks)))
          ∙ ap (counted (asks_far c) room 0) moves

      pub low_refused : {n : Refusal} → Err n ≡ counted (asks_far c) room 0 (adds range.lo ∷ []) → Err n ≡ whole
      low_refused e = stands (λ (n : ℕ). onward n range.lo (stops range breaks)) e ∙ begun

      pub walking_start : {m : ℕ} → Ok m ≡ counted (asks_far c) room 0 (adds range.lo ∷ []) → (low : End) → low ≡ end_at c range.lo → Walking breaks low m 0
      walking_start {m} e low L = record {
        own = end_own c range.lo low L;
        all = ap (λ (x : Float). onward m x (stops range breaks)) (end_t c range.lo low L)
            ∙ goes_on (λ (n : ℕ). onward n range.lo (stops range breaks)) e ∙ begun;
      }

    module _ {left : End} {k i : ℕ} (s : Walking breaks left k i) where
      -- one stop more
      module _ (h : i ≤ length breaks) (b : Float) (is : b ≡ get_or (stops range breaks) i nan) (right : End) (own : right ≡ end_at c b) where
        behind : right.t ∷ drop (i + 1) (stops range breaks) ≡ drop i (stops range breaks)
        behind = ap (λ (x : Float). x ∷ drop (i + 1) (stops range breaks)) (end_t c b right own ∙ is) ∙ stops_from range breaks i h

        abbrev rest : ℕ → Answer ℕ
        rest n = onward n right.t (drop (i + 1) (stops range breaks))

        split : bind (counted (asks_far c) room k (span_moves c range r r.depth left.t right.t)) rest ≡ whole
        split =
            sym (counted_append (asks_far c) room k (span_moves c range r r.depth left.t right.t) (onwards mode c range r right.t (drop (i + 1) (stops range breaks))))
            ∙ ap (counted (asks_far c) room k) (onwards_more mode c range r left.t right.t (drop (i + 1) (stops range breaks)) ∙ ap (onwards mode c range r left.t) behind)
            ∙ s.all

        pub walking_refused : {n : Refusal} → Err n ≡ counted (asks_far c) room k (span_moves c range r r.depth left.t right.t) → Err n ≡ whole
        walking_refused e = stands rest e ∙ split

        pub walking_next : {n : ℕ} → Ok n ≡ counted (asks_far c) room k (span_moves c range r r.depth left.t right.t) → Walking breaks right n (i + 1)
        walking_next e = record { own = end_own c b right own; all = goes_on rest e ∙ split }

      -- range.hi
      pub walking_done : i ≡ length breaks + 1 → {x : Answer ℕ} → x ≡ counted (asks_far c) room k (adds range.hi ∷ []) → x ≡ whole
      walking_done e W =
          W ∙ ap (counted (asks_far c) room k) (sym (ap (onwards mode c range r left.t) (stops_past range breaks i e) ∙ onwards_none mode c range r left.t)) ∙ s.all
