-- The ways out of count_breaks and count_range; and, for callers, that `range_counted` is the length of the list that the reference forms, or
-- its refusal. Assumes nothing.
use Rattle.std.specs.Prelude.{Err, Ok}
use mathlib.Core.Path.{◌≡◌, refl, sym, ap, ◌∙◌}
use mathlib.Core.Bool.{Bool, true, false}
use mathlib.Core.List.{List, []}
use Prim.Native.Nat.{ℕ, ◌+◌}
use native.Mathlib.Omega.{arith}
use lib.ListN.{length}
use lib.Ieee.{Float, lt}
use Rattle.arith.specs.Notation.{plus_zero}
use Rattle.math.specs.declared.Interval.{Interval}
use Rattle.brep.specs.Tree.{CurveTree}
use Rattle.options.specs.declared.Mode.{Mode}
use Rattle.options.specs.declared.Resolved.{Resolved}
use Rattle.curve.specs.Eval.{point_at}
use Rattle.curve_asks.specs.Asks.{asks_far}
use Rattle.knots.specs.Knots.{deviation, curve_knots}
use Rattle.knots_breaks.specs.Breaks.{breaks_in}
use Rattle.knots_breaks.proofs.Laws.{breaks_none}
use Rattle.knots_thin.specs.Thin.{thin_asks, thinning_asks, break_asks}
use Rattle.edge_params.specs.Work.{Work, some_far, asking, within}
use Rattle.edge_params.specs.Params.{forming, bisecting}
use Rattle.edge_params.specs.Own.Counted.{counted}
use Rattle.edge_params.proofs.Asks.{some_far-none, within_asking, counted_forming}
use Rattle.edge_sample.specs.Sample.{sampler}
use Rattle.edge_count.specs.Own.Said.{range_counted}
use Rattle.refusal.specs.Answer.{Answer, each}
use Rattle.refusal.specs.declared.Refusal.TheVariants.{TooFar}

-- ---- a curve without knots has no breaks to thin
pub no_asks : (mode : Mode) (c : CurveTree) (lo hi sag : Float) → 0 ≡ length (curve_knots c) → break_asks mode c lo hi sag ≡ []
unfolding thinning_asks thin_asks
no_asks mode c lo hi sag e = ap (λ (bs : List Float). elim (lt plus_zero sag) [ true ↦ thin_asks (deviation (point_at c)) sag hi lo bs | false ↦ [] ]) (sym (breaks_none mode c lo hi e)) ∙ go (lt plus_zero sag)
  where
    go : (v : Bool) → ◌≡◌ {A = List Float} (elim v [ true ↦ [] | false ↦ [] ]) []
    go true = refl
    go false = refl

module _ (room : ℕ) (mode : Mode) (c : CurveTree) (range : Interval) (r : Resolved) where
  abbrev asks_of : List Float
  asks_of = break_asks mode c range.lo range.hi r.sag

  abbrev walk : Answer ℕ
  walk = counted (asks_far c) room 0 (bisecting (sampler mode c range r) range)

  -- ---- by what thin_far answered
  range_told : (v : Bool) → some_far (asks_far c) asks_of ≡ v → elim v [ true ↦ Err TooFar | false ↦ walk ] ≡ range_counted room mode c range r
  unfolding range_counted
  range_told v e = ap (λ (v : Bool). elim v [ true ↦ Err TooFar | false ↦ walk ]) (sym e)

  module _ {bs : List Float} (B : bs ≡ breaks_in mode c range.lo range.hi) {v : Bool}
      (F : v ≡ some_far (asks_far c) (thinning_asks c bs range.lo range.hi r.sag)) where
    told : v ≡ some_far (asks_far c) asks_of
    told =
        F ∙ ap (λ (l : List Float). some_far (asks_far c) (thinning_asks c l range.lo range.hi r.sag)) B

    pub range_far : v ≡ true → Err TooFar ≡ range_counted room mode c range r
    range_far e = range_told true (sym told ∙ e)

    pub range_near : v ≡ false → walk ≡ range_counted room mode c range r
    range_near e = range_told false (sym told ∙ e)

  pub range_plain : 0 ≡ length (curve_knots c) → walk ≡ range_counted room mode c range r
  range_plain e = range_told false (ap (some_far (asks_far c)) (no_asks mode c range.lo range.hi r.sag e) ∙ some_far-none (asks_far c))

  -- ---- THE LAW
  pub range_counted_lem : range_counted room mode c range r
      ≡ each length (within room (asking (asks_far c) (break_asks mode c range.lo range.hi r.sag) (forming (asks_far c) 0 (bisecting (sampler mode c range r) range))))
  range_counted_lem = sym (range_told (some_far (asks_far c) asks_of) refl) ∙ go (some_far (asks_far c) asks_of) ∙ sym (ap (each length) (within_asking (asks_far c) asks_of list room))
    where
      list : Work (List Float)
      list = forming (asks_far c) 0 (bisecting (sampler mode c range r) range)

      long : (x : Answer (List Float)) → each (λ (l : List Float). 0 + length l) x ≡ each length x
      long (Err n) = refl
      long (Ok l) = ap Ok (omega arith)

      go : (v : Bool) → elim v [ true ↦ Err TooFar | false ↦ walk ] ≡ each (length {A = Float}) (elim v [ true ↦ Err TooFar | false ↦ within room list ])
      go true = refl
      go false = counted_forming (asks_far c) room 0 (bisecting (sampler mode c range r) range) (omega arith) ∙ long (within room list)
