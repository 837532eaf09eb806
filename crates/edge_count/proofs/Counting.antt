-- A count of moves, by the tests that the code makes: one parameter more, and the ways out of is_halved and of the methods of Counter.
-- Assumes nothing.
use Rattle.std.specs.Prelude.{Option, ℕ, Some, None, Err, Ok}
use mathlib.Core.Path.{◌≡◌, refl, sym, ap, ◌∙◌}
use mathlib.Core.Bool.{Bool, true, false, not, not-not, cond}
use mathlib.Core.List.{List, [], ◌∷◌, ◌++◌, map}
use Prim.Native.Nat.{ℕ, suc, ◌+◌, ◌-◌, ◌≤◌, ◌<◌}
use native.Mathlib.Omega.{arith}
use native.Mathlib.Numerals.{add-one}
use lib.ListN.{length}
use lib.Dec.{eqb}
use lib.Ieee.{Float, ne}
use borrow.Author.Tests.{lt-ltb, le-ltb}
use Rattle.math.specs.declared.Interval.{Interval}
use Rattle.brep.specs.Tree.{CurveTree}
use Rattle.options.specs.declared.Resolved.{Resolved}
use Rattle.curve_asks.specs.Asks.{asks_far}
use Rattle.edge_params.specs.Params.{midpoint, Move, asks, adds, subdividing, unless_hi}
use Rattle.edge_params.specs.Own.Bisected.{subdivided}
use Rattle.edge_params.specs.Own.Counted.{counted}
use Rattle.edge_params.specs.Own.Written.{ListAppended}
use Rattle.edge_params.proofs.Asks.{counted_append}
use Rattle.edge_params.proofs.Written.{behind_count, behind_full}
use Rattle.edge_subdivide.specs.declared.End.{End}
use Rattle.edge_subdivide.specs.Bisect.{end_at, within_budget}
use Rattle.edge_subdivide.proofs.Laws.{end_t}
use Rattle.edge_sample.proofs.Walking.{not_hi, is_hi}
use Rattle.curve_prepared.specs.Own.PreparedCurve.{curve_of}
use Rattle.edge_count.specs.declared.Counter.{Counter}
use Rattle.refusal.specs.Answer.{Answer, bind}
use Rattle.refusal.specs.declared.Refusal.{Refusal}
use Rattle.refusal.specs.declared.Refusal.TheVariants.{NoRoom, TooFar}

-- ---- an answer, and what is counted behind it
module _ {x : Answer ℕ} (f : ℕ → Answer ℕ) where
  -- a refusal stands
  pub stands : {n : Refusal} → Err n ≡ x → Err n ≡ bind x f
  stands e = ap (λ (y : Answer ℕ). bind y f) e

  pub goes_on : {n : ℕ} → Ok n ≡ x → f n ≡ bind x f
  goes_on e = ap (λ (y : Answer ℕ). bind y f) e

-- ---- a move
module _ (far : Float → Bool) (room k : ℕ) (t : Float) where
  pub one_fits : k < room → Ok (k + 1) ≡ counted far room k (adds t ∷ [])
  unfolding counted
  one_fits h = sym (rw (lt-ltb k room h, counted, add-one k))

  pub one_over : room ≤ k → Err NoRoom ≡ counted far room k (adds t ∷ [])
  unfolding counted
  one_over h = sym (rw (le-ltb k room h, counted))

  ask_far : (l : List Move) → far t ≡ true → Err TooFar ≡ counted far room k (asks t ∷ l)
  unfolding counted
  ask_far l e = sym (rw (e, counted))

  ask_near : (l : List Move) → far t ≡ false → counted far room k l ≡ counted far room k (asks t ∷ l)
  unfolding counted
  ask_near l e = sym (rw (e, counted))

-- some moves, a parameter more, some moves
counted_three : (far : Float → Bool) (room k : ℕ) (a : List Move) (t : Float) (b : List Move)
    → bind (counted far room k a) (λ (n : ℕ). bind (counted far room n (adds t ∷ [])) (λ (p : ℕ). counted far room p b)) ≡ counted far room k (a ++ adds t ∷ b)
counted_three far room k a t b = go (counted far room k a) ∙ sym (counted_append far room k a (adds t ∷ b))
  where
    go : (x : Answer ℕ) → bind x (λ (n : ℕ). bind (counted far room n (adds t ∷ [])) (λ (p : ℕ). counted far room p b)) ≡ bind x (λ (n : ℕ). counted far room n (adds t ∷ b))
    go (Err n) = refl
    go (Ok n) = sym (counted_append far room n (adds t ∷ []) b)

-- ---- bisection of a span
module _ (within : Float → Float → Bool) (depth : ℕ) (a b : Float) where
  -- the first half; the middle and the other half
  left : List Move
  left = subdividing within (depth - 1) a (midpoint a b)

  right : List Move
  right = adds (midpoint a b) ∷ subdividing within (depth - 1) (midpoint a b) b

  -- what follows the three asks, by the test
  abbrev after : Bool → List Move
  after v = elim v [ true ↦ [] | false ↦ left ++ right ]

  opened : (depth ≡ 0 → ⊥) → asks a ∷ asks b ∷ asks (midpoint a b) ∷ after (within a b) ≡ subdividing within depth a b
  unfolding subdividing left right
  opened deep =
      let d : suc (depth - 1) ≡ depth = omega arith in
      ap (λ (n : ℕ). subdividing within n a b) d

module _ (far : Float → Bool) (within : Float → Float → Bool) (depth : ℕ) (a b : Float) (room k : ℕ) where
  abbrev all : Answer ℕ
  all = counted far room k (subdividing within depth a b)

  pub at_end : depth ≡ 0 → Ok k ≡ all
  unfolding subdividing counted
  at_end h = rw h

  abbrev next : List Move
  next = after within depth a b (within a b)

  module _ (deep : depth ≡ 0 → ⊥) where
    begun : counted far room k (asks a ∷ asks b ∷ asks (midpoint a b) ∷ next) ≡ all
    begun = ap (counted far room k) (opened within depth a b deep)

    pub at_left : far a ≡ true → Err TooFar ≡ all
    at_left f = ask_far far room k a (asks b ∷ asks (midpoint a b) ∷ next) f ∙ begun

    module _ (fa : far a ≡ false) where
      past_left : counted far room k (asks b ∷ asks (midpoint a b) ∷ next) ≡ all
      past_left = ask_near far room k a (asks b ∷ asks (midpoint a b) ∷ next) fa ∙ begun

      pub at_right : far b ≡ true → Err TooFar ≡ all
      at_right f = ask_far far room k b (asks (midpoint a b) ∷ next) f ∙ past_left

      module _ (fb : far b ≡ false) where
        past_right : counted far room k (asks (midpoint a b) ∷ next) ≡ all
        past_right = ask_near far room k b (asks (midpoint a b) ∷ next) fb ∙ past_left

        at_middle : far (midpoint a b) ≡ true → Err TooFar ≡ all
        at_middle f = ask_far far room k (midpoint a b) next f ∙ past_right

        past_middle : far (midpoint a b) ≡ false → (v : Bool) → within a b ≡ v → counted far room k (after within depth a b v) ≡ all
        past_middle f v e =
            ap (λ (v : Bool). counted far room k (after within depth a b v)) (sym e) ∙ ask_near far room k (midpoint a b) next f ∙ past_right

-- ---- the ways out of is_halved: the list that a depth of one makes of a span, in a buffer of one place
module _ (within : Float → Float → Bool) (a b : Float) {out after : List Float} (room : length out ≡ 1) {w : Option ℕ}
    (h : ListAppended out 0 (subdivided within 1 a b) w after) where
  -- the middle, or nothing
  long : length (subdivided within 1 a b) ≡ cond (within a b) 0 1
  unfolding subdivided
  long = go (within a b)
    where
      go : (v : Bool) → length {A = Float} (elim v [ true ↦ [] | false ↦ midpoint a b ∷ [] ]) ≡ cond v 0 1
      go true = refl
      go false = refl

  pub not_refused : w ≡ None → ⊥
  not_refused e = go (within a b) (rw long at (behind_full out 0 (subdivided within 1 a b) after h (omega arith) e))
    where
      go : (v : Bool) → length out < 0 + cond v 0 1 → ⊥
      go true g = omega arith
      go false g = omega arith

  pub is_halved : {n : ℕ} → w ≡ Some n → not (eqb n 0) ≡ not (within a b)
  is_halved {n} e = go (within a b) (behind_count out 0 (subdivided within 1 a b) after h (omega arith) n e ∙ ap (λ (i : ℕ). 0 + i) long)
    where
      go : (v : Bool) → n ≡ 0 + cond v 0 1 → not (eqb n 0) ≡ not v
      go true g = rw g
      go false g = rw g

-- ---- the curve's end at a parameter that is not too far
pub end_near : (c : CurveTree) (x : Float) (m : End) → m ≡ end_at c x → {v : Bool} → v ≡ asks_far c x → v ≡ false → asks_far c m.t ≡ false
end_near c x m M F near = ap (asks_far c) (end_t c x m M) ∙ sym F ∙ near

-- ---- what a count asks of its curve
abbrev pub far_of : Counter → Float → Bool
far_of o = asks_far (curve_of o.bisection.curve)

abbrev pub budget_of : Counter → Float → Float → Bool
budget_of o = within_budget (curve_of o.bisection.curve) o.bisection.limits.options

-- ---- the ways out of Counter::subdivided
module _ (o : Counter) (depth : ℕ) (a b : End) (fa : far_of o a.t ≡ false) (fb : far_of o b.t ≡ false) (k : ℕ) where
  abbrev span : Answer ℕ
  span = all (far_of o) (budget_of o) depth a.t b.t o.room k

  module _ (deep : depth ≡ 0 → ⊥) {v : Bool} (F : v ≡ far_of o (midpoint a.t b.t)) where
    pub out_far : v ≡ true → Err TooFar ≡ span
    out_far e = at_middle (far_of o) (budget_of o) depth a.t b.t o.room k deep fa fb (sym F ∙ e)

    module _ (near : v ≡ false) {w : Bool} (W : w ≡ not (budget_of o a.t b.t)) where
      told : budget_of o a.t b.t ≡ not w
      told = sym (ap not W ∙ not-not (budget_of o a.t b.t))

      -- counted on, by the test
      on : (v : Bool) → budget_of o a.t b.t ≡ v → counted (far_of o) o.room k (after (budget_of o) depth a.t b.t v) ≡ span
      on = past_middle (far_of o) (budget_of o) depth a.t b.t o.room k deep fa fb (sym F ∙ near)

      pub out_within : not w ≡ true → Ok k ≡ span
      unfolding counted
      out_within e = on true (told ∙ e)

      -- the first half, the middle, the other half
      module _ (split : not w ≡ false) (m : End) (M : m ≡ end_at (curve_of o.bisection.curve) (midpoint a.t b.t)) where
        abbrev first : Answer ℕ
        first = counted (far_of o) o.room k (subdividing (budget_of o) (depth - 1) a.t m.t)

        abbrev middle : ℕ → Answer ℕ
        middle n = counted (far_of o) o.room n (adds m.t ∷ [])

        abbrev second : ℕ → Answer ℕ
        second p = counted (far_of o) o.room p (subdividing (budget_of o) (depth - 1) m.t b.t)

        abbrev behind : ℕ → Answer ℕ
        behind n = bind (middle n) second

        halves : bind first behind ≡ span
        unfolding left right
        halves =
            rw (end_t (curve_of o.bisection.curve) (midpoint a.t b.t) m M)
            (counted_three (far_of o) o.room k (subdividing (budget_of o) (depth - 1) a.t (midpoint a.t b.t)) (midpoint a.t b.t)
            (subdividing (budget_of o) (depth - 1) (midpoint a.t b.t) b.t)
            ∙ on false (told ∙ split))

        pub first_refused : {i : Refusal} → Err i ≡ first → Err i ≡ span
        first_refused q = stands behind q ∙ halves

        module _ {n : ℕ} (N : Ok n ≡ first) where
          pub middle_refused : {i : Refusal} → Err i ≡ middle n → Err i ≡ span
          middle_refused q = stands second q ∙ goes_on behind N ∙ halves

          pub both_counted : {p : ℕ} → Ok p ≡ middle n → {x : Answer ℕ} → x ≡ second p → x ≡ span
          both_counted P X = X ∙ goes_on second P ∙ goes_on behind N ∙ halves

-- ---- the ways out of Counter::span
-- what bisection puts inside a span, then its end
abbrev pub span_moves : CurveTree → Interval → Resolved → ℕ → Float → Float → List Move
span_moves c range r depth a b = subdividing (within_budget c r) depth a b ++ map adds (unless_hi range b)

module _ (o : Counter) (a b : Float) (k : ℕ) where
  -- what it answers
  abbrev answer : Answer ℕ
  answer = counted (far_of o) o.room k (span_moves (curve_of o.bisection.curve) o.range o.bisection.limits.options o.bisection.limits.options.depth a b)

  abbrev inside : Answer ℕ
  inside = all (far_of o) (budget_of o) o.bisection.limits.options.depth a b o.room k

  abbrev ended : ℕ → Answer ℕ
  ended n = counted (far_of o) o.room n (map adds (unless_hi o.range b))

  joined : bind inside ended ≡ answer
  joined = sym (counted_append (far_of o) o.room k (subdividing (budget_of o) o.bisection.limits.options.depth a b) (map adds (unless_hi o.range b)))

  pub span_refused : {n : Refusal} → Err n ≡ inside → Err n ≡ answer
  span_refused e = stands ended e ∙ joined

  module _ {n : ℕ} (e : Ok n ≡ inside) where
    pub span_more : ne b o.range.hi ≡ true → {x : Answer ℕ} → x ≡ counted (far_of o) o.room n (adds b ∷ []) → x ≡ answer
    span_more h X = X ∙ ap (λ (l : List Float). counted (far_of o) o.room n (map adds l)) (not_hi o.range b h) ∙ goes_on ended e ∙ joined

    pub span_hi : ne b o.range.hi ≡ false → Ok n ≡ answer
    unfolding counted
    span_hi h = ap (λ (l : List Float). counted (far_of o) o.room n (map adds l)) (is_hi o.range b h) ∙ goes_on ended e ∙ joined
