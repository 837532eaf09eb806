-- The walk of `mark` by the decisions of `edge_thin_span`, from flags that are all false to those of `flagged`. Assumes nothing.
use Rattle.std.specs.Prelude.{Ok}
use mathlib.Core.Path.{◌≡◌, sym, ap, ◌∙◌}
use mathlib.Core.Bool.{Bool, true, false}
use mathlib.Core.List.{List}
use Prim.Native.Nat.{ℕ, ◌+◌, ◌-◌, ◌<◌, ◌≤◌}
use native.Mathlib.Omega.{arith}
use lib.ListN.{length, get_or, set, drop, replicate, length-drop}
use lib.Seq.{get_or-drop}
use Rattle.std.specs.List.{AllWithin, HoldsAt}
use lib.Ieee.{Float}
use Rattle.edge_record.specs.Own.Stored.{record_point}
use Rattle.edge_thin_span.specs.Span.{decision}
use Rattle.edge_thin_span.proofs.Laws.{narrow, inside}
use Rattle.edge_thin_mark.specs.Spans.{flagged}
use Rattle.edge_thin_mark.specs.Own.Flags.{FirstKept}
use Rattle.edge_thin_mark.proofs.Walk.{Splits, Standing, Turn, begin, turn, done}

-- ---- the search for the next flag, among those from `from` on
module _ (keep : List Bool) (from : ℕ) (fits : from ≤ length keep) where
  abbrev pub rest : List Bool
  rest = drop from keep

  pub found_at : (i : ℕ) → (i < length rest) × HoldsAt (λ b. b ≡ true) rest i × AllWithin (λ b. b ≡ false) rest 0 i → FirstKept keep from (from + i)
  found_at i h =
      let l = length-drop from keep in
      record {
        after = omega arith;
        within = omega (arith, h.0);
        clear = λ j k g.
            let e : from + (j - from) ≡ j = omega arith in
            ap (λ (n : ℕ). get_or keep n false) (sym e) ∙ sym (get_or-drop from keep (j - from) false) ∙ h.2 (j - from) false (omega arith) (omega arith);
        here = λ k. sym (get_or-drop from keep i false) ∙ h.1 false;
      }

  pub found_none : AllWithin (λ b. b ≡ false) rest 0 (length rest) → FirstKept keep from (length keep)
  found_none h =
      let l = length-drop from keep in
      record {
        after = fits;
        within = omega arith;
        clear = λ j k g.
            let e : from + (j - from) ≡ j = omega arith in
            ap (λ (n : ℕ). get_or keep n false) (sym e) ∙ sym (get_or-drop from keep (j - from) false) ∙ h (j - from) false (omega arith) (omega arith);
        here = λ k. absurd (omega arith);
      }

-- ---- the walk
module _ (chain : List Float) (tolerance angle : Float) where
  pub decides : Splits (decision (record_point chain) tolerance angle)
  decides = record { narrow = narrow (record_point chain) tolerance angle; inside = inside (record_point chain) tolerance angle }

  -- where the walk stands, with n flags
  abbrev pub Marking : ℕ → List Bool → ℕ → Type 0
  Marking n keep a = Standing (decision (record_point chain) tolerance angle) (n - 1) (flagged (record_point chain) tolerance angle n) keep a

  pub marking_none : (k : List Bool) → 1 < length k → k ≡ replicate (length k) false → Marking (length k) (set (set k 0 true) (length k - 1) true) 0
  unfolding flagged
  marking_none k h e = begin decides k (omega arith) (omega arith) e (rw (sym e))

  pub marking_done : (n : ℕ) (keep : List Bool) (a : ℕ) → Marking n keep a → n - 1 ≤ a → Ok keep ≡ flagged (record_point chain) tolerance angle n
  marking_done n keep a s h = done decides h s

  -- a turn of the walk
  abbrev pub Turning : ℕ → List Bool → ℕ → ℕ → Type 0
  Turning n keep a b = Turn (decision (record_point chain) tolerance angle) (n - 1) (flagged (record_point chain) tolerance angle n) keep a b

  pub turning : (n : ℕ) (keep : List Bool) (a b : ℕ) → Marking n keep a → a < n - 1 → n - 1 < length keep → FirstKept keep (a + 1) b → Turning n keep a b
  turning n keep a b s h g f = turn decides s h g f
