-- `thin` as the Rust runs it: a stack of spans, of which the last pushed is taken first. It goes by the Rust's own tests, and nothing in it
-- refuses. Definitions only.
use Rattle.std.specs.Prelude.{◌≡◌, Bool, true, false, cond, ◌||◌, ◌⊎◌, List, [], ◌∷◌, ℕ, ◌+◌, ◌-◌, ◌<◌, ◌≤◌, leb, Float, length, set, replicate}
use Rattle.std.specs.Float.Ieee.{lt}
use Rattle.arith.specs.Notation.{plus_zero}
use Rattle.math.specs.declared.Vec3.{Vec3}
use Rattle.edge_record.specs.declared.Sample.{Sample}
use Rattle.edge_record.specs.Chain.{sample_point}
use Rattle.edge_thin_span.specs.Span.{worst_of, span_turn}
use Rattle.edge_thin.specs.Thin.{with_floor, retained_by}

-- where the loop stands: the spans (a, b) that are to be taken, the next one first, and the keep flags
pub record State : Type 0 where
  pub stack : List (ℕ × ℕ)
  pub keep : List Bool

-- a stack and flags as a state
abbrev pub state : List (ℕ × ℕ) → List Bool → State
state stack keep = record { stack = stack; keep = keep }

-- vec![false; n], with keep[0] = true and keep[n - 1] = true; stack = vec![(0, n - 1)]
abbrev pub begun : ℕ → State
begun n = state ((0, n - 1) ∷ []) (set (set (replicate n false) 0 true) (n - 1) true)

-- keep[w] = true
abbrev pub keeping : ℕ → State → State
keeping w s = state s.stack (set s.keep w true)

-- stack.push((a, b))
abbrev pub push : ℕ → ℕ → State → State
push a b s = state ((a, b) ∷ s.stack) s.keep

-- keep[w] = true; stack.push((a, w)); stack.push((w, b))
abbrev pub split_at : ℕ → ℕ → ℕ → State → State
split_at a b w s = push w b (push a w (keeping w s))

-- the body of the loop, for the span (a, b) that was popped: if b <= a + 1 { continue; }. Else, if worst.0 > tolerance || turn > angle,
-- it is split at worst.1, which is a itself where no distance is above zero
unfoldable pub body : (ℕ → Vec3) → Float → Float → ℕ → ℕ → State → State
body points tolerance angle a b s =
    cond (leb b (a + 1)) s
    (cond (lt tolerance (worst_of points a b).distance || lt angle (span_turn points a b))
    (split_at a b (worst_of points a b).index s)
    s)

-- while let Some((a, b)) = stack.pop(): what is reached after some turns. From an empty stack there is none: the loop has ended
pub data Reaches (points : ℕ → Vec3) (tolerance angle : Float) : State → State → Type 0 where
  here : {s : State} → Reaches points tolerance angle s s
  turn : {a b : ℕ} {stack : List (ℕ × ℕ)} {keep : List Bool} {s : State} → Reaches points tolerance angle (body points tolerance angle a b (state stack keep)) s
      → Reaches points tolerance angle (state ((a, b) ∷ stack) keep) s

-- the loop over n points ends, with these flags
abbrev pub LoopEnds : (ℕ → Vec3) → Float → Float → ℕ → List Bool → Type 0
LoopEnds points tolerance angle n keep = Reaches points tolerance angle (begun n) (state [] keep)

-- the whole of `thin` returns, and leaves these samples of a chain
pub data Returns (tolerance angle : Float) (floor : ℕ) (chain : List Sample) : List Sample → Type 0 where
  -- if points.len() < 3 || !(tolerance > 0.0) { return; }
  early : (length chain < 3) ⊎ (lt plus_zero tolerance ≡ false) → Returns tolerance angle floor chain chain
  -- else, where the loop ends: those that its flags and the segment floor keep
  late : {keep : List Bool} → 3 ≤ length chain → lt plus_zero tolerance ≡ true → LoopEnds (sample_point chain) tolerance angle (length chain) keep
      → Returns tolerance angle floor chain (retained_by (with_floor floor keep) chain)
