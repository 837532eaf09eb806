-- Cause 9: a span reached in `thin` that the reference splits, for its turn or for a sag below zero, while no distance in it is above zero.
-- Definitions only.
use Rattle.std.specs.Prelude.{◌≡◌, Bool, true, false, ◌||◌, List, ◌∷◌, ℕ, ◌+◌, ◌<◌, ◌≤◌, Float, length}
use Rattle.std.specs.Float.Ieee.{lt}
use Rattle.arith.specs.Notation.{plus_zero}
use Rattle.math.specs.declared.Vec3.{Vec3}
use Rattle.math.specs.Math.{v_sub, v_length_squared}
use Rattle.math_chord.specs.Chord.{span_distance}
use Rattle.edge_record.specs.declared.Sample.{Sample}
use Rattle.edge_record.specs.Chain.{sample_point}
use Rattle.edge_thin_span.specs.Span.{span_turn}
use Rattle.edge_thin_loop.specs.Loop.{State, state, begun, Reaches}

-- how far point i is from the chord of the span from a to b
abbrev pub distance_in : (ℕ → Vec3) → ℕ → ℕ → ℕ → Float
distance_in points a b i = span_distance (points a) (v_sub (points b) (points a)) (v_length_squared (v_sub (points b) (points a))) (points i)

-- the span from a to b is split without end
pub record EndlessSpan (points : ℕ → Vec3) (tolerance angle : Float) (a b : ℕ) : Type 0 where
  -- it has points inside
  pub inside : a + 1 < b
  -- it is split, for its turn or for a tolerance below 0.0, its largest distance
  pub splits : lt tolerance plus_zero || lt angle (span_turn points a b) ≡ true
  -- no distance in it is above zero
  pub none : (i : ℕ) → a < i → i < b → lt plus_zero (distance_in points a b i) ≡ false

-- from a state, the loop comes to such a span as the next one
pub record ReachesEndless (points : ℕ → Vec3) (tolerance angle : Float) (s : State) : Type 0 where
  pub a : ℕ
  pub b : ℕ
  pub stack : List (ℕ × ℕ)
  pub keep : List Bool
  pub reached : Reaches points tolerance angle s (state ((a, b) ∷ stack) keep)
  pub endless : EndlessSpan points tolerance angle a b

-- `thin` comes to one: the chain has three samples or more, the tolerance is above zero, and the loop over its points does
pub record ThinEndless (tolerance angle : Float) (chain : List Sample) : Type 0 where
  pub three : 3 ≤ length chain
  pub above : lt plus_zero tolerance ≡ true
  pub reaches : ReachesEndless (sample_point chain) tolerance angle (begun (length chain))
