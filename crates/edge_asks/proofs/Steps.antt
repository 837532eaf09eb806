-- Even steps, one by one: whether one of them is too far. Assumes nothing.
use Rattle.std.proofs.Common.{◌≡◌, ℕ, zero, suc, ◌+◌, ◌-◌, ◌≤◌, Bool, true, false, ◌||◌, [], ◌∷◌, sym, refl, ◌∙◌, arith}
use lib.Ieee.{Float}
use Rattle.math.specs.declared.Interval.{Interval}
use Rattle.edge_params.specs.Work.{some_far}
use Rattle.edge_params.specs.Params.{step_at, steps, evenly}
use Rattle.edge_params.proofs.Asks.{some_far-++}

module _ (far : Float → Bool) (range : Interval) (n : ℕ) where
  -- none of no steps
  pub steps_none : some_far far (steps range n 0) ≡ false
  unfolding steps some_far
  steps_none = refl

  one_more : (k : ℕ) → some_far far (steps range n (suc k)) ≡ some_far far (steps range n k) || (far (step_at range n k) || false)
  unfolding steps some_far
  one_more k = some_far-++ far (steps range n k) (step_at range n k ∷ [])

  -- nor of one more that is not
  pub steps_passed : (k : ℕ) → some_far far (steps range n k) ≡ false → far (step_at range n k) ≡ false → some_far far (steps range n (suc k)) ≡ false
  steps_passed k h e = one_more k ∙ rw (h, e)

  -- one that is found stays found
  steps_found : (k d : ℕ) → far (step_at range n k) ≡ true → some_far far (steps range n (suc k + d)) ≡ true
  steps_found k zero e = let z : suc k + 0 ≡ suc k = omega arith in rw z (one_more k ∙ rw e (go (some_far far (steps range n k))))
    where
      go : (v : Bool) → v || true ≡ true
      go true = refl
      go false = refl
  steps_found k (suc d) e = let z : suc k + suc d ≡ suc (suc k + d) = omega arith in rw z (one_more (suc k + d) ∙ rw (steps_found k d e))

  pub evenly_found : (k : ℕ) → k ≤ n → far (step_at range n k) ≡ true → true ≡ some_far far (evenly range n)
  evenly_found k h e = let z : suc n ≡ suc k + (n - k) = omega arith in sym (rw z (steps_found k (n - k) e))
