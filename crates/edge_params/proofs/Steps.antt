-- Even steps in a buffer: one more, one too many. Assumes nothing.
use Rattle.std.specs.Prelude.{Some, None}
use Rattle.std.proofs.Common.{◌≡◌, ℕ, zero, suc, ◌+◌, ◌<◌, ◌≤◌, ◌⊎◌, List, [], ◌∷◌, ◌++◌, length, set, sym, subst, inl, inr, eq-or-lt_of_le, add-one, arith}
use lib.Ieee.{Float}
use Rattle.math.specs.declared.Interval.{Interval}
use Rattle.edge_params.specs.Params.{step_at, steps, evenly}
use Rattle.edge_params.specs.Own.Written.{ListWritten}
use Rattle.edge_params.proofs.Written.{written_none, written_push, written_stop, written_full}

module _ (range : Interval) (n : ℕ) where
  pub steps_none : (out : List Float) → ListWritten out (steps range n 0) (Some 0) out
  unfolding steps
  steps_none out = written_none out

  module _ {out after : List Float} (i : ℕ) (h : ListWritten out (steps range n i) (Some i) after) where
    pub steps_push : (x : Float) → x ≡ step_at range n i → i < length out
        → ListWritten out (steps range n (i + 1)) (Some (i + 1)) (set after i x)
    unfolding steps
    steps_push x e l =
        subst (λ (k : ℕ). ListWritten out (steps range n k) (Some (i + 1)) (set after i x)) (sym (add-one i))
        (subst (λ (y : Float). ListWritten out (steps range n i ++ (y ∷ [])) (Some (i + 1)) (set after i x)) e (written_push x h l))

    pub steps_last : (x : Float) → x ≡ step_at range n i → i < length out → i ≡ n → ListWritten out (evenly range n) (Some (n + 1)) (set after i x)
    steps_last x e l q =
        subst (λ (k : ℕ). ListWritten out (steps range n k) (Some (n + 1)) (set after i x)) (add-one n)
        (subst (λ (k : ℕ). ListWritten out (steps range n (k + 1)) (Some (k + 1)) (set after i x)) q (steps_push x e l))

    -- the step number i has no room, and so none of the later ones
    steps_full : (k : ℕ) → i < k → length out ≤ i → ListWritten out (steps range n k) None after
    unfolding steps
    steps_full zero j l = absurd (omega arith)
    steps_full (suc k) j l = go (λ m. steps_full k m l) (eq-or-lt_of_le {n = i} {m = k} (omega arith))
      where
        go : (i < k → ListWritten out (steps range n k) None after) → (i ≡ k) ⊎ (i < k)
            → ListWritten out (steps range n k ++ (step_at range n k ∷ [])) None after
        go f (inl e) =
            subst (λ (m : ℕ). ListWritten out (steps range n m ++ (step_at range n m ∷ [])) None after) e
            (written_stop (step_at range n i) [] h l)
        go f (inr m) = written_full (step_at range n k ∷ []) (f m)

    pub steps_stop : i ≤ n → length out ≤ i → ListWritten out (evenly range n) None after
    steps_stop k l = steps_full (suc n) (omega arith) l
