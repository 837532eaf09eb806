-- `flagged` looks at the points of its chain alone. Assumes nothing.
use Rattle.std.specs.Prelude.{Option, Some, None, Err, Ok}
use mathlib.Core.Path.{◌≡◌, refl, ap, ◌∙◌}
use mathlib.Core.Bool.{false, true}
use mathlib.Core.List.{◌∷◌, ◌++◌}
use Prim.Native.Nat.{ℕ, zero, suc, ◌-◌, ◌<◌}
use native.Mathlib.Omega.{arith}
use lib.ListN.{set, replicate}
use lib.Ieee.{Float}
use Rattle.math.specs.declared.Vec3.{Vec3}
use Rattle.edge_thin_span.specs.Span.{decision}
use Rattle.edge_thin_span.proofs.Laws.{inside, decision_same}
use Rattle.edge_thin_mark.specs.Spans.{by_split, kept_in, marks, flagged}
use Rattle.refusal.specs.Answer.{Answer, each, both}

module _ (p q : ℕ → Vec3) (tolerance angle : Float) (n : ℕ) (same : (j : ℕ) → j < n → p j ≡ q j) where
  kept_same : (m a b : ℕ) → a < n → b < n → kept_in (decision p tolerance angle) m a b ≡ kept_in (decision q tolerance angle) m a b
  unfolding kept_in
  kept_same zero a b g h = refl
  kept_same (suc m) a b g h =
      ap (λ (d : Answer (Option ℕ)). by_split d (λ w. both (λ l r. w ∷ l ++ r) (kept_in (decision p tolerance angle) m a w) (kept_in (decision p tolerance angle) m w b)))
      (decision_same p q n same tolerance angle a b g h)
      ∙ go (decision q tolerance angle a b) refl
      (λ w e. let i = inside q tolerance angle a b w e in kept_same m a w g (omega arith))
      (λ w e. let i = inside q tolerance angle a b w e in kept_same m w b (omega arith) h)
    where
      go : (d : Answer (Option ℕ)) → decision q tolerance angle a b ≡ d
          → ((w : ℕ) → decision q tolerance angle a b ≡ Ok (Some w) → kept_in (decision p tolerance angle) m a w ≡ kept_in (decision q tolerance angle) m a w)
          → ((w : ℕ) → decision q tolerance angle a b ≡ Ok (Some w) → kept_in (decision p tolerance angle) m w b ≡ kept_in (decision q tolerance angle) m w b)
          → by_split d (λ w. both (λ l r. w ∷ l ++ r) (kept_in (decision p tolerance angle) m a w) (kept_in (decision p tolerance angle) m w b))
          ≡ by_split d (λ w. both (λ l r. w ∷ l ++ r) (kept_in (decision q tolerance angle) m a w) (kept_in (decision q tolerance angle) m w b))
      go (Ok None) e x y = refl
      go (Err n) e x y = refl
      go (Ok (Some w)) e x y = rw (x w e, y w e)

  pub flagged_same : 0 < n → flagged p tolerance angle n ≡ flagged q tolerance angle n
  unfolding flagged
  flagged_same h = ap (each (marks (set (set (replicate n false) 0 true) (n - 1) true))) (kept_same (n - 1 - 0) 0 (n - 1) h (omega arith))
