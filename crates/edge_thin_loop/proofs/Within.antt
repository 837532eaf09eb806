-- A span that the loop takes ends at one of the points, and each point has a flag. Assumes nothing.
use Rattle.std.specs.Prelude.{Option, Some, None, Err, Ok}
use mathlib.Core.Path.{◌≡◌, refl, sym, ap, subst, ◌∙◌}
use mathlib.Core.Bool.{Bool, true, false}
use mathlib.Core.List.{List, ◌∷◌}
use Prim.Native.Nat.{ℕ, ◌-◌, ◌<◌}
use native.Mathlib.Omega.{arith}
use lib.Ieee.{Float}
use lib.ListN.{length, set, replicate, length-set, length-replicate}
use Rattle.base_lists.specs.All.{All, none, more}
use Rattle.math.specs.declared.Vec3.{Vec3}
use Rattle.refusal.specs.Answer.{Answer}
use Rattle.edge_thin_span.specs.Span.{decision}
use Rattle.edge_thin_span.proofs.Laws.{inside, nine}
use Rattle.edge_thin_loop.specs.Loop.{State, state, begun, Reaches, here, turn}
use Rattle.edge_thin_loop.proofs.Span.{refused_endless}
use Rattle.edge_thin_loop.proofs.Turns.{body_by, body_by_lem}

module _ (points : ℕ → Vec3) (tolerance angle : Float) (n : ℕ) where
  -- each span ends at one of n points, and each has a flag
  record Within (s : State) : Type 0 where
    pub spans : All (λ (p : ℕ × ℕ). p.1 < n) s.stack
    pub flags : length s.keep ≡ n

  after : (d : Answer (Option ℕ)) (a b : ℕ) (s : State) → decision points tolerance angle a b ≡ d → b < n → Within s → Within (body_by d a b s)
  after (Ok None) a b s e h w = w
  after (Ok (Some i)) a b s e h w =
      let j = inside points tolerance angle a b i e in
      record { spans = more h (more {a = (a, i)} (omega arith) w.spans); flags = length-set s.keep i true ∙ w.flags }
  after (Err n) a b s e h w =
      let j = (refused_endless points tolerance angle a b (e ∙ ap Err (nine points tolerance angle a b n e))).inside in
      record { spans = more h (more {a = (a, a)} (omega arith) w.spans); flags = length-set s.keep a true ∙ w.flags }

  stays : {s t : State} → Reaches points tolerance angle s t → Within s → Within t
  stays here w = w
  stays (turn {a = a} {b = b} {stack = stack} {keep = keep} p) w =
      stays p (subst Within (sym (body_by_lem points tolerance angle a b (state stack keep) refl)) (go w.spans))
    where
      go : All (λ (p : ℕ × ℕ). p.1 < n) ((a, b) ∷ stack) → Within (body_by (decision points tolerance angle a b) a b (state stack keep))
      go (more h r) = after (decision points tolerance angle a b) a b (state stack keep) refl h (record { spans = r; flags = w.flags })

  pub within : (a b : ℕ) (stack : List (ℕ × ℕ)) (keep : List Bool) → 0 < n → Reaches points tolerance angle (begun n) (state ((a, b) ∷ stack) keep) → (b < n) × (length keep ≡ n)
  within a b stack keep h p = let w = stays p start in (go w.spans, w.flags)
    where
      start : Within (begun n)
      start = record {
        spans = more {a = (0, n - 1)} (omega arith) none;
        flags = length-set (set (replicate n false) 0 true) (n - 1) true ∙ length-set (replicate n false) 0 true ∙ length-replicate n false;
      }

      go : All (λ (p : ℕ × ℕ). p.1 < n) ((a, b) ∷ stack) → b < n
      go (more h r) = h
