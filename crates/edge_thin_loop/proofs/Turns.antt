-- A turn of the loop by the decision about its span, and what follows of the states that are reached. Assumes nothing.
use Rattle.std.specs.Prelude.{Option, Some, None, Err, Ok}
use mathlib.Core.Path.{◌≡◌, refl, sym, ap, subst, ◌∙◌}
use mathlib.Core.Bool.{Bool, true, false, cond, ◌||◌}
use mathlib.Core.Logic.{◌⊎◌, inl, inr}
use mathlib.Core.List.{List, [], ◌∷◌}
use Prim.Native.Nat.{ℕ, ◌+◌}
use lib.Dec.{eqb, leb}
use lib.Ieee.{Float, lt}
use borrow.Author.Tests.{eqb-true}
use Rattle.math.specs.declared.Vec3.{Vec3}
use Rattle.refusal.specs.Answer.{Answer}
use Rattle.refusal.specs.declared.Refusal.TheVariants.{Endless}
use Rattle.edge_thin_span.specs.Span.{worst_of, span_turn, decision}
use Rattle.edge_thin_loop.specs.Loop.{State, state, split_at, body, Reaches, here, turn}

-- what the body does, by the decision: where that refuses, the span is split at its own start
abbrev pub body_by : Answer (Option ℕ) → ℕ → ℕ → State → State
body_by (Ok None) a b s = s
body_by (Ok (Some w)) a b s = split_at a b w s
body_by (Err n) a b s = split_at a b a s

module _ (points : ℕ → Vec3) (tolerance angle : Float) where
  abbrev Goes : State → State → Type 0
  Goes = Reaches points tolerance angle

  pub body_by_lem : {d : Answer (Option ℕ)} (a b : ℕ) (s : State) → decision points tolerance angle a b ≡ d → body points tolerance angle a b s ≡ body_by d a b s
  unfolding body decision
  body_by_lem a b s e =
      go (leb b (a + 1)) (lt tolerance (worst_of points a b).distance || lt angle (span_turn points a b)) (eqb (worst_of points a b).index a) refl
      ∙ ap (λ (x : Answer (Option ℕ)). body_by x a b s) e
    where
      go : (x y z : Bool) → eqb (worst_of points a b).index a ≡ z
          → cond x s (cond y (split_at a b (worst_of points a b).index s) s) ≡ body_by (cond x (Ok None) (cond y (cond z (Err Endless) (Ok (Some (worst_of points a b).index))) (Ok None))) a b s
      go true y z q = refl
      go false false z q = refl
      go false true false q = refl
      go false true true q = ap (λ (w : ℕ). split_at a b w s) (eqb-true (worst_of points a b).index a q)

  -- one turn, by the decision
  pub one_turn : {d : Answer (Option ℕ)} (a b : ℕ) (stack : List (ℕ × ℕ)) (keep : List Bool) → decision points tolerance angle a b ≡ d → Goes (state ((a, b) ∷ stack) keep) (body_by d a b (state stack keep))
  one_turn {d} a b stack keep e =
      turn (subst (λ (s : State). Goes s (body_by d a b (state stack keep))) (sym (body_by_lem a b (state stack keep) e)) here)

  pub then : {s t u : State} → Goes s t → Goes t u → Goes s u
  then here q = q
  then (turn p) q = turn (then p q)

  -- of two states reached one reaches the other
  pub either : {s t u : State} → Goes s t → Goes s u → (Goes t u) ⊎ (Goes u t)
  either here q = inl q
  either (turn p) here = inr (turn p)
  either (turn p) (turn q) = either p q

  -- from an empty stack there is no turn
  pub over : {s t : State} → Goes s t → s.stack ≡ [] → s ≡ t
  over here e = refl
  over (turn p) e = cc

  -- a span (a, b) is the next one
  pub record Next (a b : ℕ) (s : State) : Type 0 where
    pub rest : List (ℕ × ℕ)
    pub is : s.stack ≡ (a, b) ∷ rest

  -- the stack after one turn
  abbrev stack_after : List Bool → List (ℕ × ℕ) → List (ℕ × ℕ)
  stack_after keep [] = []
  stack_after keep (p ∷ stack) = (body points tolerance angle p.0 p.1 (state stack keep)).stack

  -- a span that is refused is the next one for ever
  pub for_ever : (a b : ℕ) → decision points tolerance angle a b ≡ Err Endless → {s t : State} → Goes s t → Next a b s → Next a b t
  for_ever a b d here o = o
  for_ever a b d (turn {keep = keep} p) o =
      for_ever a b d p (record {
        rest = (a, a) ∷ o.rest;
        is = ap (stack_after keep) o.is ∙ ap (λ (s : State). s.stack) (body_by_lem a b (state o.rest keep) d);
      })
