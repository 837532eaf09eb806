-- What the walk over the spans asks of a decision. Assumes nothing.
use Rattle.std.specs.Prelude.{Option, Some, None, Err, Ok}
use mathlib.Core.Path.{◌≡◌, refl, sym}
use mathlib.Core.Bool.{Bool, true, false, cond, ◌||◌}
use mathlib.Core.Logic.{◌⊎◌, inl, inr, ⊎_elim}
use Prim.Native.Nat.{ℕ, zero, suc, ◌+◌, ◌-◌, ◌<◌, ◌≤◌}
use native.Mathlib.Omega.{arith}
use lib.Dec.{leb, eqb}
use lib.Ieee.{Float, lt}
use borrow.Author.Tests.{le-leb, leb-false, eqb-false}
use Rattle.arith.specs.Notation.{plus_zero}
use Rattle.math.specs.declared.Vec3.{Vec3}
use Rattle.math.specs.Math.{v_sub, v_length_squared}
use Rattle.math_chord.specs.Chord.{span_distance}
use Rattle.edge_thin_span.specs.declared.Worst.{Worst}
use Rattle.refusal.specs.Answer.{Answer}
use Rattle.refusal.specs.declared.Refusal.{Refusal}
use Rattle.refusal.specs.declared.Refusal.TheVariants.{Endless}
use Rattle.edge_thin_span.specs.Span.{worse, worst_from, worst_of, directions, span_turn, decision}
use Rattle.edge_thin_span.proofs.Loops.{worst_is}

-- ---- the worst index is the span's start, or inside
abbrev In : ℕ → ℕ → ℕ → Type 0
In a b i = (i ≡ a) ⊎ ((a < i) × (i < b))

worse_in : (a i : ℕ) (w : Worst) (d : Float) → a < i → In a i w.index → In a (suc i) (worse w d i).index
worse_in a i w d g h = go (lt w.distance d)
  where
    go : (v : Bool) → In a (suc i) (cond v (worst_is d i) w).index
    go true = inr (g, omega arith)
    go false = ⊎_elim inl (λ p. inr (p.0, omega arith)) h

worst_in : (points : ℕ → Vec3) (pa axis : Vec3) (n i a : ℕ) (w : Worst) → a < i → In a i w.index → In a (i + n) (worst_from points pa axis n i w).index
unfolding worst_from
worst_in points pa axis zero i a w g h = ⊎_elim inl (λ p. inr (p.0, omega arith)) h
worst_in points pa axis (suc n) i a w g h =
    let q : suc i + n ≡ i + suc n = omega arith in
    rw (sym q) (worst_in points pa axis n (suc i) a _ (omega arith) (worse_in a i w (span_distance pa axis (v_length_squared axis) (points i)) g h))

-- ---- the decision
module _ (points : ℕ → Vec3) (tolerance angle : Float) where
  pub narrow : (a b : ℕ) → b ≤ a + 1 → decision points tolerance angle a b ≡ Ok None
  unfolding decision
  narrow a b h = rw (le-leb b (a + 1) h)

  pub inside : (a b w : ℕ) → decision points tolerance angle a b ≡ Ok (Some w) → (a < w) × (w < b)
  unfolding decision worst_of
  inside a b w e =
      go (leb b (a + 1)) (lt tolerance (worst_of points a b).distance || lt angle (span_turn points a b)) (eqb (worst_of points a b).index a) refl refl e
    where
      go : (x y z : Bool) → leb b (a + 1) ≡ x → eqb (worst_of points a b).index a ≡ z → ◌≡◌ {A = Answer (Option ℕ)} (cond x (Ok None) (cond y (cond z (Err Endless) (Ok (Some (worst_of points a b).index))) (Ok None))) (Ok (Some w)) → (a < w) × (w < b)
      go true y z p r q = cc
      go false false z p r q = cc
      go false true true p r q = cc
      go false true false p r q =
          let l = leb-false b (a + 1) p in
          let m : (worst_of points a b).index ≡ w = cc in
          ⊎_elim (λ s. absurd (eqb-false (worst_of points a b).index a r s)) (λ s. (omega arith, omega arith))
          (worst_in points (points a) (v_sub (points b) (points a)) (b - (a + 1)) (a + 1) a (worst_is plus_zero a) (omega arith) (inl refl))

  -- 9 is its only refusal
  pub nine : (a b : ℕ) (k : Refusal) → decision points tolerance angle a b ≡ Err k → k ≡ Endless
  unfolding decision
  nine a b k = go (leb b (a + 1)) (lt tolerance (worst_of points a b).distance || lt angle (span_turn points a b)) (eqb (worst_of points a b).index a)
    where
      go : (x y z : Bool) → ◌≡◌ {A = Answer (Option ℕ)} (cond x (Ok None) (cond y (cond z (Err Endless) (Ok (Some (worst_of points a b).index))) (Ok None))) (Err k) → k ≡ Endless
      go true y z q = cc
      go false false z q = cc
      go false true true q = cc
      go false true false q = cc

-- ---- the decision looks at the points of its span alone
module _ (p q : ℕ → Vec3) (n : ℕ) (same : (j : ℕ) → j < n → p j ≡ q j) where
  worst_same : (pa axis : Vec3) (m i : ℕ) (w : Worst) → i + m ≤ n → worst_from p pa axis m i w ≡ worst_from q pa axis m i w
  unfolding worst_from
  worst_same pa axis zero i w h = refl
  worst_same pa axis (suc m) i w h = rw (same i (omega arith)) (worst_same pa axis m (suc i) _ (omega arith))

  directions_same : (m a : ℕ) → a + m < n → directions p m a ≡ directions q m a
  unfolding directions
  directions_same zero a h = refl
  directions_same (suc m) a h = rw (same (suc a) (omega arith), same a (omega arith), directions_same m (suc a) (omega arith))

  pub decision_same : (tolerance angle : Float) (a b : ℕ) → a < n → b < n → decision p tolerance angle a b ≡ decision q tolerance angle a b
  unfolding decision worst_of span_turn
  decision_same tolerance angle a b g h = rw (
    same a g,
    same b h,
    worst_same (q a) (v_sub (q b) (q a)) (b - (a + 1)) (a + 1) (worst_is plus_zero a) (omega arith),
    directions_same (b - a) a (omega arith),
  )
