-- A span is refused exactly where it is endless. Assumes nothing.
use Rattle.std.specs.Prelude.{Option, Some, None, Err, Ok}
use mathlib.Core.Path.{◌≡◌, refl, sym, ap, ◌∙◌}
use mathlib.Core.Bool.{Bool, true, false, cond, ◌||◌}
use Prim.Native.Nat.{ℕ, zero, suc, ◌+◌, ◌-◌, ◌<◌, ◌≤◌}
use native.Mathlib.Omega.{arith}
use lib.Dec.{eqb, leb}
use lib.Ieee.{Float, lt}
use borrow.Author.Tests.{eqb-true, eqb-false, eq-eqb, leb-false, lt-leb}
use Rattle.arith.specs.Notation.{plus_zero}
use Rattle.math.specs.declared.Vec3.{Vec3}
use Rattle.math.specs.Math.{v_sub, v_length_squared}
use Rattle.math_chord.specs.Chord.{span_distance}
use Rattle.edge_thin_span.specs.Span.{worst_from, worst_of, span_turn, decision}
use Rattle.edge_thin_span.proofs.Loops.{worst_is}
use Rattle.refusal.specs.Answer.{Answer}
use Rattle.refusal.specs.declared.Refusal.TheVariants.{Endless}
use Rattle.edge_thin_loop.specs.Endless.{distance_in, EndlessSpan}

-- ---- the search for the worst point, from i on
module _ (points : ℕ → Vec3) (pa axis : Vec3) (a : ℕ) where
  abbrev far : ℕ → Float
  far i = span_distance pa axis (v_length_squared axis) (points i)

  -- no distance of n points from i on is larger than d
  abbrev NoneAbove : Float → ℕ → ℕ → Type 0
  NoneAbove d n i = (j : ℕ) → i ≤ j → j < i + n → lt d (far j) ≡ false

  -- an index after a is not replaced by a
  stays : (n i : ℕ) (d : Float) (at : ℕ) → a < at → a < i → a < (worst_from points pa axis n i (worst_is d at)).index
  unfolding worst_from
  stays zero i d at h k = h
  stays (suc n) i d at h k = go (lt d (far i)) (stays n (suc i) (far i) i k (omega arith)) (stays n (suc i) d at h (omega arith))
    where
      go : (b : Bool) → a < (worst_from points pa axis n (suc i) (worst_is (far i) i)).index → a < (worst_from points pa axis n (suc i) (worst_is d at)).index
          → a < (worst_from points pa axis n (suc i) (cond b (worst_is (far i) i) (worst_is d at))).index
      go true x y = x
      go false x y = y

  none_above : (n i : ℕ) (d : Float) → a < i → (worst_from points pa axis n i (worst_is d a)).index ≡ a → NoneAbove d n i
  unfolding worst_from
  none_above zero i d k e j h l = absurd (omega (arith, h, l))
  none_above (suc n) i d k e j h l = go (lt d (far i)) refl e (none_above n (suc i) d (omega arith))
    where
      go : (b : Bool) → lt d (far i) ≡ b → (worst_from points pa axis n (suc i) (cond b (worst_is (far i) i) (worst_is d a))).index ≡ a
          → ((worst_from points pa axis n (suc i) (worst_is d a)).index ≡ a → NoneAbove d n (suc i)) → lt d (far j) ≡ false
      go true q e on = let s = stays n (suc i) (far i) i k (omega arith) in absurd (omega (arith, s, e))
      go false q e on = at (eqb j i) refl
        where
          at : (c : Bool) → eqb j i ≡ c → lt d (far j) ≡ false
          at true z = ap (λ (m : ℕ). lt d (far m)) (eqb-true j i z) ∙ q
          at false z = on e j (omega (arith, h, eqb-false j i z)) (omega (arith, l))

  none_worse : (n i : ℕ) (d : Float) (at : ℕ) → NoneAbove d n i → worst_from points pa axis n i (worst_is d at) ≡ worst_is d at
  unfolding worst_from
  none_worse zero i d at f = refl
  none_worse (suc n) i d at f = rw (f i (omega arith) (omega arith)) (none_worse n (suc i) d at (λ j h l. f j (omega arith) (omega arith)))

module _ (points : ℕ → Vec3) (tolerance angle : Float) (a b : ℕ) where
  abbrev NoneFar : Type 0
  NoneFar = (i : ℕ) → a < i → i < b → lt plus_zero (distance_in points a b i) ≡ false

  none : a + 1 < b → (worst_of points a b).index ≡ a → NoneFar
  unfolding worst_of
  none wide e i h k = none_above points (points a) (v_sub (points b) (points a)) a (b - (a + 1)) (a + 1) plus_zero (omega arith) e i (omega arith) (omega arith)

  -- the largest distance is then 0.0
  at_start : a + 1 < b → NoneFar → worst_of points a b ≡ worst_is plus_zero a
  unfolding worst_of
  at_start wide f = none_worse points (points a) (v_sub (points b) (points a)) a (b - (a + 1)) (a + 1) plus_zero a (λ j h k. f j (omega arith) (omega arith))

  pub endless_refused : EndlessSpan points tolerance angle a b → decision points tolerance angle a b ≡ Err Endless
  unfolding decision
  endless_refused e = rw (lt-leb b (a + 1) e.inside, at_start e.inside e.none, e.splits, eq-eqb a a refl)

  pub refused_endless : decision points tolerance angle a b ≡ Err Endless → EndlessSpan points tolerance angle a b
  unfolding decision
  refused_endless =
      go (leb b (a + 1)) (lt tolerance (worst_of points a b).distance || lt angle (span_turn points a b)) (eqb (worst_of points a b).index a) refl refl refl
    where
      go : (x y z : Bool) → leb b (a + 1) ≡ x → lt tolerance (worst_of points a b).distance || lt angle (span_turn points a b) ≡ y → eqb (worst_of points a b).index a ≡ z
          → ◌≡◌ {A = Answer (Option ℕ)} (cond x (Ok None) (cond y (cond z (Err Endless) (Ok (Some (worst_of points a b).index))) (Ok None))) (Err Endless) → EndlessSpan points tolerance angle a b
      go true y z p q r e = cc
      go false false z p q r e = cc
      go false true false p q r e = cc
      go false true true p q r e =
          let wide = leb-false b (a + 1) p in
          let f = none wide (eqb-true (worst_of points a b).index a r) in
          record { inside = wide; splits = ap (λ w. lt tolerance w.distance || lt angle (span_turn points a b)) (sym (at_start wide f)) ∙ q; none = f }
