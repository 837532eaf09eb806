-- What holds of even steps and of bisection holds of the parameters that sampling gives; they fit the room, and no refusal but 8,
-- for the room, is made. Assumes nothing.
use Rattle.std.specs.Prelude.{Option, ℕ, None, Some, Err, Ok}
use Rattle.std.proofs.Common.{◌≡◌, ℕ, zero, suc, ◌-◌, ◌≤◌, Bool, true, false, ltb, leb, List, [], ◌∷◌, ◌++◌, length, refl, subst, add-one, arith, length-append, leb-true}
use lib.Ieee.{Float}
use Rattle.math.specs.declared.Interval.{Interval}
use Rattle.edge_params.specs.Params.{midpoint, Sampler, steps, evenly}
use Rattle.edge_params.specs.Own.Bisected.{subdivided, bisected}
use Rattle.edge_params.specs.Own.InRoom.{fitting, floored_in, refined_in, sample_params_in}
use Rattle.refusal.specs.Answer.{Answer, bind}
use Rattle.refusal.specs.declared.Refusal.TheVariants.{NoRoom}

pub steps_length : (range : Interval) (n k : ℕ) → length (steps range n k) ≡ k
unfolding steps
steps_length range n zero = refl
steps_length range n (suc k) = simp length-append (rw (steps_length range n k, add-one k))

-- ---- what subdivide pushes, by the tests that it makes
module _ (within : Float → Float → Bool) (depth : ℕ) (a b : Float) where
  pub subdivided_zero : depth ≡ 0 → subdivided within depth a b ≡ []
  unfolding subdivided
  subdivided_zero h = rw h

  -- of a depth that is not 0
  deeper : (depth ≡ 0 → ⊥) → (l : List Float) → subdivided within (suc (depth - 1)) a b ≡ l → subdivided within depth a b ≡ l
  deeper h l e =
      let d : suc (depth - 1) ≡ depth = omega arith in
      subst (λ (n : ℕ). subdivided within n a b ≡ l) d e

  pub subdivided_within : (depth ≡ 0 → ⊥) → within a b ≡ true → subdivided within depth a b ≡ []
  unfolding subdivided
  subdivided_within h e = deeper h [] (rw (e, subdivided))

  pub subdivided_split : (depth ≡ 0 → ⊥) → within a b ≡ false
      → subdivided within depth a b
      ≡ subdivided within (depth - 1) a (midpoint a b) ++ midpoint a b ∷ subdivided within (depth - 1) (midpoint a b) b
  unfolding subdivided
  subdivided_split h e =
      deeper h (subdivided within (depth - 1) a (midpoint a b) ++ midpoint a b ∷ subdivided within (depth - 1) (midpoint a b) b)
      (rw (e, subdivided))

-- ---- `Gives P r`: r is a list that holds P, or refusal 8
pub data Gives (P : List Float → Type 0) : Answer (List Float) → Type 0 where
  list : {l : List Float} → P l → Gives P (Ok l)
  eight : Gives P (Err NoRoom)

pub gives_got : {P : List Float → Type 0} {r : Answer (List Float)} (l : List Float) → Gives P r → r ≡ Ok l → P l
gives_got {P} l (list {l = k} p) e = let q : k ≡ l = cc in subst P q p
gives_got l eight e = cc

gives_bind : {P Q : List Float → Type 0} {r : Answer (List Float)} (f : List Float → Answer (List Float)) → Gives P r
    → ((l : List Float) → P l → Gives Q (f l)) → Gives Q (bind r f)
gives_bind f (list {l = l} p) g = g l p
gives_bind f eight g = eight

-- ---- of a P that holds of even steps and of bisection, where they fit the room
module _ (P : List Float → Type 0) (room : ℕ) (s : Sampler) (range : Interval)
    (even : (n : ℕ) → suc n ≤ room → P (evenly range n))
    (halves : length (bisected s range) ≤ room → P (bisected s range)) where
  fitting_gives : (l : List Float) → (length l ≤ room → P l) → Gives P (fitting room l)
  unfolding fitting
  fitting_gives l h = go (leb (length l) room) refl
    where
      go : (t : Bool) → leb (length l) room ≡ t → Gives P (elim t [ true ↦ Ok l | false ↦ Err NoRoom ])
      go true e = list (h (leb-true (length l) room e))
      go false e = eight

  even_gives : (n : ℕ) → Gives P (fitting room (evenly range n))
  even_gives n = fitting_gives (evenly range n) (λ h. even n (omega (arith, steps_length range n (suc n))))

  floored_gives : (l : List Float) → P l → Gives P (floored_in room s range l)
  unfolding floored_in
  floored_gives l p = go (ltb (length l - 1) s.least)
    where
      go : (t : Bool) → Gives P (elim t [ true ↦ fitting room (evenly range s.least) | false ↦ Ok l ])
      go true = even_gives s.least
      go false = list p

  refined_gives : Gives P (refined_in room s range)
  unfolding refined_in
  refined_gives = gives_bind (floored_in room s range) (fitting_gives (bisected s range) halves) floored_gives

  pub sampled_gives : Gives P (sample_params_in room s range)
  unfolding sample_params_in
  sampled_gives = go s.closed
    where
      checked : (l : List Float) → P l → (t : Bool) → Gives P (elim t [ true ↦ Ok l | false ↦ refined_in room s range ])
      checked l p true = list p
      checked l p false = refined_gives

      go : (c : Option ℕ) → Gives P (elim c [
        | None ↦ refined_in room s range
        | Some n ↦ bind (fitting room (evenly range n)) (λ l. elim (s.meets l) [ true ↦ Ok l | false ↦ refined_in room s range ])
      ])
      go None = refined_gives
      go (Some n) =
          gives_bind (λ l. elim (s.meets l) [ true ↦ Ok l | false ↦ refined_in room s range ]) (even_gives n)
          (λ l p. checked l p (s.meets l))

-- ---- at most as many as the room has
pub sampled_length : (room : ℕ) (s : Sampler) (range : Interval) (l : List Float) → sample_params_in room s range ≡ Ok l → length l ≤ room
sampled_length room s range l e =
    gives_got l (sampled_gives (λ l. length l ≤ room) room s range (λ n h. omega (arith, steps_length range n (suc n))) (λ h. h)) e
