-- What the reference does on its way to an answer, in order, and what it comes to. It has no room: a room only looks at the record. Definitions only.
use Rattle.std.specs.Prelude.{ℕ, suc, Bool, true, false, cond, ◌||◌, List, [], ◌∷◌, ◌++◌, nat_lt, Float, Err, Ok}
use Rattle.refusal.specs.Answer.{Answer, bind}
use Rattle.refusal.specs.declared.Refusal.TheVariants.{TooFar, NoRoom}

-- an act that a refusal looks at
pub data Act : Type 0 where
  -- a parameter joins a parameter list, as its so-many-th
  joins : ℕ → Float → Act

-- the acts in the reference's order, and the end: an answer; refused 9 where the reference never ends; refused 11 where it would ask a
-- hyperbola for a parameter beyond 100 in magnitude, behind which nothing is looked at
pub record Work (A : Type 0) : Type 0 where
  pub acts : List Act
  pub end : Answer A

-- no act, and an end
abbrev pub ends : {A : Type 0} → Answer A → Work A
ends x = record { acts = []; end = x }

-- no act, and an answer
abbrev pub done : {A : Type 0} → A → Work A
done a = ends (Ok a)

-- the parameters of a list join it one by one, the first as its k-th
unfoldable pub joining : ℕ → List Float → List Act
joining k [] = []
joining k (t ∷ l) = joins k t ∷ joining (suc k) l

-- a list is formed
abbrev pub forms : List Float → Work (List Float)
forms l = record { acts = joining 1 l; end = Ok l }

-- the acts that follow an end; nothing follows a refusal
abbrev pub acts_after : {A B : Type 0} → Answer A → (A → Work B) → List Act
acts_after (Err n) f = []
acts_after (Ok a) f = (f a).acts

-- one work after the other
abbrev pub and_then : {A B : Type 0} → Work A → (A → Work B) → Work B
and_then w f = record { acts = w.acts ++ acts_after w.end f; end = bind w.end (λ a. (f a).end) }

-- ---- what may not be asked
-- some of these parameters is too far
unfoldable pub some_far : (Float → Bool) → List Float → Bool
some_far far [] = false
some_far far (t ∷ ts) = far t || some_far far ts

-- the curve is asked for its points at these parameters, one after another, and the work goes on; at one that is too far it ends with 11
unfoldable pub asking : {A : Type 0} → (Float → Bool) → List Float → Work A → Work A
asking far ts next =
    elim (some_far far ts) [
      | true ↦ ends (Err TooFar)
      | false ↦ next
    ]

-- ---- in a room
-- a parameter joins its list after the room's last
abbrev pub passes : ℕ → Act → Bool
passes room (joins k t) = nat_lt room k

-- some act passes the room: a list is longer than it
unfoldable pub overflows : ℕ → List Act → Bool
overflows room [] = false
overflows room (a ∷ acts) = passes room a || overflows room acts

-- the work in a room: 8 where some list is longer than it, else what the reference comes to. So 8 or 11 is the one that comes first
abbrev pub within : {A : Type 0} → ℕ → Work A → Answer A
within room w = cond (overflows room w.acts) (Err NoRoom) w.end
