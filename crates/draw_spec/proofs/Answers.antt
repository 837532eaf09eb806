-- What a work answers in a room: something of which P holds, or refusal 8 where a list is longer than the room, or 9 where the reference never
-- ends, or 11 where it would ask a hyperbola for a parameter that is too far. Assumes nothing.
use Rattle.std.specs.Prelude.{Err, Ok}
use mathlib.Core.Path.{◌≡◌, refl, sym, subst}
use mathlib.Core.Bool.{Bool, true, false, cond, ◌||◌}
use mathlib.Core.List.{List}
use Prim.Native.Nat.{ℕ, ◌≤◌, ◌<◌}
use native.Mathlib.Omega.{arith}
use lib.Ieee.{Float}
use Rattle.edge_params.specs.Work.{Work, ends, acts_after, and_then, some_far, asking, overflows, within}
use Rattle.edge_params.proofs.Work.{overflows_both}
use Rattle.refusal.specs.Answer.{Answer, bind}
use Rattle.refusal.specs.declared.Refusal.TheVariants.{Endless, TooFar, NoRoom, NoSheet}
use Rattle.refusal.specs.declared.Refusal.{Refusal}
use Rattle.refusal.specs.Refusal.{number_of}

-- by whether a list overflows the room, and the end
pub data Answered {A : Type 0} (P : A → Type 0) : Bool → Answer A → Type 0 where
  answer : {a : A} → P a → Answered P false (Ok a)
  eight : {x : Answer A} → Answered P true x
  nine : Answered P false (Err Endless)
  eleven : Answered P false (Err TooFar)

abbrev pub Answers : {A : Type 0} → ℕ → (A → Type 0) → Work A → Type 0
Answers room P w = Answered P (overflows room w.acts) w.end

-- ---- the refusals of drawing, once none of 1 to 7 applies
pub data Late (n : Refusal) : Type 0 where
  late_8 : n ≡ NoRoom → Late n
  late_9 : n ≡ Endless → Late n
  late_11 : n ≡ TooFar → Late n

pub late_above : {n : Refusal} → Late n → 7 < number_of n
late_above (late_8 z) = rw z (omega arith)
late_above (late_9 z) = rw z (omega arith)
late_above (late_11 z) = rw z (omega arith)

pub late_number : {n : Refusal} → Late n → (number_of n ≤ 11) × (n ≡ NoSheet → ⊥)
late_number (late_8 z) = (rw z (omega arith), λ t. cc)
late_number (late_9 z) = (rw z (omega arith), λ t. cc)
late_number (late_11 z) = (rw z (omega arith), λ t. cc)

-- what each is for, of a work by whether a list overflows the room, and its end
pub data Cause {A : Type 0} (b : Bool) (x : Answer A) (n : Refusal) : Type 0 where
  longer : n ≡ NoRoom → b ≡ true → Cause b x n
  endless : n ≡ Endless → x ≡ Err Endless → Cause b x n
  too_far : n ≡ TooFar → x ≡ Err TooFar → Cause b x n

cause_late : {A : Type 0} {b : Bool} {x : Answer A} {n : Refusal} → Cause b x n → Late n
cause_late (longer z h) = late_8 z
cause_late (endless z h) = late_9 z
cause_late (too_far z h) = late_11 z

-- ---- what is answered then
module _ {A : Type 0} {P : A → Type 0} where
  pub answers_got : {b : Bool} {x : Answer A} (a : A) → Answered P b x → cond b (Err NoRoom) x ≡ Ok a → P a
  answers_got a (answer {a = c} p) e = let q : c ≡ a = cc in subst P q p
  answers_got a eight e = absurd (let z : ◌≡◌ {A = ℕ} 0 1 = cc in omega arith)
  answers_got a nine e = absurd (let z : ◌≡◌ {A = ℕ} 0 1 = cc in omega arith)
  answers_got a eleven e = absurd (let z : ◌≡◌ {A = ℕ} 0 1 = cc in omega arith)

  -- a refusal, and what it is for
  pub answers_cause : {b : Bool} {x : Answer A} (n : Refusal) → Answered P b x → cond b (Err NoRoom) x ≡ Err n → Cause b x n
  answers_cause n (answer p) e = absurd (let z : ◌≡◌ {A = ℕ} 0 1 = cc in omega arith)
  answers_cause n eight e = longer (cc) refl
  answers_cause n nine e = endless (cc) refl
  answers_cause n eleven e = too_far (cc) refl

  pub answers_refused : {b : Bool} {x : Answer A} (n : Refusal) → Answered P b x → cond b (Err NoRoom) x ≡ Err n → Late n
  answers_refused n h e = cause_late (answers_cause n h e)

-- ---- of no act, and of one work after the other
module _ {A : Type 0} {P : A → Type 0} (room : ℕ) where
  pub answers_ends : {x : Answer A} → Answered P false x → Answers room P (ends x)
  unfolding overflows
  answers_ends h = h

  pub answers_then : {B : Type 0} {Q : B → Type 0} (w : Work A) (g : A → Work B) → Answers room P w → ((a : A) → P a → Answers room Q (g a)) → Answers room Q (and_then w g)
  unfolding overflows
  answers_then {B} {Q} w g p h =
      subst (λ (b : Bool). Answered Q b (bind w.end (λ a. (g a).end))) (sym (overflows_both room w.acts (acts_after w.end g))) (go p)
    where
      go : {b : Bool} {x : Answer A} → Answered P b x → Answered Q (b || overflows room (acts_after x g)) (bind x (λ a. (g a).end))
      go (answer {a = a} q) = h a q
      go eight = eight
      go nine = nine
      go eleven = eleven

  -- of a work before which the curve is asked for points
  pub answers_asking : (far : Float → Bool) (ts : List Float) (w : Work A) → Answers room P w → Answers room P (asking far ts w)
  unfolding asking overflows
  answers_asking far ts w p = go (some_far far ts)
    where
      go : (v : Bool) → Answers {A = A} room P (elim v [ true ↦ ends (Err TooFar) | false ↦ w ])
      go true = eleven
      go false = p

  -- of a work that is refused with 11 alone
  pub answers_eleven : (w : Work A) → ((n : Refusal) → w.end ≡ Err n → n ≡ TooFar) → ((a : A) → within room w ≡ Ok a → P a) → Answers room P w
  answers_eleven w only h = go (overflows room w.acts) w.end only h
    where
      go : (b : Bool) (x : Answer A) → ((n : Refusal) → x ≡ Err n → n ≡ TooFar) → ((a : A) → cond b (Err NoRoom) x ≡ Ok a → P a) → Answered P b x
      go true x f h = eight
      go false (Err n) f h = rw (f n refl) eleven
      go false (Ok a) f h = answer (h a refl)
