-- An answer, or the cause for which there is none.
use Rattle.std.specs.Prelude.{Result, Ok, Err}
use Rattle.refusal.specs.declared.Refusal.{Refusal}

-- an answer, or a refusal
abbrev pub Answer : Type 0 → Type 0
Answer A = Result A Refusal

-- Rust's `?`: the first refusal stands
abbrev pub bind : {A B : Type 0} → Answer A → (A → Answer B) → Answer B
bind (Err n) f = Err n
bind (Ok a) f = f a

-- an answer carried on
abbrev pub each : {A B : Type 0} → (A → B) → Answer A → Answer B
each f (Err n) = Err n
each f (Ok a) = Ok (f a)

-- two answers put together; the first refusal stands
abbrev pub both : {A B C : Type 0} → (A → B → C) → Answer A → Answer B → Answer C
both f (Err n) s = Err n
both f (Ok a) (Err n) = Err n
both f (Ok a) (Ok b) = Ok (f a b)
