-- What an account of our answer gives: it agrees with the Rust's. Assumes nothing.
use Rattle.std.specs.Prelude.{Err, Ok}
use mathlib.Core.Path.{◌≡◌, refl, ap, subst}
use Rattle.edge_thin_loop.specs.Claims.{Agrees}
use Rattle.refusal.specs.Answer.{Answer}
use Rattle.refusal.specs.declared.Refusal.TheVariants.{Endless}

-- of each answer of ours, what the Rust does: it ends with that, or comes to an endless span
pub data Account {A : Type 0} (EndsWith : A → Type 0) (ComesToEndless : Type 0) : Answer A → Type 0 where
  ends : {x : A} → EndsWith x → Account EndsWith ComesToEndless (Ok x)
  stuck : ComesToEndless → Account EndsWith ComesToEndless (Err Endless)

-- it agrees where the Rust does not end in two ways, nor having come to an endless span
module _ {A : Type 0} {E : A → Type 0} {C : Type 0} (one : (x y : A) → E x → E y → x ≡ y) (no_end : C → (x : A) → E x → ⊥) where
  pub agree : {r : Answer A} → Account E C r → Agrees r E C
  agree (ends {x = a} e) = record {
    answers = λ x. (λ q. let z : a ≡ x = cc in subst E z e, λ f. ap Ok (one a x e f));
    never = (λ q. cc, λ f. absurd (f a e));
    endless = (λ q. cc, λ c. absurd (no_end c a e));
    nine = λ k q. cc;
  }
  agree (stuck c) = record {
    answers = λ x. (λ q. cc, λ f. absurd (no_end c x f));
    never = (λ q. no_end c, λ f. refl);
    endless = (λ q. c, λ d. refl);
    nine = λ k q. cc;
  }
