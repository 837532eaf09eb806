-- The laws of `some_below`, and tests none of which holds. Assumes nothing.
use mathlib.Core.Path.{◌≡◌, refl, sym, ap, ◌∙◌}
use mathlib.Core.Bool.{Bool, true, false, ◌||◌}
use Prim.Native.Nat.{ℕ, zero, suc, ◌<◌}
use native.Mathlib.Nat.{not-suc-le-zero}
use native.Mathlib.Omega.{arith}
use lib.Dec.{eqb}
use Rattle.std.specs.Prelude.{Option, Some, None, IsTrue, IfSome, MatchBool}
use Rattle.std.specs.Option.{IsSomeAnd, option_map}
use Rattle.std.specs.Iterator.Runs.{Run, AnyItemGives, AllItemsGive, CallKeepsClosure}
use denote.Param.Members.{Mut, Called}
use Rattle.std.proofs.lemmas.Bool.{eqb-true, eqb-false, or_parts, or_from, or_left, or_right}
use Rattle.causes_bounds.specs.Some.{some_below}

-- tests none of which holds
pub three : (a b c : Bool) → a || (b || c) ≡ false → (a ≡ false) × (b ≡ false) × (c ≡ false)
three a b c h = let k = or_parts a (b || c) h in let l = or_parts b c k.1 in (k.0, l.0, l.1)

pub four : (a b c d : Bool) → (a || b) || (c || d) ≡ false → (a ≡ false) × (b ≡ false) × (c ≡ false) × (d ≡ false)
four a b c d h =
    let k = or_parts (a || b) (c || d) h in
    let l = or_parts a b k.0 in
    let m = or_parts c d k.1 in
    (l.0, l.1, m.0, m.1)

-- one that holds is enough
pub some_found : (P : ℕ → Bool) (n i : ℕ) → i < n → P i ≡ true → some_below n P ≡ true
unfolding some_below
some_found P zero i l e = absurd (not-suc-le-zero l)
some_found P (suc n) i l e = go (eqb i n) refl (some_found P n i)
  where
    go : (v : Bool) → eqb i n ≡ v → (i < n → P i ≡ true → some_below n P ≡ true) → some_below n P || P n ≡ true
    go true q ih = or_right (some_below n P) (P n) (ap P (sym (eqb-true i n q)) ∙ e)
    go false q ih = let ne = eqb-false i n q in or_left (some_below n P) (P n) (ih (omega arith) e)

-- where none holds, no one does
pub some_none : (P : ℕ → Bool) (n i : ℕ) → i < n → some_below n P ≡ false → P i ≡ false
unfolding some_below
some_none P zero i l e = absurd (not-suc-le-zero l)
some_none P (suc n) i l e = go (eqb i n) refl (some_none P n i)
  where
    go : (v : Bool) → eqb i n ≡ v → (i < n → some_below n P ≡ false → P i ≡ false) → P i ≡ false
    go true q ih = ap P (eqb-true i n q) ∙ (or_parts (some_below n P) (P n) e).1
    go false q ih = let ne = eqb-false i n q in ih (omega arith) (or_parts (some_below n P) (P n) e).0

-- where no one does, none holds
pub none_from : (P : ℕ → Bool) (n : ℕ) → ((i : ℕ) → i < n → P i ≡ false) → some_below n P ≡ false
unfolding some_below
none_from P zero h = refl
none_from P (suc n) h = or_from (some_below n P) (P n) (none_from P n (λ i l. h i (omega arith))) (h n (omega arith))

-- what a search has answered
pub some_from : (P : ℕ → Bool) (n : ℕ) (r : Bool) → MatchBool r ((i : ℕ) × (i < n) × (P i ≡ true)) ((i : ℕ) → i < n → P i ≡ false) → r ≡ some_below n P
some_from P n true h = sym (some_found P n h.0 h.1 h.2)
some_from P n false h = sym (none_from P n h)

-- what `any` has answered over a run, whose item number k passes where P holds of k
module _ {S A F : Type 0} {steps : S → Option A → S → Type 0} (p : Run steps) {g : Mut F (A × Unit {0}) Bool} {f : F} (P : ℕ → Bool) (n : ℕ) (d : A) where
  pub some_of_run : (r : Bool) → MatchBool r (AnyItemGives p g f true) (IsTrue p.whole × AllItemsGive p g f false) → CallKeepsClosure g f → (p.whole ≡ true → p.len ≡ n) → {IsAt : ℕ → A → Type 0} → ((k : ℕ) → IfSome (p.at k) (IsAt k)) → ((k : ℕ) (x : A) (b : Bool) → IsAt k x → Called g f (x, tt) b f → (k < n) × (P k ≡ b)) → r ≡ some_below n P
  some_of_run true any keeps all {IsAt = IsAt} at each =
      let h = any keeps in let e = found h.0 (p.at h.0) (at h.0) h.2 in sym (some_found P n h.0 e.0 e.1)
    where
      found : (k : ℕ) (o : Option A) → IfSome o (IsAt k) → IsSomeAnd o (λ x. Called g f (x, tt) true f) → (k < n) × (P k ≡ true)
      found k None i c = absurd c
      found k (Some x) i c = each k x true i c
  some_of_run false any keeps all {IsAt = IsAt} at each =
      let e = all any.0 in
      sym (none_from P n (λ k l. passed k (p.at k) (at k) (any.1 keeps k) (p.reads k d (omega arith))))
    where
      passed : (k : ℕ) (o : Option A) {y : A} → IfSome o (IsAt k) → IfSome o (λ x. Called g f (x, tt) false f) → option_map (λ y. y) o ≡ Some y → P k ≡ false
      passed k None i c s = cc
      passed k (Some x) i c s = (each k x false i c).1
