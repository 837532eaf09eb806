-- The walk of `mark`: what is still to be found is what the spans between the set flags give, from a on. No decision is looked into.
-- Assumes nothing.
use Rattle.std.specs.Prelude.{Option, Some, None, Err, Ok}
use mathlib.Core.Path.{◌≡◌, refl, sym, ap, subst, ◌∙◌}
use mathlib.Core.Bool.{Bool, true, false}
use mathlib.Core.Logic.{⊎_elim}
use mathlib.Core.List.{List, [], ◌∷◌, ◌++◌, append_assoc, append-nil}
use Prim.Native.Nat.{ℕ, zero, suc, ◌+◌, ◌-◌, ◌<◌, ◌≤◌}
use native.Mathlib.Nat.{eq-or-lt_of_le}
use native.Mathlib.Omega.{arith}
use lib.Dec.{leb}
use lib.ListN.{length, get_or, set, replicate, length-set, get_or-replicate}
use lib.Seq.{get_or-set_same, get_or-set_other}
use borrow.Author.Tests.{leb-true, leb-false}
use Rattle.edge_thin_mark.specs.Own.Flags.{FirstKept}
use Rattle.edge_thin_mark.specs.Spans.{by_split, kept_in, kept, marks}
use Rattle.refusal.specs.Answer.{Answer, each, both}
use Rattle.refusal.specs.declared.Refusal.{Refusal}

-- ---- answers put together
none_left : (r : Answer (List ℕ)) → both ◌++◌ (Ok []) r ≡ r
none_left (Err k) = refl
none_left (Ok l) = refl

none_right : (r : Answer (List ℕ)) → both ◌++◌ r (Ok []) ≡ r
none_right (Err k) = refl
none_right (Ok l) = ap Ok (append-nil l)

regroup : (w : ℕ) (x y z : Answer (List ℕ)) → both ◌++◌ (both (λ l r. w ∷ l ++ r) x y) z ≡ each (λ l. w ∷ l) (both ◌++◌ x (both ◌++◌ y z))
regroup w (Err k) y z = refl
regroup w (Ok l) (Err k) z = refl
regroup w (Ok l) (Ok r) (Err k) = refl
regroup w (Ok l) (Ok r) (Ok s) = ap (λ (t : List ℕ). Ok (w ∷ t)) (append_assoc l r s)

marks_first : (keep : List Bool) (w : ℕ) (r : Answer (List ℕ)) → each (marks keep) (each (λ l. w ∷ l) r) ≡ each (marks (set keep w true)) r
marks_first keep w (Err k) = refl
marks_first keep w (Ok l) = refl

-- ---- how many flags are not set
abbrev pub unset : List Bool → ℕ
unset [] = 0
unset (true ∷ l) = unset l
unset (false ∷ l) = suc (unset l)

unset_set : (l : List Bool) (i : ℕ) → i < length l → get_or l i false ≡ false → suc (unset (set l i true)) ≡ unset l
unset_set [] i h e = absurd (omega arith)
unset_set (true ∷ l) zero h e = cc
unset_set (false ∷ l) zero h e = refl
unset_set (true ∷ l) (suc i) h e = unset_set l i (omega arith) e
unset_set (false ∷ l) (suc i) h e = ap suc (unset_set l i (omega arith) e)

-- ---- the ends of the spans from a on: the indexes after a whose flags are set, to `last`
pub data Ends (keep : List Bool) (last : ℕ) : ℕ → List ℕ → Type 0 where
  stop : {a : ℕ} → a ≡ last → Ends keep last a []
  more : {a b : ℕ} {ends : List ℕ} → a < b → ((j : ℕ) → a < j → j < b → get_or keep j false ≡ false) → get_or keep b false ≡ true → Ends keep last b ends → Ends keep last a (b ∷ ends)

ends_le : {keep : List Bool} {last a : ℕ} {e : List ℕ} → Ends keep last a e → a ≤ last
ends_le (stop e) = omega arith
ends_le (more h c t r) = let g = ends_le r in omega arith

ends_set : {keep : List Bool} {last b : ℕ} {e : List ℕ} (w : ℕ) → w < b → Ends keep last b e → Ends (set keep w true) last b e
ends_set w g (stop e) = stop e
ends_set {keep} w g (more {b = d} h c t r) =
    more h
    (λ j u v. get_or-set_other keep w j true false (λ e. omega arith) ∙ c j u v)
    (get_or-set_other keep w d true false (λ e. omega arith) ∙ t)
    (ends_set w (omega arith) r)

-- the first set flag after a is the end of the span at a
record Top (keep : List Bool) (last a b : ℕ) (e : List ℕ) : Type 0 where
  pub tail : List ℕ
  pub is : e ≡ b ∷ tail
  pub ahead : a < b
  pub clear : (j : ℕ) → a < j → j < b → get_or keep j false ≡ false
  pub flag : get_or keep b false ≡ true
  pub after : Ends keep last b tail

same_end : {keep : List Bool} {last a d : ℕ} (b : ℕ) → a < d → d ≤ last → last < length keep → ((j : ℕ) → a < j → j < d → get_or keep j false ≡ false) → get_or keep d false ≡ true
    → FirstKept keep (a + 1) b → d ≡ b
same_end {keep} {last} {a} {d} b h l n c t f = go (leb d b) refl
  where
    go : (v : Bool) → leb d b ≡ v → d ≡ b
    go true e =
        ⊎_elim (λ q. q) (λ v. let x = f.clear d v (omega arith) in cc) (eq-or-lt_of_le (leb-true d b e))
    go false e =
        let v = leb-false d b e in
        let q = f.after in
        let x = c b (omega arith) v in
        let y = f.here (omega arith) in cc

top : {keep : List Bool} {last a : ℕ} {e : List ℕ} (b : ℕ) → Ends keep last a e → a < last → last < length keep → FirstKept keep (a + 1) b → Top keep last a b e
top b (stop e) g n f = absurd (omega arith)
top {keep} {last} {a} b (more {b = d} {ends = t} h c k r) g n f =
    let q : d ≡ b = same_end b h (ends_le r) n c k f in
    record {
      tail = t;
      is = ap (λ (x : ℕ). x ∷ t) q;
      ahead = omega arith;
      clear = λ j u v. c j u (omega arith);
      flag = ap (λ (x : ℕ). get_or keep x false) (sym q) ∙ k;
      after = subst (λ (x : ℕ). Ends keep last x t) q r;
    }

-- ---- spans, by any decision that leaves a span of one segment and splits strictly inside
pub record Splits (decide : ℕ → ℕ → Answer (Option ℕ)) : Type 0 where
  pub narrow : (a b : ℕ) → b ≤ a + 1 → decide a b ≡ Ok None
  pub inside : (a b w : ℕ) → decide a b ≡ Ok (Some w) → (a < w) × (w < b)

module _ (decide : ℕ → ℕ → Answer (Option ℕ)) (D : Splits decide) where
  -- a bound on the segments above b - a changes nothing
  enough : (d e a b : ℕ) → b - a ≤ d → b - a ≤ e → kept_in decide d a b ≡ kept_in decide e a b
  unfolding kept_in
  enough zero zero a b h g = refl
  enough zero (suc e) a b h g = rw (D.narrow a b (omega arith))
  enough (suc d) zero a b h g = rw (D.narrow a b (omega arith))
  enough (suc d) (suc e) a b h g =
      go (decide a b)
      (λ w q. let i = D.inside a b w q in enough d e a w (omega arith) (omega arith))
      (λ w q. let i = D.inside a b w q in enough d e w b (omega arith) (omega arith))
      refl
    where
      go : (v : Answer (Option ℕ)) → ((w : ℕ) → decide a b ≡ Ok (Some w) → kept_in decide d a w ≡ kept_in decide e a w) → ((w : ℕ) → decide a b ≡ Ok (Some w) → kept_in decide d w b ≡ kept_in decide e w b) → decide a b ≡ v
          → by_split v (λ w. both (λ l r. w ∷ l ++ r) (kept_in decide d a w) (kept_in decide d w b)) ≡ by_split v (λ w. both (λ l r. w ∷ l ++ r) (kept_in decide e a w) (kept_in decide e w b))
      go (Ok None) x y q = refl
      go (Err n) x y q = refl
      go (Ok (Some w)) x y q = rw (x w q, y w q)

  -- a span as the Rust has it
  pub unroll : (a b : ℕ) → a < b → kept decide a b ≡ by_split (decide a b) (λ w. both (λ l r. w ∷ l ++ r) (kept decide a w) (kept decide w b))
  unfolding kept_in
  unroll a b h = let q : b - a ≡ suc (b - a - 1) = omega arith in ap (λ (d : ℕ). kept_in decide d a b) q ∙ go (decide a b) refl
    where
      go : (v : Answer (Option ℕ)) → decide a b ≡ v
          → by_split v (λ w. both (λ l r. w ∷ l ++ r) (kept_in decide (b - a - 1) a w) (kept_in decide (b - a - 1) w b)) ≡ by_split v (λ w. both (λ l r. w ∷ l ++ r) (kept decide a w) (kept decide w b))
      go (Ok None) q = refl
      go (Err n) q = refl
      go (Ok (Some w)) q =
          let i = D.inside a b w q in
          rw (enough (b - a - 1) (w - a) a w (omega arith) (omega arith), enough (b - a - 1) (b - w) w b (omega arith) (omega arith))

-- ---- the walk
module _ (decide : ℕ → ℕ → Answer (Option ℕ)) where
  -- what is to be found between a and the last end
  abbrev pub pending : ℕ → List ℕ → Answer (List ℕ)
  pending a [] = Ok []
  pending a (b ∷ e) = both ◌++◌ (kept decide a b) (pending b e)

  -- where the walk stands, on its way to `goal`
  pub record Standing (last : ℕ) (goal : Answer (List Bool)) (keep : List Bool) (a : ℕ) : Type 0 where
    pub ends : List ℕ
    pub spans : Ends keep last a ends
    pub rest : each (marks keep) (pending a ends) ≡ goal

  -- what a turn of the walk needs of the span from a to b: it lies ahead; and by the decision about it, where the walk stands then, or what
  -- it ends with
  pub record Turn (last : ℕ) (goal : Answer (List Bool)) (keep : List Bool) (a b : ℕ) : Type 0 where
    pub ahead : a < b
    pub bound : b ≤ last
    pub left : decide a b ≡ Ok None → Standing last goal keep b
    pub inside : (w : ℕ) → decide a b ≡ Ok (Some w) → (a < w) × (w < b)
    pub fewer : (w : ℕ) → decide a b ≡ Ok (Some w) → suc (unset (set keep w true)) ≡ unset keep
    pub split : (w : ℕ) → decide a b ≡ Ok (Some w) → Standing last goal (set keep w true) a
    pub refused : (n : Refusal) → decide a b ≡ Err n → Err n ≡ goal

module _ {decide : ℕ → ℕ → Answer (Option ℕ)} (D : Splits decide) {last : ℕ} {goal : Answer (List Bool)} where
  pub begin : (k : List Bool) → 0 < last → last < length k → k ≡ replicate (length k) false → each (marks (set (set k 0 true) last true)) (kept decide 0 last) ≡ goal
      → Standing decide last goal (set (set k 0 true) last true) 0
  begin k h g e q = record {
    ends = last ∷ [];
    spans =
        more h
        (λ j u v. get_or-set_other (set k 0 true) last j true false (λ x. omega arith)
        ∙ get_or-set_other k 0 j true false (λ x. omega arith)
        ∙ ap (λ (l : List Bool). get_or l j false) e
        ∙ get_or-replicate (length k) j false false (omega arith))
        (get_or-set_same (set k 0 true) last true false (rw (length-set k 0 true) g))
        (stop refl);
    rest = ap (each (marks (set (set k 0 true) last true))) (none_right (kept decide 0 last)) ∙ q;
  }

  pub done : {keep : List Bool} {a : ℕ} → last ≤ a → Standing decide last goal keep a → Ok keep ≡ goal
  done {keep} {a} h s = go s.spans s.rest
    where
      go : {e : List ℕ} → Ends keep last a e → each (marks keep) (pending decide a e) ≡ goal → Ok keep ≡ goal
      go (stop e) r = r
      go (more u c t x) r = absurd (let l = ends_le x in omega arith)

  module _ {keep : List Bool} {a b : ℕ} (s : Standing decide last goal keep a) (ahead : a < last) (fits : last < length keep) (f : FirstKept keep (a + 1) b) where
    t : Top keep last a b s.ends
    t = top b s.spans ahead fits f

    here : each (marks keep) (both ◌++◌ (kept decide a b) (pending decide b t.tail)) ≡ goal
    here = ap (λ (e : List ℕ). each (marks keep) (pending decide a e)) (sym t.is) ∙ s.rest

    -- of what the span at a gives
    span_gives : {r : Answer (List ℕ)} → kept decide a b ≡ r → each (marks keep) (both ◌++◌ r (pending decide b t.tail)) ≡ goal
    span_gives k = ap (λ (r : Answer (List ℕ)). each (marks keep) (both ◌++◌ r (pending decide b t.tail))) (sym k) ∙ here

    inside : (w : ℕ) → decide a b ≡ Ok (Some w) → (a < w) × (w < b)
    inside w = D.inside a b w

    bound : b ≤ last
    bound = ends_le t.after

    left : decide a b ≡ Ok None → Standing decide last goal keep b
    left e =
        let k : kept decide a b ≡ Ok [] = unroll decide D a b t.ahead ∙ rw e in
        record { ends = t.tail; spans = t.after; rest = ap (each (marks keep)) (sym (none_left (pending decide b t.tail))) ∙ span_gives k }

    refused : (n : Refusal) → decide a b ≡ Err n → Err n ≡ goal
    refused n e = let k : kept decide a b ≡ Err n = unroll decide D a b t.ahead ∙ rw e in span_gives k

    split : (w : ℕ) → decide a b ≡ Ok (Some w) → Standing decide last goal (set keep w true) a
    split w e =
        let i = inside w e in
        let j = bound in
        let k : kept decide a b ≡ both (λ l r. w ∷ l ++ r) (kept decide a w) (kept decide w b) = unroll decide D a b t.ahead ∙ rw e in
        record {
          ends = w ∷ b ∷ t.tail;
          spans =
              more i.0
              (λ x u v. get_or-set_other keep w x true false (λ q. omega arith) ∙ t.clear x u (omega arith))
              (get_or-set_same keep w true false (omega arith))
              (more i.1
              (λ x u v. get_or-set_other keep w x true false (λ q. omega arith) ∙ t.clear x (omega arith) v)
              (get_or-set_other keep w b true false (λ q. omega arith) ∙ t.flag)
              (ends_set w i.1 t.after));
          rest =
              sym (marks_first keep w (pending decide a (w ∷ b ∷ t.tail)))
              ∙ ap (each (marks keep)) (sym (regroup w (kept decide a w) (kept decide w b) (pending decide b t.tail)))
              ∙ span_gives k;
        }

    -- what a turn of the walk has of the span from a to b, by the decision about it
    pub turn : Turn decide last goal keep a b
    turn = record {
      ahead = t.ahead;
      bound = bound;
      left = left;
      inside = inside;
      fewer = λ w e. let i = inside w e in let j = bound in unset_set keep w (omega arith) (t.clear w i.0 i.1);
      split = split;
      refused = refused;
    }
