-- Laws of `thinned`: some samples are left out, never the first nor the last, and 9 is the only refusal. Assumes nothing.
use Rattle.std.specs.Prelude.{Option, Some, None, Err, Ok}
use mathlib.Core.Path.{◌≡◌, refl, sym, ap, subst, ◌∙◌}
use mathlib.Core.Bool.{Bool, true, false, cond, not, ◌||◌}
use mathlib.Core.List.{List, [], ◌∷◌, ◌++◌, drop_last}
use Prim.Native.Nat.{ℕ, zero, suc, ◌-◌, ◌<◌, ◌≤◌, min}
use native.Mathlib.Omega.{arith}
use lib.ListN.{length, get_or, set, replicate, length-set, length-replicate}
use lib.Seq.{get_or-set_same}
use lib.Dec.{ltb}
use lib.Ieee.{Float, lt}
use Rattle.arith.specs.Notation.{plus_zero}
use Rattle.base_lists.specs.Own.Sub.{Sub, end, keep, skip}
use Rattle.math.specs.declared.Vec3.{Vec3}
use Rattle.edge_record.specs.declared.Sample.{Sample}
use Rattle.edge_record.specs.Chain.{last_of, sample_point}
use Rattle.edge_record.proofs.Shorter.{Shorter, shorter_same, drop_last-last}
use Rattle.edge_thin_span.specs.Span.{decision}
use Rattle.edge_thin_span.proofs.Laws.{nine}
use Rattle.edge_thin_mark.specs.Spans.{by_split, kept_in, kept, marks, flagged}
use Rattle.edge_thin.specs.Thin.{flag_count, evens, restored, with_floor, retained_by, thinned}
use Rattle.refusal.specs.Answer.{Answer, each, both}
use Rattle.refusal.specs.declared.Refusal.{Refusal}
use Rattle.refusal.specs.declared.Refusal.TheVariants.{Endless}

-- ---- a flag that is set stays set
unset : (b : Bool) → b ≡ false → b ≡ true → ⊥
unset b e h = cc

set_keeps : (k : List Bool) (i j : ℕ) → get_or k j false ≡ true → get_or (set k i true) j false ≡ true
set_keeps [] i j h = h
set_keeps (b ∷ k) zero zero h = refl
set_keeps (b ∷ k) zero (suc j) h = h
set_keeps (b ∷ k) (suc i) zero h = h
set_keeps (b ∷ k) (suc i) (suc j) h = set_keeps k i j h

marks_keeps : (k : List Bool) (l : List ℕ) (j : ℕ) → get_or k j false ≡ true → get_or (marks k l) j false ≡ true
marks_keeps k [] j h = h
marks_keeps k (i ∷ l) j h = marks_keeps (set k i true) l j (set_keeps k i j h)

restored_keeps : (want : ℕ) (k : List Bool) (j : ℕ) → get_or k j false ≡ true → get_or (restored want k) j false ≡ true
unfolding restored
restored_keeps want k j h = go (ltb (flag_count k) want)
  where
    go : (b : Bool) → get_or (cond b (marks k (evens (length k) want want)) k) j false ≡ true
    go true = marks_keeps k (evens (length k) want want) j h
    go false = h

-- ---- the flags of both ends are set
record Ends (n : ℕ) (k : List Bool) : Type 0 where
  pub first : get_or k 0 false ≡ true
  pub last : get_or k (n - 1) false ≡ true

flagged_ends : (points : ℕ → Vec3) (tolerance angle : Float) (n : ℕ) (k : List Bool) → 0 < n → flagged points tolerance angle n ≡ Ok k → Ends n k
unfolding flagged
flagged_ends points tolerance angle n k h e = go (kept (decision points tolerance angle) 0 (n - 1)) e
  where
    go : (r : Answer (List ℕ)) → each (marks (set (set (replicate n false) 0 true) (n - 1) true)) r ≡ Ok k → Ends n k
    go (Err x) q = cc
    go (Ok l) q =
        let w : marks (set (set (replicate n false) 0 true) (n - 1) true) l ≡ k = cc in
        let z = length-replicate n false in
        record {
          first =
              ap (λ (v : List Bool). get_or v 0 false) (sym w)
              ∙ marks_keeps (set (set (replicate n false) 0 true) (n - 1) true) l 0 (set_keeps (set (replicate n false) 0 true) (n - 1) 0 (get_or-set_same (replicate n false) 0 true false (omega arith)));
          last =
              ap (λ (v : List Bool). get_or v (n - 1) false) (sym w)
              ∙ marks_keeps (set (set (replicate n false) 0 true) (n - 1) true) l (n - 1) (get_or-set_same (set (replicate n false) 0 true) (n - 1) true false (simp length-set (omega arith)));
        }

-- ---- what flags leave of a chain
-- from a second sample on, with the flag of the last set: some of those before it, and the last
record Tail (k : List Bool) (q : Sample) (l : List Sample) : Type 0 where
  pub inner : List Sample
  pub is : retained_by k (q ∷ l) ≡ inner ++ (last_of q l ∷ [])
  pub some : Sub inner (drop_last (q ∷ l))

tail : (k : List Bool) (q : Sample) (l : List Sample) → get_or k (length l) false ≡ true → Tail k q l
unfolding retained_by last_of
tail [] q l h = absurd (unset (get_or [] (length l) false) refl h)
tail (true ∷ []) q [] h = record { inner = []; is = refl; some = end }
tail (true ∷ b ∷ k) q [] h = record { inner = []; is = refl; some = end }
tail (false ∷ k) q [] h = absurd (unset false refl h)
tail (true ∷ k) q (r ∷ l) h = let t = tail k r l h in record { inner = q ∷ t.inner; is = ap (λ (x : List Sample). q ∷ x) t.is; some = keep t.some }
tail (false ∷ k) q (r ∷ l) h = let t = tail k r l h in record { inner = t.inner; is = t.is; some = skip t.some }

retained_shorter : (k : List Bool) (p q : Sample) (l : List Sample) → Ends (length (p ∷ q ∷ l)) k → Shorter (retained_by k (p ∷ q ∷ l)) (p ∷ q ∷ l)
unfolding retained_by
retained_shorter [] p q l e = absurd (unset false refl e.first)
retained_shorter (false ∷ k) p q l e = absurd (unset false refl e.first)
retained_shorter (true ∷ k) p q l e =
    let z : length (p ∷ q ∷ l) - 1 ≡ suc (length l) = omega arith in
    let t = tail k q l (ap (λ (j : ℕ). get_or (true ∷ k) j false) (sym z) ∙ e.last) in
    record {
      begin = p;
      end = last_of q l;
      inner = t.inner;
      all = drop_last (q ∷ l);
      is = ap (λ (x : List Sample). p ∷ x) t.is;
      of = ap (λ (x : List Sample). p ∷ x) (sym (drop_last-last q l));
      some = t.some;
    }

-- ---- the whole
module _ (tolerance angle : Float) (floor : ℕ) (p q : Sample) (l m : List Sample) where
  abbrev all : List Sample
  all = p ∷ q ∷ l

  by_flags : (r : Answer (List Bool)) → flagged (sample_point all) tolerance angle (length all) ≡ r → each (λ k. retained_by (with_floor floor k) all) r ≡ Ok m → Shorter m all
  by_flags (Err x) f w = cc
  by_flags (Ok k) f w =
      let s : retained_by (with_floor floor k) all ≡ m = cc in
      let x = flagged_ends (sample_point all) tolerance angle (length all) k (omega arith) f in
      subst (λ (v : List Sample). Shorter v all) s
      (retained_shorter (with_floor floor k) p q l
      (record {
        first = restored_keeps (min floor (length k)) k 0 x.first;
        last = restored_keeps (min floor (length k)) k (length all - 1) x.last;
      }))

  some_left : (b : Bool) → cond b (Ok all) (each (λ k. retained_by (with_floor floor k) all) (flagged (sample_point all) tolerance angle (length all))) ≡ Ok m → Shorter m all
  some_left true w = let x : all ≡ m = cc in subst (λ (v : List Sample). Shorter v all) x (shorter_same p q l)
  some_left false w = by_flags (flagged (sample_point all) tolerance angle (length all)) refl w

-- what callers cite, of a chain of two and more
pub thin_shorter : (tolerance angle : Float) (floor : ℕ) (l m : List Sample) → 2 ≤ length l → thinned tolerance angle floor l ≡ Ok m → Shorter m l
unfolding thinned
thin_shorter tolerance angle floor [] m h e = absurd (omega arith)
thin_shorter tolerance angle floor (p ∷ []) m h e = absurd (omega arith)
thin_shorter tolerance angle floor (p ∷ q ∷ l) m h e = some_left tolerance angle floor p q l m (ltb (length (p ∷ q ∷ l)) 3 || not (lt plus_zero tolerance)) e

-- ---- 9 is the only refusal
-- of spans, where it is the only one of a decision
module _ (decide : ℕ → ℕ → Answer (Option ℕ)) (nine_only : (a b : ℕ) (k : Refusal) → decide a b ≡ Err k → k ≡ Endless) where
  kept_refused : (n a b : ℕ) (k : Refusal) → kept_in decide n a b ≡ Err k → k ≡ Endless
  unfolding kept_in
  kept_refused zero a b k e = cc
  kept_refused (suc n) a b k e =
      go (decide a b) (nine_only a b) (λ w. parts w (kept_in decide n a w) (kept_in decide n w b) (kept_refused n a w) (kept_refused n w b)) e
    where
      parts : (w : ℕ) (x y : Answer (List ℕ)) → ((j : Refusal) → x ≡ Err j → j ≡ Endless) → ((j : Refusal) → y ≡ Err j → j ≡ Endless)
          → both (λ l r. w ∷ l ++ r) x y ≡ Err k → k ≡ Endless
      parts w (Err i) y f g q = f k q
      parts w (Ok l) (Err i) f g q = g k q
      parts w (Ok l) (Ok r) f g q = cc

      go : (d : Answer (Option ℕ)) → ((j : Refusal) → d ≡ Err j → j ≡ Endless)
          → ((w : ℕ) → both (λ l r. w ∷ l ++ r) (kept_in decide n a w) (kept_in decide n w b) ≡ Err k → k ≡ Endless)
          → by_split d (λ w. both (λ l r. w ∷ l ++ r) (kept_in decide n a w) (kept_in decide n w b)) ≡ Err k → k ≡ Endless
      go (Ok None) f g q = cc
      go (Ok (Some w)) f g q = g w q
      go (Err j) f g q = let e : j ≡ k = cc in sym e ∙ f j refl

-- a refusal is not changed on its way
each_refused : {A B : Type 0} (f : A → B) (r : Answer A) (k : Refusal) → each f r ≡ Err k → r ≡ Err k
each_refused f (Err i) k e = cc
each_refused f (Ok a) k e = cc

pub thin_refused : (tolerance angle : Float) (floor : ℕ) (l : List Sample) (k : Refusal) → thinned tolerance angle floor l ≡ Err k → k ≡ Endless
unfolding thinned flagged
thin_refused tolerance angle floor l k = go (ltb (length l) 3 || not (lt plus_zero tolerance))
  where
    go : (b : Bool) → cond b (Ok l) (each (λ keep. retained_by (with_floor floor keep) l) (flagged (sample_point l) tolerance angle (length l))) ≡ Err k → k ≡ Endless
    go true e = cc
    go false e =
        let n = length l in
        let flags = flagged (sample_point l) tolerance angle n in
        let decide = decision (sample_point l) tolerance angle in
        kept_refused decide (nine (sample_point l) tolerance angle) (n - 1 - 0) 0 (n - 1) k
        (each_refused (marks (set (set (replicate n false) 0 true) (n - 1) true)) (kept decide 0 (n - 1)) k
        (each_refused (λ keep. retained_by (with_floor floor keep) l) flags k e))
