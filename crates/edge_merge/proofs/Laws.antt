-- Laws of `merged`: what it leaves out, what it keeps, and how far apart what it keeps stands. Assumes nothing.
use mathlib.Core.Path.{◌≡◌, refl, sym, ap, subst, ◌∙◌}
use mathlib.Core.Bool.{Bool, true, false, cond, ◌&&◌}
use mathlib.Core.List.{List, [], ◌∷◌, ◌++◌, drop_last}
use Prim.Native.Nat.{ℕ, zero, suc, ◌+◌, ◌<◌, ◌≤◌}
use native.Mathlib.Nat.{suc-add}
use native.Mathlib.Omega.{arith}
use lib.ListN.{length, get_or}
use lib.Dec.{T, ltb}
use lib.Ieee.{Float, lt, le}
use borrow.Author.Tests.{ltb-false, lt-ltb}
use Rattle.arith_order.proofs.Signed.{lt→nle}
use Rattle.arith.specs.Notation.{plus_zero}
use Rattle.math.specs.declared.Vec3.{Vec3}
use Rattle.math.specs.Math.{distance}
use Rattle.base_lists.specs.Own.Sub.{Sub, end, keep, skip}
use Rattle.base_lists.proofs.Order.{sub_same, sub_trans}
use Rattle.edge_record.specs.declared.Sample.{Sample}
use Rattle.edge_record.specs.Chain.{last_of}
use Rattle.edge_record.proofs.Shorter.{Shorter, drop_last-last, drop_last-snoc}
use Rattle.edge_merge.specs.Merge.{spaced, with_end, merged, Apart, none, one, next}

-- ---- the parts
module _ (floor : Float) where
  spaced_sub : (last : Vec3) (l : List Sample) → Sub (spaced floor last l) l
  unfolding spaced
  spaced_sub last [] = end
  spaced_sub last (p ∷ l) = go (lt floor (distance p.point last)) (spaced_sub p.point l) (spaced_sub last l)
    where
      go : (b : Bool) → Sub (spaced floor p.point l) l → Sub (spaced floor last l) l → Sub (cond b (p ∷ spaced floor p.point l) (spaced floor last l)) (p ∷ l)
      go true u v = keep u
      go false u v = skip v

  spaced_apart : (last : Sample) (l : List Sample) → Apart floor (last ∷ spaced floor last.point l)
  unfolding spaced
  spaced_apart last [] = one
  spaced_apart last (p ∷ l) = go (lt floor (distance p.point last.point)) refl (spaced_apart p l) (spaced_apart last l)
    where
      go : (b : Bool) → lt floor (distance p.point last.point) ≡ b → Apart floor (p ∷ spaced floor p.point l) → Apart floor (last ∷ spaced floor last.point l)
          → Apart floor (last ∷ cond b (p ∷ spaced floor p.point l) (spaced floor last.point l))
      go true e u v = next (subst T (sym e) tt) u
      go false e u v = v

  drop_last-apart : (l : List Sample) → Apart floor l → Apart floor (drop_last l)
  drop_last-apart l none = none
  drop_last-apart l one = none
  drop_last-apart l (next h one) = one
  drop_last-apart l (next h (next g a)) = next h (drop_last-apart _ (next g a))

drop_last-sub : (l : List Sample) → Sub (drop_last l) l
drop_last-sub [] = end
drop_last-sub (p ∷ []) = skip end
drop_last-sub (p ∷ q ∷ l) = keep (drop_last-sub (q ∷ l))

-- ---- the block, of a chain of two and more: the first, some of the inner ones, and the end
record Block (floor : Float) (p z : Sample) (all m : List Sample) : Type 0 where
  pub inner : List Sample
  pub is : m ≡ p ∷ (inner ++ (z ∷ []))
  pub some : Sub inner all
  pub apart : T (lt plus_zero floor) → Apart floor (p ∷ inner)

with_end_lem : (floor : Float) (p z : Sample) (kept all : List Sample) → Sub kept all → Apart floor (p ∷ kept) → Block floor p z all (with_end floor p (p ∷ kept) z)
unfolding with_end last_of
with_end_lem floor p z [] all s a = record { inner = []; is = alone (le (distance z.point p.point) floor); some = s; apart = λ t. a }
  where
    alone : (b : Bool) → cond (b && ltb 1 (length (p ∷ []))) (drop_last (p ∷ [])) (p ∷ []) ++ (z ∷ []) ≡ p ∷ z ∷ []
    alone true = refl
    alone false = refl
with_end_lem floor p z (x ∷ kept) all s a = go (le (distance z.point (last_of x kept).point) floor) refl
  where
    more : ltb 1 (length (p ∷ x ∷ kept)) ≡ true
    more = lt-ltb 1 (length (p ∷ x ∷ kept)) (omega arith)

    go : (b : Bool) → le (distance z.point (last_of x kept).point) floor ≡ b → Block floor p z all (with_end floor p (p ∷ x ∷ kept) z)
    go true e = record { inner = drop_last (x ∷ kept); is = rw (e, more); some = sub_trans (drop_last-sub (x ∷ kept)) s; apart = λ t. drop_last-apart floor (p ∷ x ∷ kept) a }
    go false e = record { inner = x ∷ kept; is = rw e; some = s; apart = λ t. a }

module _ (floor : Float) (p q : Sample) (l : List Sample) where
  block : Block floor p (last_of q l) (drop_last (q ∷ l)) (merged floor (p ∷ q ∷ l))
  unfolding merged last_of
  block = go (lt plus_zero floor) (ltb 2 (length (p ∷ q ∷ l))) refl refl
    where
      whole : merged floor (p ∷ q ∷ l) ≡ p ∷ q ∷ l → (T (lt plus_zero floor) → Apart floor (p ∷ drop_last (q ∷ l))) → Block floor p (last_of q l) (drop_last (q ∷ l)) (merged floor (p ∷ q ∷ l))
      whole e a = record { inner = drop_last (q ∷ l); is = e ∙ ap (λ (r : List Sample). p ∷ r) (sym (drop_last-last q l)); some = sub_same (drop_last (q ∷ l)); apart = a }

      two : (l : List Sample) → ltb 2 (length (p ∷ q ∷ l)) ≡ false → Apart floor (p ∷ drop_last (q ∷ l))
      two [] e = one
      two (r ∷ l) e = absurd (let h = ltb-false 2 (length (p ∷ q ∷ r ∷ l)) e in omega arith)

      go : (a b : Bool) → lt plus_zero floor ≡ a → ltb 2 (length (p ∷ q ∷ l)) ≡ b → Block floor p (last_of q l) (drop_last (q ∷ l)) (merged floor (p ∷ q ∷ l))
      go false b e f = whole (rw e) (λ t. absurd (subst T e t))
      go true false e f = whole (rw (e, f)) (λ t. two l f)
      go true true e f =
          let w = with_end_lem floor p (last_of q l) (spaced floor p.point (drop_last (q ∷ l))) (drop_last (q ∷ l)) (spaced_sub floor p.point (drop_last (q ∷ l))) (spaced_apart floor p (drop_last (q ∷ l))) in
          record { inner = w.inner; is = rw (e, f) w.is; some = w.some; apart = w.apart }

-- ---- what callers cite, of a chain of two and more
-- some of the inner samples are left out
pub merge_shorter : (floor : Float) (l : List Sample) → 2 ≤ length l → Shorter (merged floor l) l
merge_shorter floor [] h = absurd (omega arith)
merge_shorter floor (p ∷ []) h = absurd (omega arith)
merge_shorter floor (p ∷ q ∷ l) h =
    let b = block floor p q l in
    record {
      begin = p;
      end = last_of q l;
      inner = b.inner;
      all = drop_last (q ∷ l);
      is = b.is;
      of = ap (λ (r : List Sample). p ∷ r) (sym (drop_last-last q l));
      some = b.some;
    }

-- the clause of the merge floor: no two neighbours, the last pair excepted, at or under the floor
pub merge_apart : (floor : Float) (l : List Sample) → 2 ≤ length l → T (lt plus_zero floor) → Apart floor (drop_last (merged floor l))
merge_apart floor [] h t = absurd (omega arith)
merge_apart floor (p ∷ []) h t = absurd (omega arith)
merge_apart floor (p ∷ q ∷ l) h t =
    let b = block floor p q l in rw (b.is, drop_last-snoc (p ∷ b.inner) (last_of q l)) (b.apart t)

-- the same by index
pub apart_at : (floor : Float) (d : Sample) (l : List Sample) (i : ℕ) → Apart floor l → i + 1 < length l → T (le (distance (get_or l (i + 1) d).point (get_or l i d).point) floor) → ⊥
apart_at floor d l i none h t = omega arith
apart_at floor d l i one h t = omega arith
apart_at floor d l zero (next g a) h t = lt→nle _ _ g t
apart_at floor d l (suc i) (next {q = q} {l = k} g a) h t = apart_at floor d (q ∷ k) i a (omega arith) (rw (suc-add i 1) at t)
