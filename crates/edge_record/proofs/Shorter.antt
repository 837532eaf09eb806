-- A chain with some of its inner samples left out: what thinning and merging make of a chain of two and more. Assumes nothing.
use mathlib.Core.Path.{◌≡◌, refl, sym, ap, subst, ◌∙◌}
use mathlib.Core.List.{List, [], ◌∷◌, ◌++◌, drop_last}
use Prim.Native.Nat.{◌-◌, ◌≤◌}
use native.Mathlib.Omega.{arith}
use lib.ListN.{length, get_or, length-append}
use Rattle.base_lists.specs.All.{All}
use Rattle.base_lists.specs.Own.Sub.{Sub, keep}
use Rattle.base_lists.proofs.Order.{sub_all, sub_same, sub_trans, sub_append}
use Rattle.edge_record.specs.declared.Sample.{Sample}
use Rattle.edge_record.specs.Chain.{last_of, inner_samples}

-- ---- the last, and all but the last
module _ {A : Type 0} where
  pub last_snoc : (d : A) (l : List A) (p : A) → last_of d (l ++ (p ∷ [])) ≡ p
  unfolding last_of
  last_snoc d [] p = refl
  last_snoc d (q ∷ l) p = last_snoc q l p

  pub drop_last-last : (p : A) (l : List A) → drop_last (p ∷ l) ++ (last_of p l ∷ []) ≡ p ∷ l
  unfolding last_of
  drop_last-last p [] = refl
  drop_last-last p (q ∷ l) = ap (λ (r : List A). p ∷ r) (drop_last-last q l)

  pub drop_last-snoc : (l : List A) (p : A) → drop_last (l ++ (p ∷ [])) ≡ l
  drop_last-snoc [] p = refl
  drop_last-snoc (q ∷ []) p = refl
  drop_last-snoc (q ∷ r ∷ l) p = ap (λ (k : List A). q ∷ k) (drop_last-snoc (r ∷ l) p)

  pub drop_last-length : (l : List A) → length (drop_last l) ≡ length l - 1
  drop_last-length [] = refl
  drop_last-length (p ∷ []) = refl
  drop_last-length (p ∷ q ∷ l) = let h = drop_last-length (q ∷ l) in omega arith

-- ---- m is l with some of its inner samples left out
pub record Shorter (m l : List Sample) : Type 0 where
  pub begin : Sample
  pub end : Sample
  pub inner : List Sample
  pub all : List Sample
  pub is : m ≡ begin ∷ (inner ++ (end ∷ []))
  pub of : l ≡ begin ∷ (all ++ (end ∷ []))
  pub some : Sub inner all

-- a chain of two and more itself
pub shorter_same : (p q : Sample) (l : List Sample) → Shorter (p ∷ q ∷ l) (p ∷ q ∷ l)
shorter_same p q l =
    let e : p ∷ q ∷ l ≡ p ∷ (drop_last (q ∷ l) ++ (last_of q l ∷ [])) = ap (λ (r : List Sample). p ∷ r) (sym (drop_last-last q l)) in
    record { begin = p; end = last_of q l; inner = drop_last (q ∷ l); all = drop_last (q ∷ l); is = e; of = e; some = sub_same (drop_last (q ∷ l)) }

-- one after the other
pub shorter_trans : (k m l : List Sample) → Shorter k m → Shorter m l → Shorter k l
shorter_trans k m l s t =
    let e : s.begin ∷ (s.all ++ (s.end ∷ [])) ≡ t.begin ∷ (t.inner ++ (t.end ∷ [])) = sym s.of ∙ t.is in
    let b : s.begin ≡ t.begin = cc in
    let r : s.all ++ (s.end ∷ []) ≡ t.inner ++ (t.end ∷ []) = cc in
    let i : s.all ≡ t.inner = sym (drop_last-snoc s.all s.end) ∙ ap drop_last r ∙ drop_last-snoc t.inner t.end in
    let z : s.end ≡ t.end = sym (last_snoc s.begin s.all s.end) ∙ ap (last_of s.begin) r ∙ last_snoc s.begin t.inner t.end in
    record {
      begin = t.begin;
      end = t.end;
      inner = s.inner;
      all = t.all;
      is = s.is ∙ ap (λ (x : Sample). x ∷ (s.inner ++ (s.end ∷ []))) b ∙ ap (λ (x : Sample). t.begin ∷ (s.inner ++ (x ∷ []))) z;
      of = t.of;
      some = sub_trans (subst (λ (x : List Sample). Sub s.inner x) i s.some) t.some;
    }

-- ---- what follows
module _ (m l : List Sample) (s : Shorter m l) where
  pub shorter_sub : Sub m l
  shorter_sub = rw (s.is, s.of) (keep (sub_append (s.end ∷ []) s.some))

  -- two and more are left, the first and the last among them
  pub shorter_two : 2 ≤ length m
  shorter_two = rw s.is (simp length-append (omega arith))

  pub shorter_first : (d : Sample) → get_or m 0 d ≡ get_or l 0 d
  shorter_first d = rw (s.is, s.of)

  pub shorter_last : (d : Sample) → last_of d m ≡ last_of d l
  unfolding last_of
  shorter_last d = rw (s.is, s.of) (last_snoc s.begin s.inner s.end ∙ sym (last_snoc s.begin s.all s.end))

  -- what holds of each sample between the first and the last
  pub shorter_between : (P : Sample → Type 0) → All P (inner_samples l) → All P (inner_samples m)
  shorter_between P h = subst (All P) (sym (inner_of m s.begin s.inner s.end s.is)) (sub_all s.some (subst (All P) (inner_of l s.begin s.all s.end s.of) h))
    where
      inner_of : (k : List Sample) (p : Sample) (i : List Sample) (z : Sample) → k ≡ p ∷ (i ++ (z ∷ [])) → inner_samples k ≡ i
      inner_of k p i z e = ap inner_samples e ∙ drop_last-snoc i z
