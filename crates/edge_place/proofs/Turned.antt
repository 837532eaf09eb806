-- A list turned round by exchanging its ends, then what lies between them. Assumes nothing.
use mathlib.Core.Path.{◌≡◌, refl, sym, ap, ◌∙◌}
use mathlib.Core.Bool.{Bool, true, false}
use mathlib.Core.List.{List, [], ◌∷◌, ◌++◌, reverse, reverse-cons}
use Prim.Native.Nat.{ℕ, suc, ◌+◌, ◌-◌, ◌<◌, ◌≤◌}
use native.Mathlib.Omega.{arith}
use lib.Dec.{ltb, eqb}
use lib.ListN.{length, get_or, set, length-set, length-reverse, get_or-append}
use lib.Seq.{get_or_at, get_or-set_same, get_or-set_other, ext_get_or}
use borrow.Author.Tests.{ltb-true, ltb-false, eqb-true, eqb-false}
use Rattle.edge_record.specs.declared.Sample.{Sample}

get_d_reverse : (l : List Sample) (i : ℕ) (d : Sample) → i < length l → get_or (reverse l) i d ≡ get_or l (length l - 1 - i) d
get_d_reverse [] i d h = absurd (omega arith)
get_d_reverse (x ∷ l) i d h = ap (λ (r : List Sample). get_or r i d) (reverse-cons x l) ∙ go (ltb i (length l)) refl (λ k. get_d_reverse l i d k)
  where
    go : (b : Bool) → ltb i (length l) ≡ b → (i < length l → get_or (reverse l) i d ≡ get_or l (length l - 1 - i) d)
        → get_or (reverse l ++ (x ∷ [])) i d ≡ get_or (x ∷ l) (suc (length l) - 1 - i) d
    go true e f =
        let k : i < length l = ltb-true i (length l) e in
        let q : suc (length l) - 1 - i ≡ suc (length l - 1 - i) = omega arith in
        get_or-append (reverse l) (x ∷ []) d i (omega (arith, length-reverse l)) ∙ f k ∙ ap (λ (n : ℕ). get_or (x ∷ l) n d) (sym q)
    go false e f =
        let k : length l ≤ i = ltb-false i (length l) e in
        let q : suc (length l) - 1 - i ≡ 0 = omega arith in
        get_or_at (reverse l) x [] d i (length-reverse l ∙ omega arith) ∙ ap (λ (n : ℕ). get_or (x ∷ l) n d) (sym q)

-- m is l with the first i and the last i exchanged, each with its mirror; one in the middle is its own. d stands past the end
pub record Turned (d : Sample) (l m : List Sample) (i : ℕ) : Type 0 where
  pub same : length m ≡ length l
  pub outer : (k : ℕ) → k < length l → (i ≤ k → k + i < length l → k + k + 1 ≡ length l) → get_or m k d ≡ get_or l (length l - 1 - k) d
  pub inner : (k : ℕ) → i ≤ k → k + i < length l → get_or m k d ≡ get_or l k d

pub turned_none : (d : Sample) (l : List Sample) → Turned d l l 0
turned_none d l = record { same = refl; outer = λ k h f. middle k (f (omega arith) (omega arith)); inner = λ k h g. refl }
  where
    middle : (k : ℕ) → k + k + 1 ≡ length l → get_or l k d ≡ get_or l (length l - 1 - k) d
    middle k e = let q : k ≡ length l - 1 - k = omega arith in ap (λ (z : ℕ). get_or l z d) q

module _ {d : Sample} {l m : List Sample} {i : ℕ} (t : Turned d l m i) where
  -- one pair more, at i and j
  pub turned_more : (j : ℕ) → i < j → i + j + 1 ≡ length l → Turned d l (set (set m i (get_or m j d)) j (get_or m i d)) (i + 1)
  turned_more j h e = record {
    same = length-set (set m i b) j a ∙ long;
    outer = λ k u f. at k u f (eqb k i) refl (eqb k j) refl;
    inner = λ k u v. other k (λ q. omega arith) (λ q. omega arith) ∙ t.inner k (omega arith) (omega arith);
  }
    where
      a : Sample
      a = get_or m i d

      b : Sample
      b = get_or m j d

      long : length (set m i b) ≡ length l
      long = length-set m i b ∙ t.same

      other : (k : ℕ) → (k ≡ i → ⊥) → (k ≡ j → ⊥) → get_or (set (set m i b) j a) k d ≡ get_or m k d
      other k u v = get_or-set_other (set m i b) j k a d v ∙ get_or-set_other m i k b d u

      first : get_or (set (set m i b) j a) i d ≡ get_or l j d
      first = get_or-set_other (set m i b) j i a d (λ q. omega arith) ∙ get_or-set_same m i b d (omega (arith, t.same)) ∙ t.inner j (omega arith) (omega arith)

      last : get_or (set (set m i b) j a) j d ≡ get_or l i d
      last = get_or-set_same (set m i b) j a d (omega (arith, long)) ∙ t.inner i (omega arith) (omega arith)

      at : (k : ℕ) → k < length l → (i + 1 ≤ k → k + (i + 1) < length l → k + k + 1 ≡ length l) → (x : Bool) → eqb k i ≡ x → (y : Bool) → eqb k j ≡ y
          → get_or (set (set m i b) j a) k d ≡ get_or l (length l - 1 - k) d
      at k u f true x y w =
          let q : k ≡ i = eqb-true k i x in
          let r : j ≡ length l - 1 - k = omega arith in
          ap (λ (z : ℕ). get_or (set (set m i b) j a) z d) q ∙ first ∙ ap (λ (z : ℕ). get_or l z d) r
      at k u f false x true w =
          let q : k ≡ j = eqb-true k j w in
          let r : i ≡ length l - 1 - k = omega arith in
          ap (λ (z : ℕ). get_or (set (set m i b) j a) z d) q ∙ last ∙ ap (λ (z : ℕ). get_or l z d) r
      at k u f false x false w =
          let p : k ≡ i → ⊥ = eqb-false k i x in
          let q : k ≡ j → ⊥ = eqb-false k j w in
          other k p q ∙ t.outer k u (λ v z. f (omega arith) (omega arith))

  -- nothing is left between
  pub turned_all : length l ≤ i + i + 1 → m ≡ reverse l
  turned_all h =
      ext_get_or d m (reverse l) (t.same ∙ sym (length-reverse l))
      (λ k u. let v : k < length l = omega (arith, t.same) in t.outer k v (λ p q. omega arith) ∙ sym (get_d_reverse l k d v))
