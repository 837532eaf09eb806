-- The loop of `keep_if`, and what its two tests make of a list. Assumes nothing.
use mathlib.Core.Path.{◌≡◌, refl, sym, ap, subst, ◌∙◌}
use mathlib.Core.Bool.{Bool, true, false, ◌&&◌, not, cond}
use mathlib.Core.List.{List, [], ◌∷◌, ◌++◌, append-nil}
use Prim.Native.Nat.{ℕ, suc, ◌+◌, ◌≤◌, ◌<◌}
use native.Mathlib.Numerals.{add-one}
use native.Mathlib.Omega.{arith}
use lib.ListN.{length, get_or, take, drop, set, length-set, drop_of_length-le}
use lib.Seq.{take-suc-set, drop-set-lt, drop-cons, append_snoc}
use lib.Dec.{T}
use lib.Ieee.{Float, nan, inf, fin, lt}
use lib.Ieee.Scale.{finite}
use Rattle.std.proofs.lemmas.Bool.{false≢true}
use Rattle.std.specs.List.{items_where_true}
use Rattle.std.specs.List.Retain.{ReturnsInTurn, IsFiltered}
use Rattle.knots_inside.specs.Breaks.{is_strict, is_near, apart, deduped}

-- ---- the loop: of b the first i were asked of, q is the test that p has become, and those that passed are the first k of a; what it keeps
-- of the rest follows them
module _ {P : Type 0} (R : P → Float → Bool → P → Type 0) where
  pub record Keeping (p : P) (b a : List Float) (q : P) (k i : ℕ) : Type 0 where
    pub fewer : k ≤ i
    pub same_length : length a ≡ length b
    pub rest : drop i a ≡ drop i b
    pub whole : (l : List Float) → IsFiltered R q (drop i b) l → IsFiltered R p b (take k a ++ l)

  pub keeping_start : (p : P) (b : List Float) → Keeping p b b p 0 0
  keeping_start p b = record { fewer = omega arith; same_length = refl; rest = refl; whole = λ l h. h }

  module _ {p : P} {b a : List Float} {q : P} {k i : ℕ} (s : Keeping p b a q k i) (h : i < length b) (r : P) where
    here : drop i a ≡ get_or a i nan ∷ drop (i + 1) a
    here = drop-cons a i nan (omega (arith, s.same_length)) ∙ ap (λ (n : ℕ). get_or a i nan ∷ drop n a) (sym (add-one i))

    after : drop (i + 1) a ≡ drop (i + 1) b
    after =
        let e : get_or a i nan ∷ drop (i + 1) a ≡ get_or b i nan ∷ drop (i + 1) b = sym here ∙ s.rest ∙ drop-cons b i nan h ∙ ap (λ (n : ℕ). get_or b i nan ∷ drop n b) (sym (add-one i)) in
        cc

    asked : drop i b ≡ get_or a i nan ∷ drop (i + 1) b
    asked = sym s.rest ∙ here ∙ ap (λ (l : List Float). get_or a i nan ∷ l) after

    pub keeping_skip : R q (get_or a i nan) false r → Keeping p b a r k (i + 1)
    keeping_skip g = record {
      fewer = omega (arith, s.fewer);
      same_length = s.same_length;
      rest = after;
      whole = λ l f. s.whole l (subst (λ (t : List Float). IsFiltered R q t l) (sym asked) (false ∷ f.0, f.1, ap suc f.2, (r, g, f.3), f.4));
    }

    pub keeping_keep : R q (get_or a i nan) true r → Keeping p b (set a k (get_or a i nan)) r (k + 1) (i + 1)
    keeping_keep g = record {
      fewer = omega (arith, s.fewer);
      same_length = length-set a k (get_or a i nan) ∙ s.same_length;
      rest = drop-set-lt (i + 1) a k (get_or a i nan) (omega (arith, s.fewer)) ∙ after;
      whole = λ l f.
          subst (IsFiltered R p b) (sym (stored l))
          (s.whole (get_or a i nan ∷ l) (subst (λ (t : List Float). IsFiltered R q t (get_or a i nan ∷ l)) (sym asked) (true ∷ f.0, f.1, ap suc f.2, (r, g, f.3), ap (λ (t : List Float). get_or a i nan ∷ t) f.4)));
    }
      where
        stored : (l : List Float) → take (k + 1) (set a k (get_or a i nan)) ++ l ≡ take k a ++ get_or a i nan ∷ l
        stored l =
            ap (λ (n : ℕ). take n (set a k (get_or a i nan)) ++ l) (add-one k)
            ∙ ap (λ (t : List Float). t ++ l) (take-suc-set a k (get_or a i nan) (omega (arith, s.fewer, s.same_length)))
            ∙ append_snoc (take k a) (get_or a i nan) l

  pub keeping_done : {p : P} {b a : List Float} {q : P} {k i : ℕ} → Keeping p b a q k i → length b ≤ i → IsFiltered R p b (take k a)
  keeping_done {p} {b} {a} {q} {k} {i} s h =
      subst (IsFiltered R p b) (append-nil (take k a))
      (s.whole [] (subst (λ (t : List Float). IsFiltered R q t []) (sym (drop_of_length-le b {i = i} h)) ([], q, refl, refl, refl)))

-- ---- what lies strictly between two floats is finite
pub strict_is : (above below x : Float) → lt above x ≡ true → lt x below ≡ is_strict above below x
unfolding lt
strict_is above below (fin s m e) h = rw h
strict_is above below (inf false) h = never below
  where
    never : (b : Float) → lt (inf false) b ≡ false
    never nan = refl
    never (inf true) = refl
    never (inf false) = refl
    never (fin s m e) = refl
strict_is above below (inf true) h = absurd (none above (subst T (sym h) tt))
  where
    none : (a : Float) → T (lt a (inf true)) → ⊥
    none nan g = g
    none (inf true) g = g
    none (inf false) g = g
    none (fin s m e) g = g
strict_is above below nan h = absurd (none above (subst T (sym h) tt))
  where
    none : (a : Float) → T (lt a nan) → ⊥
    none nan g = g
    none (inf s) g = g
    none (fin s m e) g = g

pub strict_not : (above below x : Float) → lt above x ≡ false → lt above x ≡ is_strict above below x
strict_not above below x h = rw h (go (finite x))
  where
    go : (b : Bool) → false ≡ (b && (false && lt x below))
    go true = refl
    go false = refl

-- ---- a test that holds the last one that passed, and passes what is not near it
module _ {P : Type 0} (R : P → Float → Bool → P → Type 0) (epsilon last : P → Float)
    (step : (p : P) (x : Float) (b : Bool) (q : P) → R p x b q → (b ≡ not (is_near (epsilon p) x (last p))) × (last q ≡ cond b x (last p)) × (epsilon q ≡ epsilon p)) where
  one : (p : P) (x : Float) (l : List Float) (b : Bool) → b ≡ not (is_near (epsilon p) x (last p)) → cond b (x ∷ apart (epsilon p) x l) (apart (epsilon p) (last p) l) ≡ apart (epsilon p) (last p) (x ∷ l)
  unfolding apart
  one p x l b e = go b (is_near (epsilon p) x (last p)) refl e
    where
      near : (u : Bool) → is_near (epsilon p) x (last p) ≡ u → elim u [ true ↦ apart (epsilon p) (last p) l | false ↦ x ∷ apart (epsilon p) x l ] ≡ apart (epsilon p) (last p) (x ∷ l)
      near u h = ap (λ (v : Bool). elim v [ true ↦ apart (epsilon p) (last p) l | false ↦ x ∷ apart (epsilon p) x l ]) (sym h)

      go : (b u : Bool) → is_near (epsilon p) x (last p) ≡ u → b ≡ not u → cond b (x ∷ apart (epsilon p) x l) (apart (epsilon p) (last p) l) ≡ apart (epsilon p) (last p) (x ∷ l)
      go true true h e = absurd (false≢true (sym e))
      go true false h e = near false h
      go false true h e = near true h
      go false false h e = absurd (false≢true e)

  told : (p : P) (l : List Float) (bs : List Bool) (q : P) → length bs ≡ length l → ReturnsInTurn R p bs l q → items_where_true bs l ≡ apart (epsilon p) (last p) l
  unfolding apart
  told p [] [] q n t = refl
  told p [] (b ∷ bs) q n t = absurd (omega arith)
  told p (x ∷ l) [] q n t = absurd (omega arith)
  told p (x ∷ l) (b ∷ bs) q n (r, g, t) =
      let s = step p x b r g in
      go b s.1 (told r l bs q (omega arith) t ∙ ap (λ (e : Float). apart e (last r) l) s.2) ∙ one p x l b s.0
    where
      go : (b : Bool) → last r ≡ cond b x (last p) → items_where_true bs l ≡ apart (epsilon p) (last r) l → items_where_true (b ∷ bs) (x ∷ l) ≡ cond b (x ∷ apart (epsilon p) x l) (apart (epsilon p) (last p) l)
      go true e h = ap (λ (t : List Float). x ∷ t) (h ∙ ap (λ (v : Float). apart (epsilon p) v l) e)
      go false e h = h ∙ ap (λ (v : Float). apart (epsilon p) v l) e

  pub apart_kept : (p : P) (l k : List Float) → IsFiltered R p l k → k ≡ apart (epsilon p) (last p) l
  apart_kept p l k f = f.4 ∙ told p l f.0 f.1 f.2 f.3

pub none_kept : (epsilon : Float) (a : List Float) → length a ≡ 0 → [] ≡ deduped epsilon a
unfolding deduped
none_kept epsilon [] h = refl
none_kept epsilon (x ∷ l) h = absurd (omega arith)

-- the first stays; k is what the rest has become, of which n are kept
pub first_kept : (epsilon : Float) (a : List Float) (first : Float) (rest k : List Float) (n : ℕ) → a ≡ first ∷ rest → take n k ≡ apart epsilon first rest → take (1 + n) (first ∷ k) ≡ deduped epsilon a
unfolding deduped
first_kept epsilon a first rest k n is h =
    let e : 1 + n ≡ suc n = omega arith in
    ap (λ (m : ℕ). take m (first ∷ k)) e ∙ ap (λ (l : List Float). first ∷ l) h ∙ sym (ap (deduped epsilon) is)
