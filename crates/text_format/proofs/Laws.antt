-- Every format is lawful: what is written is read back, whatever follows it, and what is read was written so.
-- Here: each way to put formats together keeps the law. Assumes nothing.
use mathlib.Core.Path.{◌≡◌, refl, sym, ap, subst, ◌∙◌}
use mathlib.Core.Bool.{Bool, true, false}
use mathlib.Core.List.{List, [], ◌∷◌, ◌++◌, append_assoc, append-nil}
use Prim.Native.Nat.{ℕ}
use lib.Dec.{eqb}
use borrow.Author.Tests.{eqb-true, eq-eqb}
use Rattle.text_format.specs.Format.{Parsed, Format, Was, Lawful, when, and_then, expect, ◌ending◌, ◌before◌, ◌then◌, no_items, ValidCons, write_cons, ◌and◌, as_of, whole_text, all}
use Rattle.std.specs.Prelude.{Some, None, Ok}
use Rattle.std.proofs.lemmas.Option.{none-some, some_pair_parts}

-- ---- reading on
pub record When {A : Type 0} (b : Bool) (p : Parsed A) (a : A) (rest : List ℕ) : Type 0 where
  pub test : b ≡ true
  pub on : p ≡ Some (a, rest)

pub when_parsed : {A : Type 0} (b : Bool) (p : Parsed A) (a : A) (rest : List ℕ) → when b p ≡ Some (a, rest) → When b p a rest
unfolding when
when_parsed true p a rest e = record { test = refl; on = e }
when_parsed false p a rest e = absurd (none-some (a, rest) e)

pub record Then {A B : Type 0} (p : Parsed A) (f : A → List ℕ → Parsed B) (b : B) (rest : List ℕ) : Type 0 where
  pub value : A
  pub left : List ℕ
  pub first : p ≡ Some (value, left)
  pub on : f value left ≡ Some (b, rest)

pub then_parsed : {A B : Type 0} (p : Parsed A) (f : A → List ℕ → Parsed B) (b : B) (rest : List ℕ)
    → and_then p f ≡ Some (b, rest) → Then p f b rest
unfolding and_then
then_parsed None f b rest e = absurd (none-some (b, rest) e)
then_parsed (Some (a, l)) f b rest e = record { value = a; left = l; first = refl; on = e }

-- ---- texts
pub expect_back : {A : Type 0} (w : List ℕ) (a : A) (rest : List ℕ) → expect w a (w ++ rest) ≡ Some (a, rest)
unfolding expect when
expect_back [] a rest = refl
expect_back (c ∷ w) a rest = rw (eq-eqb c c refl) (expect_back w a rest)

pub record Began {A : Type 0} (w : List ℕ) (a : A) (bs : List ℕ) (b : A) (rest : List ℕ) : Type 0 where
  pub same : a ≡ b
  pub text : w ++ rest ≡ bs

pub expect_was : {A : Type 0} (w : List ℕ) (a : A) (bs : List ℕ) (b : A) (rest : List ℕ)
    → expect w a bs ≡ Some (b, rest) → Began w a bs b rest
unfolding expect
expect_was [] a bs b rest e = let s = some_pair_parts a b bs rest e in record { same = s.0; text = sym s.1 }
expect_was (c ∷ w) a [] b rest e = absurd (none-some (b, rest) e)
expect_was (c ∷ w) a (d ∷ bs) b rest e =
    let h = when_parsed (eqb d c) (expect w a bs) b rest e in
    let r = expect_was w a bs b rest h.on in
    let q = eqb-true d c h.test in
    record { same = r.same; text = cc (r.text, q) }

-- ---- one behind the other
pub ending_law : {A : Type 0} (F : Format A) (w : List ℕ) → Lawful F → Lawful (F ending w)
unfolding ◌ending◌ and_then
ending_law F w L = record {
  back = λ a rest v. rw (append_assoc, L.back a (w ++ rest) v) (expect_back w a rest);
  was = λ bs a rest e.
      let t = then_parsed (F.read bs) (expect w) a rest e in
      let x = expect_was w t.value t.left a rest t.on in
      let y = L.was bs a t.left (t.first ∙ ap (λ z. Some (z, t.left)) x.same) in
      record { right = y.right; text = append_assoc (F.write a) w rest ∙ ap (λ l. F.write a ++ l) x.text ∙ y.text };
}

pub before_law : {A : Type 0} (w : List ℕ) (F : Format A) → Lawful F → Lawful (w before F)
unfolding ◌before◌ and_then
before_law w F L = record {
  back = λ a rest v. rw (append_assoc, expect_back w (tt {0}) (F.write a ++ rest)) (L.back a rest v);
  was = λ bs a rest e.
      let t = then_parsed (expect w (tt {0}) bs) (λ _ l. F.read l) a rest e in
      let x = expect_was w (tt {0}) bs t.value t.left t.first in
      let y = L.was t.left a rest t.on in
      record { right = y.right; text = append_assoc w (F.write a) rest ∙ ap (λ l. w ++ l) y.text ∙ x.text };
}

-- what reading one format behind another shows of both: `pair` makes the whole value
record Both {A B C : Type 0} (F : Format A) (G : Format B) (pair : A → B → C) (bs : List ℕ) (c : C) (rest : List ℕ) : Type 0 where
  pub a : A
  pub b : B
  pub is : pair a b ≡ c
  pub first : F.valid a
  pub second : G.valid b
  pub text : (F.write a ++ G.write b) ++ rest ≡ bs

both : {A B C : Type 0} (F : Format A) (G : Format B) → Lawful F → Lawful G → (pair : A → B → C) (bs : List ℕ) (c : C) (rest : List ℕ)
    → and_then (F.read bs) (λ a l. and_then (G.read l) (λ b more. Some (pair a b, more))) ≡ Some (c, rest) → Both F G pair bs c rest
both F G L M pair bs c rest e =
    let t = then_parsed (F.read bs) (λ a l. and_then (G.read l) (λ b more. Some (pair a b, more))) c rest e in
    let u = then_parsed (G.read t.left) (λ b more. Some (pair t.value b, more)) c rest t.on in
    let x = L.was bs t.value t.left t.first in
    let y = M.was t.left u.value u.left u.first in
    let s = some_pair_parts (pair t.value u.value) c u.left rest u.on in
    record {
      a = t.value;
      b = u.value;
      is = s.0;
      first = x.right;
      second = y.right;
      text =
          ap (λ l. (F.write t.value ++ G.write u.value) ++ l) (sym s.1)
          ∙ append_assoc (F.write t.value) (G.write u.value) u.left ∙ ap (λ l. F.write t.value ++ l) y.text ∙ x.text;
    }

pub then_law : {A B : Type 0} (F : Format A) (G : Format B) → Lawful F → Lawful G → Lawful (F then G)
unfolding ◌then◌ and_then
then_law F G L M = record {
  back = λ p rest v. rw (append_assoc, L.back p.0 (G.write p.1 ++ rest) v.0, M.back p.1 rest v.1);
  was = λ bs p rest e.
      let t = both F G L M (λ a b. (a, b)) bs p rest e in
      subst (λ z. Was (F then G) bs z rest) t.is (record { right = (t.first, t.second); text = t.text });
}

pub none_law : {A : Type 0} → Lawful (no_items {A = A})
unfolding no_items
none_law = record {
  back = λ a rest v. ap (λ z. Some (z, rest)) (sym v);
  was = λ bs a rest e. let s = some_pair_parts [] a bs rest e in record { right = sym s.0; text = sym s.1 };
}

pub and_law : {A : Type 0} (F : Format A) (G : Format (List A)) → Lawful F → Lawful G → Lawful (F and G)
unfolding ◌and◌ and_then ValidCons write_cons
and_law {A} F G L M = record { back = back; was = was }
  where
    back : (l : List A) (rest : List ℕ) → ValidCons F.valid G.valid l → (F and G).read (write_cons F.write G.write l ++ rest) ≡ Some (l, rest)
    back [] rest v = absurd v
    back (a ∷ l) rest v = rw (append_assoc, L.back a (G.write l ++ rest) v.0, M.back l rest v.1)

    was : (bs : List ℕ) (l : List A) (rest : List ℕ) → (F and G).read bs ≡ Some (l, rest) → Was (F and G) bs l rest
    was bs l rest e =
        let t = both F G L M (λ a m. a ∷ m) bs l rest e in
        subst (λ z. Was (F and G) bs z rest) t.is (record { right = (t.first, t.second); text = t.text })

-- ---- the same format over another type
pub as_law : {A B : Type 0} (F : Format A) (to : A → B) (from : B → A)
    → ((b : B) → to (from b) ≡ b) → ((a : A) → from (to a) ≡ a) → Lawful F → Lawful (as_of F to from)
unfolding as_of and_then
as_law F to from there back L = record {
  back = λ b rest v. rw (L.back (from b) rest v) (ap (λ z. Some (z, rest)) (there b));
  was = λ bs b rest e.
      let t = then_parsed (F.read bs) (λ a more. Some (to a, more)) b rest e in
      let s = some_pair_parts (to t.value) b t.left rest t.on in
      let x = L.was bs t.value t.left t.first in
      let y = sym (back t.value) in
      let w : Was (as_of F to from) bs (to t.value) t.left = record {
        right = subst (λ z. F.valid z) y x.right;
        text = subst (λ z. F.write z ++ t.left ≡ bs) y x.text;
      } in
      subst (λ z. Was (as_of F to from) bs z rest) s.0 (subst (λ z. Was (as_of F to from) bs (to t.value) z) s.1 w);
}

-- ---- a whole text
pub whole_back : {A E : Type 0} (none : E) (F : Format A) → Lawful F → (a : A) → F.valid a → whole_text none F (F.write a) ≡ Ok a
unfolding whole_text all
whole_back none F L a v = rw (ap F.read (sym (append-nil (F.write a))) ∙ L.back a [] v)

pub record Is {A : Type 0} (F : Format A) (bs : List ℕ) (a : A) : Type 0 where
  pub right : F.valid a
  pub text : F.write a ≡ bs

pub whole_was : {A E : Type 0} (none : E) (F : Format A) → Lawful F → (bs : List ℕ) (a : A) → whole_text none F bs ≡ Ok a → Is F bs a
unfolding whole_text all
whole_was {A} none F L bs a e = go (F.read bs) refl e
  where
    go : (p : Parsed A) → F.read bs ≡ p → all none p ≡ Ok a → Is F bs a
    go None f e = cc
    go (Some (b, [])) f e =
        let w = L.was bs b [] f in
        let q : b ≡ a = cc in
        subst (Is F bs) q (record { right = w.right; text = sym (append-nil (F.write b)) ∙ w.text })
    go (Some (b, c ∷ l)) f e = cc
