-- Words: they are told apart by one computed test, that no two agree as far as both go. Assumes nothing.
use mathlib.Core.Path.{◌≡◌, refl, sym, ap, ◌∙◌}
use mathlib.Core.Bool.{Bool, true, false, cond, ◌&&◌, true≢false}
use mathlib.Core.List.{List, [], ◌∷◌, ◌++◌}
use Prim.Native.Nat.{ℕ, zero, suc, ◌+◌, ◌-◌, ◌<◌}
use native.Mathlib.Omega.{arith}
use lib.ListN.{length, get_or}
use lib.Dec.{eqb}
use Rattle.text_format.specs.Format.{Parsed, Lawful, when, expect, read_word, one_of}
use Rattle.std.proofs.lemmas.Bool.{and_parts}
use Rattle.std.specs.Option.{option_or}
use Rattle.std.specs.Prelude.{Some, None}
use Rattle.std.proofs.lemmas.Option.{none-some, some_pair_parts}
use Rattle.text_format.proofs.Laws.{expect_back, expect_was}

abbrev pub differ : List ℕ → List ℕ → Bool
differ [] v = false
differ (a ∷ w) [] = false
differ (a ∷ w) (b ∷ v) = cond (eqb b a) (differ w v) true

abbrev pub differ_all : List ℕ → List (List ℕ) → Bool
differ_all w [] = true
differ_all w (v ∷ vs) = differ w v && differ_all w vs

abbrev pub apart : List (List ℕ) → Bool
apart [] = true
apart (w ∷ ws) = differ_all w ws && apart ws

expect_not : (w v : List ℕ) (n : ℕ) (rest : List ℕ) → differ w v ≡ true → expect w n (v ++ rest) ≡ None
unfolding expect when
expect_not [] v n rest e = absurd (true≢false (sym e))
expect_not (a ∷ w) [] n rest e = absurd (true≢false (sym e))
expect_not (a ∷ w) (b ∷ v) n rest e = go (eqb b a) e (λ f. expect_not w v n rest f)
  where
    go : (t : Bool) → cond t (differ w v) true ≡ true → (differ w v ≡ true → expect w n (v ++ rest) ≡ None) → when t (expect w n (v ++ rest)) ≡ None
    go true f r = r f
    go false f r = refl

pub differ_at : (w : List ℕ) (ws : List (List ℕ)) (i : ℕ) → differ_all w ws ≡ true → i < length ws → differ w (get_or ws i []) ≡ true
differ_at w [] i e h = absurd (omega arith)
differ_at w (v ∷ vs) zero e h = (and_parts (differ w v) (differ_all w vs) e).0
differ_at w (v ∷ vs) (suc i) e h = differ_at w vs i (and_parts (differ w v) (differ_all w vs) e).1 (omega arith)

pub word_back : (ws : List (List ℕ)) (n i : ℕ) (rest : List ℕ) → apart ws ≡ true → i < length ws → read_word n ws (get_or ws i [] ++ rest) ≡ Some (n + i, rest)
unfolding read_word
word_back [] n i rest e h = absurd (omega arith)
word_back (w ∷ ws) n zero rest e h = rw (expect_back w n rest) (ap (λ z. Some (z, rest)) (omega arith))
word_back (w ∷ ws) n (suc i) rest e h =
    rw (expect_not w (get_or ws i []) n rest (differ_at w ws i (and_parts (differ_all w ws) (apart ws) e).0 (omega arith)))
    (word_back ws (suc n) i rest (and_parts (differ_all w ws) (apart ws) e).1 (omega arith) ∙ ap (λ z. Some (z, rest)) (omega arith))

pub record Word (ws : List (List ℕ)) (n : ℕ) (bs : List ℕ) (m : ℕ) (rest : List ℕ) : Type 0 where
  pub place : ℕ
  pub inside : place < length ws
  pub is : m ≡ n + place
  pub text : get_or ws place [] ++ rest ≡ bs

pub word_was : (ws : List (List ℕ)) (n : ℕ) (bs : List ℕ) (m : ℕ) (rest : List ℕ) → read_word n ws bs ≡ Some (m, rest) → Word ws n bs m rest
unfolding read_word
word_was [] n bs m rest e = absurd (none-some (m, rest) e)
word_was (w ∷ ws) n bs m rest e = go (expect w n bs) refl e (λ f. word_was ws (suc n) bs m rest f)
  where
    go : (p : Parsed ℕ) → expect w n bs ≡ p → option_or p (read_word (suc n) ws bs) ≡ Some (m, rest) → (read_word (suc n) ws bs ≡ Some (m, rest) → Word ws (suc n) bs m rest) → Word (w ∷ ws) n bs m rest
    go None q f r = let x = r f in record { place = suc x.place; inside = omega (arith, x.inside); is = omega (arith, x.is); text = x.text }
    go (Some (a, l)) q f r =
        let x = expect_was w n bs a l q in
        let s = some_pair_parts a m l rest f in
        record { place = 0; inside = omega arith; is = omega (arith, x.same, s.0); text = ap (λ t. w ++ t) (sym s.1) ∙ x.text }

pub one_of-law : (ws : List (List ℕ)) → apart ws ≡ true → Lawful (one_of ws)
one_of-law ws e = record {
  back = λ n rest v. word_back ws 1 (n - 1) rest e (omega arith) ∙ ap (λ z. Some (z, rest)) (omega arith);
  was = λ bs n rest f.
      let x = word_was ws 1 bs n rest f in
      let i = x.inside in
      let q : n - 1 ≡ x.place = omega (arith, x.is) in
      record { right = (omega (arith, x.is), omega (arith, x.is)); text = ap (λ z. get_or ws z [] ++ rest) q ∙ x.text };
}
