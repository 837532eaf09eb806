-- The readers' steps: what the definitions read of a text, by what the library's methods tell of it. Assumes nothing.
use mathlib.Core.Logic.{◌⊎◌, inl, inr}
use mathlib.Core.Path.{◌≡◌, refl, sym, ap, ◌∙◌}
use mathlib.Core.Bool.{Bool, true, false, ◌&&◌}
use mathlib.Core.List.{List, [], ◌∷◌, map}
use Prim.Native.Nat.{ℕ, zero, suc, ◌+◌, ◌-◌, ◌*◌, ◌^◌, ◌<◌, ◌≤◌}
use native.Mathlib.Omega.{arith}
use native.Mathlib.Numerals.{add-one}
use native.Mathlib.Nat.{pow-suc, one-le-pow, mul-le-mul_left, add-mul, mul-add, mul_assoc, mul_comm, mul_left_comm}
use lib.Dec.{eqb, ltb}
use lib.ListN.{length, get_or, take, drop}
use borrow.Author.Tests.{lt-ltb, le-ltb, le-leb, lt-leb, eq-eqb, ne_eqb}
use Rattle.std.specs.Prelude.{Option, Some, None}
use Rattle.std.specs.Borrow.{Bor}
use Rattle.std.specs.Option.{option_or}
use Rattle.std.specs.Cmp.Lexicographic.{pointwise}
use Rattle.std.proofs.lemmas.List.{at_drop_all, at_drop_more, take_rest, get_or-take}
use Rattle.text_format.specs.Format.{when, digit_of, read_digits, read_decimal, expect, read_word}

-- ---- texts
-- whether the text has the bytes of w
abbrev pub begins : List ℕ → List ℕ → Bool
begins s w = pointwise eqb (take (length w) s) w

begins_cut : {A : Type 0} (w : List ℕ) (a : A) (s : List ℕ) → expect w a s ≡ when (begins s w) (Some (a, drop (length w) s))
unfolding expect when
begins_cut [] a s = refl
begins_cut (c ∷ w) a [] = refl
begins_cut (c ∷ w) a (b ∷ s) = go (eqb b c) (begins_cut w a s)
  where
    go : (t : Bool) → expect w a s ≡ when (begins s w) (Some (a, drop (length w) s))
        → when t (expect w a s) ≡ when (t && begins s w) (Some (a, drop (length w) s))
    go true e = e
    go false e = refl

pub begins_not : {A : Type 0} (w : List ℕ) (a : A) (s : List ℕ) → begins s w ≡ false → expect w a s ≡ None
unfolding when
begins_not w a s e = begins_cut w a s ∙ rw e

pub begins_so : {A : Type 0} (w : List ℕ) (a : A) (s rest : List ℕ) → begins s w ≡ true → rest ≡ drop (length w) s → expect w a s ≡ Some (a, rest)
unfolding when
begins_so w a s rest e is = begins_cut w a s ∙ rw (e, is)

-- ---- decimals
module _ (s : List ℕ) (most end v i : ℕ) where
  pub decimal_none : length s ≤ i → read_decimal most end v (drop i s) ≡ None
  unfolding read_decimal
  decimal_none h = at_drop_all (read_decimal most end v) s i h

  module _ (h : i < length s) where
    decimal_here : read_decimal most end v (drop i s) ≡ read_decimal most end v (get_or s i 0 ∷ drop (i + 1) s)
    decimal_here = at_drop_more (read_decimal most end v) s i 0 h

    pub decimal_end : get_or s i 0 ≡ end → Some (v, take (length s - (i + 1)) (drop (i + 1) s)) ≡ read_decimal most end v (drop i s)
    unfolding read_decimal
    decimal_end e = sym (decimal_here ∙ rw (eq-eqb (get_or s i 0) end e, take_rest s (i + 1)))

    module _ (no : get_or s i 0 ≡ end → ⊥) where
      pub decimal_stop : (10 ≤ digit_of (get_or s i 0)) ⊎ (most < v * 10 + digit_of (get_or s i 0)) → read_decimal most end v (drop i s) ≡ None
      unfolding read_decimal when
      decimal_stop (inl d) = decimal_here ∙ rw (ne_eqb (get_or s i 0) end no, le-ltb (digit_of (get_or s i 0)) 10 d)
      decimal_stop (inr m) = decimal_here ∙ rw (ne_eqb (get_or s i 0) end no, lt-leb (v * 10 + digit_of (get_or s i 0)) most m) (over (ltb (digit_of (get_or s i 0)) 10))
        where
          over : (t : Bool) → ◌≡◌ {A = Option (ℕ × List ℕ)} (when t None) None
          over true = refl
          over false = refl

      pub decimal_on : (m : ℕ) → digit_of (get_or s i 0) < 10 → m ≤ most → m ≡ v * 10 + digit_of (get_or s i 0) → read_decimal most end m (drop (i + 1) s) ≡ read_decimal most end v (drop i s)
      unfolding read_decimal when
      decimal_on m d l e =
          let f : v * 10 + digit_of (get_or s i 0) ≤ most = omega arith in
          sym (decimal_here ∙ rw (ne_eqb (get_or s i 0) end no, lt-ltb (digit_of (get_or s i 0)) 10 d, le-leb (v * 10 + digit_of (get_or s i 0)) most f) (ap (λ k. read_decimal most end k (drop (i + 1) s)) (sym e)))

-- ---- so many digits
pub digits_short : (base k v : ℕ) (s : List ℕ) → length s < k → read_digits base k v s ≡ None
unfolding read_digits when
digits_short base zero v s h = absurd (omega arith)
digits_short base (suc k) v [] h = refl
digits_short base (suc k) v (b ∷ s) h = go (ltb (digit_of b) base) _ (digits_short base k (v * base + digit_of b) s (omega arith))
  where
    go : (t : Bool) (p : Option (ℕ × List ℕ)) → p ≡ None → when t p ≡ None
    go true p e = e
    go false p e = refl

-- digit i of the sixteen in front
module _ (s digits : List ℕ) (v i : ℕ) (front : digits ≡ take 16 s) (few : i < 16) (h : 16 ≤ length s) where
  hex_here : read_digits 16 (16 - i) v (drop i s) ≡ when (ltb (digit_of (get_or digits i 0)) 16) (read_digits 16 (16 - (i + 1)) (v * 16 + digit_of (get_or digits i 0)) (drop (i + 1) s))
  unfolding read_digits
  hex_here =
      let k : 16 - i ≡ suc (16 - (i + 1)) = omega arith in
      let b : get_or digits i 0 ≡ get_or s i 0 = rw front (get_or-take 16 s i 0 few) in
      ap (λ k. read_digits 16 k v (drop i s)) k ∙ at_drop_more (read_digits 16 (suc (16 - (i + 1))) v) s i 0 (omega arith)
      ∙ ap (λ b. read_digits 16 (suc (16 - (i + 1))) v (b ∷ drop (i + 1) s)) (sym b)

  pub hex_stop : 16 ≤ digit_of (get_or digits i 0) → read_digits 16 (16 - i) v (drop i s) ≡ None
  unfolding when
  hex_stop d = hex_here ∙ rw (le-ltb (digit_of (get_or digits i 0)) 16 d)

  pub hex_on : (d : ℕ) → d ≡ digit_of (get_or digits i 0) → d < 16 → read_digits 16 (16 - (i + 1)) (v * 16 + d) (drop (i + 1) s) ≡ read_digits 16 (16 - i) v (drop i s)
  unfolding when
  hex_on d e l = sym (hex_here ∙ rw (sym e, lt-ltb d 16 l))

-- sixteen hex digits fit 64 bits
ruleset ring = (add-mul, mul-add, mul_assoc, mul_comm, mul_left_comm)

pub hex_fits : (v i d : ℕ) → i < 16 → (v + 1) * 16 ^ (16 - i) ≤ 16 ^ 16 → d < 16 → (v * 16 + d + 1) * 16 ^ (16 - (i + 1)) ≤ 16 ^ 16
hex_fits v i d few l h =
    let k : 16 - i ≡ suc (16 - (i + 1)) = omega arith in
    let q : (v + 1) * (16 ^ (16 - (i + 1)) * 16) ≤ 16 ^ 16 = rw (k, pow-suc 16 (16 - (i + 1))) at l in
    let m = mul-le-mul_left {m = v * 16 + d + 1} {n = (v + 1) * 16} (16 ^ (16 - (i + 1))) (omega arith) in
    omega (arith, simp ring at m, simp ring at q, mul_comm (v * 16 + d + 1) (16 ^ (16 - (i + 1))))

pub hex_small : (v i d : ℕ) → i < 16 → (v + 1) * 16 ^ (16 - i) ≤ 16 ^ 16 → d < 16 → v * 16 + d < 16 ^ 16
hex_small v i d few l h =
    let f = hex_fits v i d few l h in
    let m = mul-le-mul_left (v * 16 + d + 1) (one-le-pow (16 - (i + 1)) 16 (omega arith)) in
    omega arith

pub hex_end : (s : List ℕ) (v i : ℕ) → 16 ≤ i → Some (v, drop i s) ≡ read_digits 16 (16 - i) v (drop i s)
unfolding read_digits
hex_end s v i h =
    let k : 16 - i ≡ 0 = omega arith in
    sym (ap (λ k. read_digits 16 k v (drop i s)) k)

-- ---- one of several words
module _ (s : List ℕ) (words : List (Bor (List ℕ))) (i : ℕ) where
  pub words_none : length words ≤ i → read_word (i + 1) (map (λ w. w.now) (drop i words)) s ≡ None
  unfolding read_word
  words_none h = at_drop_all (λ l. read_word (i + 1) (map (λ w. w.now) l) s) words i h

  module _ (d : Bor (List ℕ)) (h : i < length words) where
    words_here : read_word (i + 1) (map (λ w. w.now) (drop i words)) s
        ≡ option_or (expect (get_or words i d).now (i + 1) s) (read_word (i + 1 + 1) (map (λ w. w.now) (drop (i + 1) words)) s)
    unfolding read_word
    words_here =
        at_drop_more (λ l. read_word (i + 1) (map (λ w. w.now) l) s) words i d h
        ∙ ap (λ n. option_or (expect (get_or words i d).now (i + 1) s) (read_word n (map (λ w. w.now) (drop (i + 1) words)) s)) (sym (add-one (i + 1)))

    pub words_found : (p : ℕ × List ℕ) → Some p ≡ expect (get_or words i d).now (i + 1) s → Some p ≡ read_word (i + 1) (map (λ w. w.now) (drop i words)) s
    words_found p e = sym (words_here ∙ rw (sym e))

    pub words_next : None ≡ expect (get_or words i d).now (i + 1) s
        → read_word (i + 1 + 1) (map (λ w. w.now) (drop (i + 1) words)) s ≡ read_word (i + 1) (map (λ w. w.now) (drop i words)) s
    words_next e = sym (words_here ∙ rw (sym e))
