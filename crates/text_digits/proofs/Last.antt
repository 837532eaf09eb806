-- The last digit of a number, behind the others; and how many a plain decimal has. Assumes nothing.
use Rattle.std.proofs.Common.{◌≡◌, refl, sym, ap, ◌∙◌, ℕ, zero, suc, ◌+◌, ◌*◌, ◌/◌, ◌%◌, ◌^◌, ◌≤◌, ◌<◌, List, [], ◌∷◌, ◌++◌, length, drop, set, Option, Some, None, IfSome, IfNone, arith, append_assoc, drop-cons, get_or-set_same, length-set, add-one}
use Rattle.std.proofs.Math.Arith.{mod-mul}
use Rattle.std.proofs.Math.Nat.{mod-lt, mod-eq_of_lt, div-div-eq-div-mul, one-le-pow, pow-suc, pow-zero, mul_comm, div-one, div-lt_iff_lt-mul}
use Rattle.std.proofs.lemmas.List.{drop-set-lt}
use Rattle.std.proofs.lemmas.Nat.{mod-mul-add, div-mul-add}
use Rattle.std.specs.Option.{unwrap_or}
use Rattle.text_format.specs.Format.{char_of, digits, width_up_to, decimal}
use Rattle.text_format.proofs.Digits.{width_is}

module _ (base : ℕ) (some : 0 < base) where
  digits_last : (k n : ℕ) → n < base ^ suc k → digits base (suc k) n ≡ digits base k (n / base) ++ char_of (n % base) ∷ []
  unfolding digits
  digits_last zero n h =
      let few : n < base = omega (arith, rw (pow-suc base 0, pow-zero base) at h) in
      let one : n / base ^ 0 ≡ n % base = ap (λ p. n / p) (pow-zero base) ∙ div-one n ∙ sym (mod-eq_of_lt few) in
      ap (λ d. char_of d ∷ []) one
  digits_last (suc k) n h =
      let P = base ^ k in
      let small = mod-lt n some in
      let split : n % base ^ suc k ≡ (n / base % P) * base + n % base = ap (λ p. n % p) (pow-suc base k) ∙ mod-mul n (one-le-pow k base some) some in
      let high : n / base ^ suc k ≡ n / base / P = ap (λ p. n / p) (pow-suc base k ∙ mul_comm P base) ∙ sym (div-div-eq-div-mul n base P) in
      let below : n % base ^ suc k < base ^ suc k = mod-lt n (one-le-pow (suc k) base some) in
      let others : (n % base ^ suc k) / base ≡ n / base % P = ap (λ m. m / base) split ∙ div-mul-add _ base _ small in
      let last : (n % base ^ suc k) % base ≡ n % base = ap (λ m. m % base) split ∙ mod-mul-add _ base _ small in
      let rest = digits_last k (n % base ^ suc k) below in
      rw (rest, high, others, last)

  -- the last of the digits that are left is put in front of those behind it
  pub digit_put : (k i n : ℕ) (l : List ℕ) (c : ℕ) → i ≡ suc k → i ≤ length l → n < base ^ i → c ≡ char_of (n % base)
      → (n / base < base ^ k) × (digits base k (n / base) ++ drop k (set l k c) ≡ digits base i n ++ drop i l)
  digit_put k i n l c z h f e =
      let g : n < base ^ suc k = rw z at f in
      let here : k < length (set l k c) = simp length-set (omega arith) in
      let m : k < length l = omega arith in (
        (div-lt_iff_lt-mul {y = base ^ k} some).1 (rw (pow-suc base k) at g),
        rw (z, drop-cons (set l k c) k 0 here, get_or-set_same l k c 0 m, drop-set-lt (suc k) l k c (omega arith), e, digits_last k n g) (sym (append_assoc (digits base k (n / base)) (char_of (n % base) ∷ []) (drop (suc k) l))),
      )

-- ---- how many decimal digits: one more than the whole logarithm, and 0 has one
small_width : (n : ℕ) → n < 10 → width_up_to 19 n ≡ 1
unfolding width_up_to
small_width zero h = refl
small_width (suc n) h = width_is 19 0 (suc n) (omega arith) (omega arith) (omega arith)

pub decimal_is : (n : ℕ) (o : Option ℕ) → IfNone o (n ≡ 0) → IfSome o (λ k. 10 ^ k ≤ n) → IfSome o (λ k. n < 10 * 10 ^ k) → IfSome o (λ k. k < 20)
    → (unwrap_or o 0 < 20) × (digits 10 (unwrap_or o 0 + 1) n ≡ decimal n)
unfolding decimal
decimal_is n None z l u m = (omega arith, ap (λ k. digits 10 k n) (sym (small_width n (omega arith))))
decimal_is n (Some k) z l u m =
    (m, ap (λ j. digits 10 j n) (add-one k ∙ sym (width_is 19 k n (omega arith) l (rw pow-suc (omega arith)))))
