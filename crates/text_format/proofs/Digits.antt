-- Digits: hex16 and plain decimals are lawful. Assumes nothing.
use mathlib.Core.Logic.{◌⊎◌, inl, inr}
use mathlib.Core.Path.{◌≡◌, refl, sym, ap, subst, ◌∙◌}
use mathlib.Core.Bool.{Bool, true, false, cond}
use mathlib.Core.List.{List, [], ◌∷◌, ◌++◌, append_assoc}
use Prim.Native.Nat.{ℕ, zero, suc, ◌+◌, ◌-◌, ◌*◌, ◌/◌, ◌%◌, ◌^◌, ◌<◌, ◌≤◌}
use native.Mathlib.Omega.{arith}
use native.Mathlib.Nat.{mod-lt, div-add-mod', div-lt_iff_lt-mul, mul-add-div_right, mul-add-mod_self_right, div-eq_of_lt, mod-eq_of_lt}
use native.Mathlib.Nat.{pow-suc, one-le-pow, pow-zero, pow-le-pow_right}
use native.Mathlib.Nat.{add-mul, mul-add, mul_assoc, mul_comm, mul_left_comm, mul-le-mul_left}
use lib.ListN.{length}
use lib.Dec.{ltb, leb, eqb}
use borrow.Author.Tests.{ltb-true, ltb-false, lt-ltb, le-ltb, leb-true, leb-false, le-leb, eqb-true, eqb-false, eq-eqb, ne_eqb}
use Rattle.text_format.specs.Format.{Parsed, Was, Lawful, when, expect, char_of, digit_of, digits, read_digits, hex16, width_up_to, decimal, read_decimal, read_plain, plain}
use Rattle.std.specs.Prelude.{Some}
use Rattle.std.proofs.lemmas.Option.{none-some, some_pair_parts}
use Rattle.text_format.proofs.Laws.{when_parsed, expect_back, expect_was}

ruleset ring = (add-mul, mul-add, mul_assoc, mul_comm, mul_left_comm)

pub char_digit : (d : ℕ) → d < 16 → digit_of (char_of d) ≡ d
unfolding digit_of char_of
char_digit d h = go (ltb d 10) refl
  where
    go : (b : Bool) → ltb d 10 ≡ b → digit_of (char_of d) ≡ d
    go true e =
        let q = ltb-true d 10 e in
        rw (e, le-ltb (48 + d) 48 (omega arith), lt-ltb (48 + d) 58 (omega arith)) (omega arith)
    go false e =
        let q = ltb-false d 10 e in
        rw (e, le-ltb (87 + d) 48 (omega arith), le-ltb (87 + d) 58 (omega arith))
        (rw (le-ltb (87 + d) 97 (omega arith), lt-ltb (87 + d) 103 (omega arith)) (omega arith))

pub digit_char : (b : ℕ) → digit_of b < 16 → char_of (digit_of b) ≡ b
unfolding digit_of char_of
digit_char b h = go (ltb b 48) (ltb b 58) (ltb b 97) (ltb b 103) refl refl refl refl h
  where
    go : (p q r s : Bool) → ltb b 48 ≡ p → ltb b 58 ≡ q → ltb b 97 ≡ r → ltb b 103 ≡ s
        → cond p 16 (cond q (b - 48) (cond r 16 (cond s (b - 87) 16))) < 16
        → char_of (cond p 16 (cond q (b - 48) (cond r 16 (cond s (b - 87) 16)))) ≡ b
    go true q r s e f g i h = absurd (omega arith)
    go false true r s e f g i h =
        let x = ltb-false b 48 e in
        let y = ltb-true b 58 f in
        rw (lt-ltb (b - 48) 10 (omega arith)) (omega arith)
    go false false true s e f g i h = absurd (omega arith)
    go false false false true e f g i h =
        let x = ltb-false b 97 g in
        let y = ltb-true b 103 i in
        rw (le-ltb (b - 87) 10 (omega arith)) (omega arith)
    go false false false false e f g i h = absurd (omega arith)

carry : (d base P low : ℕ) → d < base → low < P → d * P + low < P * base
carry d base P low h l = let q : P * suc d ≤ P * base = mul-le-mul_left P h in simp ring (omega (arith, simp ring at q))

quotient : (d P low : ℕ) → 1 ≤ P → low < P → (d * P + low) / P ≡ d
quotient d P low h l = mul-add-div_right h d low ∙ rw (div-eq_of_lt l) (omega arith)

remainder : (d P low : ℕ) → low < P → (d * P + low) % P ≡ low
remainder d P low l = mul-add-mod_self_right d P low ∙ mod-eq_of_lt l

-- ---- a digit in front of k others
module _ (base : ℕ) (some : 0 < base) where
  -- those that made v, then d, then k digits that make `low`
  regroup : (v d k low n : ℕ) → d * base ^ k + low ≡ n → (v * base + d) * base ^ k + low ≡ v * base ^ suc k + n
  regroup v d k low n e = rw (pow-suc base k) (simp ring (omega arith))

  pub first_small : (k n : ℕ) → n < base ^ suc k → n / base ^ k < base
  first_small k n h = (div-lt_iff_lt-mul {y = base} (one-le-pow k base some)).1 (rw (sym (mul_comm (base ^ k) base), sym (pow-suc base k)) h)

  joined_small : (k d low : ℕ) → d < base → low < base ^ k → d * base ^ k + low < base ^ suc k
  joined_small k d low h l = rw (pow-suc base k) (carry d base (base ^ k) low h l)

  joined_digits : (k d low : ℕ) → low < base ^ k → digits base (suc k) (d * base ^ k + low) ≡ char_of d ∷ digits base k low
  unfolding digits
  joined_digits k d low l = rw (quotient d (base ^ k) low (one-le-pow k base some) l, remainder d (base ^ k) low l)

  joined_text : (k b low : ℕ) (rest bs : List ℕ) → digit_of b < 16 → low < base ^ k
      → digits base k low ++ rest ≡ bs → digits base (suc k) (digit_of b * base ^ k + low) ++ rest ≡ b ∷ bs
  joined_text k b low rest bs h l e =
      ap (λ t. t ++ rest) (joined_digits k (digit_of b) low l) ∙ ap (λ c. c ∷ digits base k low ++ rest) (digit_char b h) ∙ ap (λ t. b ∷ t) e

-- ---- so many digits
module _ (base : ℕ) (some : 0 < base) (few : base ≤ 16) where
  pub digits_back : (k v n : ℕ) (rest : List ℕ) → n < base ^ k → read_digits base k v (digits base k n ++ rest) ≡ Some (v * base ^ k + n, rest)
  unfolding digits read_digits when
  digits_back zero v n rest h =
      let e = pow-zero base in
      let h2 : n < 1 = rw e at h in
      ap (λ z. Some (z, rest)) (rw e (simp ring (omega arith)))
  digits_back (suc k) v n rest h =
      let low = first_small base some k n h in
      rw (char_digit (n / base ^ k) (omega arith), lt-ltb (n / base ^ k) base low)
      (digits_back k (v * base + n / base ^ k) (n % base ^ k) rest (mod-lt n (one-le-pow k base some))
      ∙ ap (λ z. Some (z, rest)) (regroup base some v (n / base ^ k) k (n % base ^ k) n (div-add-mod' n (base ^ k))))

  pub record Digits (k v : ℕ) (bs : List ℕ) (n : ℕ) (rest : List ℕ) : Type 0 where
    pub low : ℕ
    pub fits : low < base ^ k
    pub is : n ≡ v * base ^ k + low
    pub text : digits base k low ++ rest ≡ bs

  pub digits_was : (k v : ℕ) (bs : List ℕ) (n : ℕ) (rest : List ℕ) → read_digits base k v bs ≡ Some (n, rest) → Digits k v bs n rest
  unfolding digits read_digits
  digits_was zero v bs n rest e =
      let s = some_pair_parts v n bs rest e in
      let p = pow-zero base in
      record { low = 0; fits = rw p (omega arith); is = rw p (simp ring (omega (arith, s.0))); text = sym s.1 }
  digits_was (suc k) v [] n rest e = absurd (none-some (n, rest) e)
  digits_was (suc k) v (b ∷ bs) n rest e =
      let d = digit_of b in
      let w = when_parsed (ltb d base) (read_digits base k (v * base + d) bs) n rest e in
      let lt = ltb-true d base w.test in
      let r = digits_was k (v * base + d) bs n rest w.on in
      record {
        low = d * base ^ k + r.low;
        fits = joined_small base some k d r.low lt r.fits;
        is = r.is ∙ regroup base some v d k r.low _ refl;
        text = joined_text base some k b r.low rest bs (omega arith) r.fits r.text;
      }

pub hex16_law : Lawful hex16
hex16_law = record {
  back = λ n rest v. digits_back 16 (omega arith) (omega arith) 16 0 n rest v ∙ ap (λ z. Some (z, rest)) (omega arith);
  was = λ bs n rest e.
      let d = digits_was 16 (omega arith) (omega arith) 16 0 bs n rest e in
      let q : d.low ≡ n = omega (arith, d.is) in
      record { right = subst (λ z. z < 16 ^ 16) q d.fits; text = subst (λ z. digits 16 16 z ++ rest ≡ bs) q d.text };
}

pub digits_length : (base k n : ℕ) → length (digits base k n) ≡ k
unfolding digits
digits_length base zero n = refl
digits_length base (suc k) n = ap suc (digits_length base k (n % base ^ k))

-- ---- the width of a plain decimal
pub record Width (m n w : ℕ) : Type 0 where
  pub more : ℕ
  pub is : w ≡ suc more
  pub below : n < 10 ^ suc more
  pub least : (more ≡ 0) ⊎ (10 ^ more ≤ n)

pub width : (m n : ℕ) → n < 10 ^ suc m → Width m n (width_up_to m n)
unfolding width_up_to
width zero n h = record { more = 0; is = refl; below = h; least = inl refl }
width (suc m) n h = go (ltb n (10 ^ suc m)) refl (λ l. width m n l)
  where
    go : (b : Bool) → ltb n (10 ^ suc m) ≡ b → (n < 10 ^ suc m → Width m n (width_up_to m n)) → Width (suc m) n (cond b (width_up_to m n) (suc (suc m)))
    go true e r = let w = r (ltb-true n (10 ^ suc m) e) in record { more = w.more; is = w.is; below = w.below; least = w.least }
    go false e r = record { more = suc m; is = refl; below = h; least = inr (ltb-false n (10 ^ suc m) e) }

pub width_is : (m j n : ℕ) → j ≤ m → 10 ^ j ≤ n → n < 10 ^ suc j → width_up_to m n ≡ suc j
unfolding width_up_to
width_is zero j n h l u = omega arith
width_is (suc m) j n h l u = go (leb j m) refl (λ g. width_is m j n g l u)
  where
    go : (b : Bool) → leb j m ≡ b → (j ≤ m → width_up_to m n ≡ suc j) → cond (ltb n (10 ^ suc m)) (width_up_to m n) (suc (suc m)) ≡ suc j
    go true e r =
        let g = leb-true j m e in
        let p : 10 ^ suc j ≤ 10 ^ suc m = pow-le-pow_right {n = 10} (omega arith) (omega arith) in
        rw (lt-ltb n (10 ^ suc m) (omega arith)) (r g)
    go false e r =
        let g = leb-false j m e in
        let q : j ≡ suc m = omega arith in
        rw (le-ltb n (10 ^ suc m) (subst (λ z. 10 ^ z ≤ n) q l)) (omega arith)

pub decimal_some : (n : ℕ) → 1 ≤ length (decimal n)
unfolding decimal width_up_to
decimal_some n = let w = go 19 in let l = digits_length 10 (width_up_to 19 n) n in omega arith
  where
    some : (b : Bool) (x y : ℕ) → 1 ≤ x → 1 ≤ y → 1 ≤ cond b x y
    some true x y h g = h
    some false x y h g = g

    go : (k : ℕ) → 1 ≤ width_up_to k n
    go zero = omega arith
    go (suc k) = some (ltb n (10 ^ suc k)) (width_up_to k n) (suc (suc k)) (go k) (omega arith)

-- a number with the digit d in front of k others
decimal_text : (k low d n : ℕ) → 1 ≤ d → d < 10 → low < 10 ^ k → n ≡ d * 10 ^ k + low → n < 10 ^ 20 → decimal n ≡ char_of d ∷ digits 10 k low
unfolding decimal
decimal_text k low d n one ten f i twenty =
    let p = mul-le-mul_left (10 ^ k) one in
    let lo : 10 ^ k ≤ n = omega (arith, simp ring at p) in
    let hi : n < 10 ^ suc k = rw i (joined_small 10 (omega arith) k d low ten f) in
    ap (λ w. digits 10 w n) (width_is 19 k n (few (leb k 19) refl lo) lo hi) ∙ rw i (joined_digits 10 (omega arith) k d low f)
  where
    few : (t : Bool) → leb k 19 ≡ t → 10 ^ k ≤ n → k ≤ 19
    few true e l = leb-true k 19 e
    few false e l =
        let h = leb-false k 19 e in
        let q = pow-le-pow_right {n = 10} (omega arith) {i = 20} {j = k} h in
        absurd (omega arith)

pub above_zero : (v : ℕ) → (v ≡ 0 → ⊥) → 0 < v
above_zero zero z = absurd (z refl)
above_zero (suc v) z = omega arith

-- ---- a plain decimal, up to a byte that is no digit
module _ (most end : ℕ) (no_digit : 10 ≤ digit_of end) where
  pub decimal_back : (j v n : ℕ) (rest : List ℕ) → n < 10 ^ j → v * 10 ^ j + n ≤ most
      → read_decimal most end v (digits 10 j n ++ end ∷ rest) ≡ Some (v * 10 ^ j + n, rest)
  unfolding digits read_decimal when
  decimal_back zero v n rest h g = rw (eq-eqb end end refl) (ap (λ z. Some (z, rest)) (omega arith))
  decimal_back (suc j) v n rest h g =
      let d = n / 10 ^ j in
      let P = one-le-pow j 10 (omega arith) in
      let low = first_small 10 (omega arith) j n h in
      let c = char_digit d (omega arith) in
      let other : char_of d ≡ end → ⊥ = λ e. (let z = ap digit_of e in omega arith) in
      let r = regroup 10 (omega arith) v d j (n % 10 ^ j) n (div-add-mod' n (10 ^ j)) in
      let s = mul-le-mul_left (v * 10 + d) P in
      rw (ne_eqb (char_of d) end other, c, lt-ltb d 10 low, le-leb (v * 10 + d) most (omega arith))
      (decimal_back j (v * 10 + d) (n % 10 ^ j) rest (mod-lt n P) (rw r g) ∙ ap (λ z. Some (z, rest)) r)

  pub record Decimal (v : ℕ) (bs : List ℕ) (n : ℕ) (rest : List ℕ) : Type 0 where
    pub count : ℕ
    pub low : ℕ
    pub fits : low < 10 ^ count
    pub is : n ≡ v * 10 ^ count + low
    pub most_is : n ≤ most
    pub text : digits 10 count low ++ end ∷ rest ≡ bs

  pub decimal_was : (v : ℕ) (bs : List ℕ) (n : ℕ) (rest : List ℕ) → v ≤ most → read_decimal most end v bs ≡ Some (n, rest) → Decimal v bs n rest
  unfolding digits read_decimal
  decimal_was v [] n rest h e = absurd (none-some (n, rest) e)
  decimal_was v (b ∷ bs) n rest h e = go (eqb b end) refl e (λ g f. decimal_was (v * 10 + digit_of b) bs n rest g f)
    where
      next : ℕ
      next = v * 10 + digit_of b

      go : (t : Bool) → eqb b end ≡ t → cond t (Some (v, bs)) (when (ltb (digit_of b) 10) (when (leb next most) (read_decimal most end next bs))) ≡ Some (n, rest)
          → (next ≤ most → read_decimal most end next bs ≡ Some (n, rest) → Decimal next bs n rest) → Decimal v (b ∷ bs) n rest
      go true t e r =
          let s = some_pair_parts v n bs rest e in
          record { count = 0; low = 0; fits = omega arith; is = omega (arith, s.0); most_is = omega (arith, s.0); text = cc (eqb-true b end t, s.1) }
      go false t e r =
          let w = when_parsed (ltb (digit_of b) 10) (when (leb next most) (read_decimal most end next bs)) n rest e in
          let x = when_parsed (leb next most) (read_decimal most end next bs) n rest w.on in
          let lt = ltb-true (digit_of b) 10 w.test in
          let d = r (leb-true next most x.test) x.on in
          record {
            count = suc d.count;
            low = digit_of b * 10 ^ d.count + d.low;
            fits = joined_small 10 (omega arith) d.count (digit_of b) d.low lt d.fits;
            is = d.is ∙ regroup 10 (omega arith) v (digit_of b) d.count d.low _ refl;
            most_is = d.most_is;
            text = joined_text 10 (omega arith) d.count b d.low (end ∷ rest) bs (omega arith) d.fits d.text;
          }

  zero_test : (v n : ℕ) (rest : List ℕ) (a b : Parsed ℕ) → (v ≡ 0 → a ≡ Some (n, rest)) → (0 < v → b ≡ Some (n, rest)) → cond (eqb v 0) a b ≡ Some (n, rest)
  zero_test v n rest a b f g = go (eqb v 0) refl
    where
      go : (t : Bool) → eqb v 0 ≡ t → cond t a b ≡ Some (n, rest)
      go true e = f (eqb-true v 0 e)
      go false e = g (above_zero v (eqb-false v 0 e))

  -- the first digit is 0 only if it is the only one
  zeros : (j n : ℕ) (rest : List ℕ) → n / 10 ^ j ≡ 0 → (j ≡ 0) ⊎ (10 ^ j ≤ n) → expect (end ∷ []) 0 (digits 10 j (n % 10 ^ j) ++ end ∷ rest) ≡ Some (n, rest)
  unfolding digits
  zeros zero n rest z k =
      let q = (div-lt_iff_lt-mul {k = 10 ^ 0} {x = n} {y = 1} (omega arith)).0 (omega arith) in
      expect_back (end ∷ []) 0 rest ∙ ap (λ y. Some (y, rest)) (omega arith)
  zeros (suc j) n rest z (inl k) = absurd (omega arith)
  zeros (suc j) n rest z (inr k) =
      let q = (div-lt_iff_lt-mul {k = 10 ^ suc j} {x = n} {y = 1} (one-le-pow (suc j) 10 (omega arith))).0 (omega arith) in
      absurd (omega arith)

  plain_first : (j n : ℕ) (rest : List ℕ) → n ≤ most → n < 10 ^ suc j → (j ≡ 0) ⊎ (10 ^ j ≤ n) → read_plain most end (digits 10 (suc j) n ++ end ∷ rest) ≡ Some (n, rest)
  unfolding digits read_plain when
  plain_first j n rest v h l =
      let d = n / 10 ^ j in
      let P = one-le-pow j 10 (omega arith) in
      let low = first_small 10 (omega arith) j n h in
      let m = div-add-mod' n (10 ^ j) in
      rw (char_digit d (omega arith), lt-ltb d 10 low)
      (zero_test d n rest _ _ (λ z. zeros j n rest z l)
      (λ z. decimal_back j d (n % 10 ^ j) rest (mod-lt n P) (omega arith) ∙ ap (λ y. Some (y, rest)) m))

  pub plain_back : 9 ≤ most → most < 10 ^ 20 → (n : ℕ) (rest : List ℕ) → n ≤ most → read_plain most end ((decimal n ++ (end ∷ [])) ++ rest) ≡ Some (n, rest)
  unfolding decimal
  plain_back nine twenty n rest v =
      let w = width 19 n (omega arith) in
      ap (read_plain most end) (append_assoc (decimal n) (end ∷ []) rest) ∙ ap (λ k. read_plain most end (digits 10 k n ++ end ∷ rest)) w.is
      ∙ plain_first w.more n rest v w.below w.least

  pub plain_was : 9 ≤ most → most < 10 ^ 20 → (bs : List ℕ) (n : ℕ) (rest : List ℕ) → read_plain most end bs ≡ Some (n, rest) → Was (plain most end) bs n rest
  unfolding read_plain decimal digits width_up_to char_of
  plain_was nine twenty [] n rest e = absurd (none-some (n, rest) e)
  plain_was nine twenty (b ∷ bs) n rest e =
      let w = when_parsed (ltb d 10) (cond (eqb d 0) (expect (end ∷ []) 0 bs) (read_decimal most end d bs)) n rest e in
      go (eqb d 0) refl (ltb-true d 10 w.test) w.on
    where
      d : ℕ
      d = digit_of b

      go : (t : Bool) → eqb d 0 ≡ t → d < 10 → cond t (expect (end ∷ []) 0 bs) (read_decimal most end d bs) ≡ Some (n, rest) → Was (plain most end) (b ∷ bs) n rest
      go true t l e =
          let x = expect_was (end ∷ []) 0 bs n rest e in
          let c : char_of 0 ≡ b = ap char_of (sym (eqb-true d 0 t)) ∙ digit_char b (omega arith) in
          subst (λ y. Was (plain most end) (b ∷ bs) y rest) x.same (record { right = omega arith; text = cc (x.text, c) })
      go false t l e =
          let x = decimal_was d bs n rest (omega arith) e in
          let m = x.most_is in
          let one = above_zero d (eqb-false d 0 t) in
          record {
            right = m;
            text =
                rw (decimal_text x.count x.low d n one l x.fits x.is (omega arith), digit_char b (omega arith))
                (ap (λ r. b ∷ r) (append_assoc (digits 10 x.count x.low) (end ∷ []) rest ∙ x.text));
          }

  pub plain_law : 9 ≤ most → most < 10 ^ 20 → Lawful (plain most end)
  plain_law nine twenty = record { back = plain_back nine twenty; was = plain_was nine twenty }
