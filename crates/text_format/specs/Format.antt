-- Formats: how a value is written down as bytes, and how it is read from the front of a text. Every format that is used is `Lawful`
-- (proofs/Laws.antt: each way to put formats together keeps the law). So only `valid` and `write` need to be believed.
use Rattle.std.specs.Prelude.{◌≡◌, Bool, true, false, cond, List, [], ◌∷◌, ◌++◌, ℕ, zero, suc, ◌+◌, ◌-◌, ◌*◌, ◌/◌, ◌%◌, ◌^◌, ◌<◌, ◌≤◌, length, get_or, ltb, leb, eqb, Option, Some, None, Result, Ok, Err}
use Rattle.std.specs.Option.{option_or}
use Rattle.base_lists.specs.All.{All}

-- what reading from the front of a text gives: nothing, or the value and what is left of the text
abbrev pub Parsed : Type 0 → Type 0
Parsed A = Option (A × List ℕ)

-- the values that have a text, their texts, and the reader
pub record Format (A : Type 0) : Type 1 where
  pub valid : A → Type 0
  pub write : A → List ℕ
  pub read : List ℕ → Parsed A

-- ---- the law of a format
-- what was read of the text bs: a valid value, and its text in front of what is left
pub record Was {A : Type 0} (F : Format A) (bs : List ℕ) (a : A) (rest : List ℕ) : Type 0 where
  pub right : F.valid a
  pub text : F.write a ++ rest ≡ bs

-- what is written is read back, whatever follows it; what is read was written so
pub record Lawful {A : Type 0} (F : Format A) : Type 0 where
  pub back : (a : A) (rest : List ℕ) → F.valid a → F.read (F.write a ++ rest) ≡ Some (a, rest)
  pub was : (bs : List ℕ) (a : A) (rest : List ℕ) → F.read bs ≡ Some (a, rest) → Was F bs a rest

-- ---- reading on
-- p where the test holds
unfoldable pub when : {A : Type 0} → Bool → Parsed A → Parsed A
when true p = p
when false p = None

-- what follows, where p was read
unfoldable pub and_then : {A B : Type 0} → Parsed A → (A → List ℕ → Parsed B) → Parsed B
and_then None f = None
and_then (Some p) f = f p.0 p.1

-- the text w, for the value a
unfoldable pub expect : {A : Type 0} → List ℕ → A → List ℕ → Parsed A
expect [] a bs = Some (a, bs)
expect (c ∷ cs) a [] = None
expect (c ∷ cs) a (b ∷ bs) = when (eqb b c) (expect cs a bs)

-- ---- digits
-- the character of a digit: 0 to 9, a to f
unfoldable pub char_of : ℕ → ℕ
char_of d = cond (ltb d 10) (48 + d) (87 + d)

-- the digit of a character; 16 if it is none
unfoldable pub digit_of : ℕ → ℕ
digit_of b = cond (ltb b 48) 16 (cond (ltb b 58) (b - 48) (cond (ltb b 97) 16 (cond (ltb b 103) (b - 87) 16)))

-- the k digits of n, the highest first
unfoldable pub digits : ℕ → ℕ → ℕ → List ℕ
digits base zero n = []
digits base (suc k) n = char_of (n / base ^ k) ∷ digits base k (n % base ^ k)

-- k digits are read, behind those that made v
unfoldable pub read_digits : ℕ → ℕ → ℕ → List ℕ → Parsed ℕ
read_digits base zero v bs = Some (v, bs)
read_digits base (suc k) v [] = None
read_digits base (suc k) v (b ∷ bs) = when (ltb (digit_of b) base) (read_digits base k (v * base + digit_of b) bs)

-- sixteen hex digits
abbrev pub hex16 : Format ℕ
hex16 = record { valid = λ n. n < 16 ^ 16; write = digits 16 16; read = read_digits 16 16 0 }

-- ---- plain decimals, with the byte that ends them
-- how many digits n has, at most k + 1
unfoldable pub width_up_to : ℕ → ℕ → ℕ
width_up_to zero n = 1
width_up_to (suc k) n = cond (ltb n (10 ^ suc k)) (width_up_to k n) (suc (suc k))

-- n without leading zeros (n below 10^20)
unfoldable pub decimal : ℕ → List ℕ
decimal n = digits 10 (width_up_to 19 n) n

-- digits up to the byte `end`, behind those that made v, while the number is at most `most`
unfoldable pub read_decimal : ℕ → ℕ → ℕ → List ℕ → Parsed ℕ
read_decimal most end v [] = None
read_decimal most end v (b ∷ bs) =
    let more = when (ltb (digit_of b) 10) (when (leb (v * 10 + digit_of b) most) (read_decimal most end (v * 10 + digit_of b) bs)) in
    cond (eqb b end) (Some (v, bs)) more

-- a plain decimal of at most `most`, then the byte `end`. A leading zero stands alone
unfoldable pub read_plain : ℕ → ℕ → List ℕ → Parsed ℕ
read_plain most end [] = None
read_plain most end (b ∷ bs) =
    when (ltb (digit_of b) 10) (cond (eqb (digit_of b) 0) (expect (end ∷ []) 0 bs) (read_decimal most end (digit_of b) bs))

abbrev pub plain : ℕ → ℕ → Format ℕ
plain most end = record { valid = λ n. n ≤ most; write = λ n. decimal n ++ (end ∷ []); read = read_plain most end }

-- ---- words
unfoldable pub read_word : ℕ → List (List ℕ) → List ℕ → Parsed ℕ
read_word n [] bs = None
read_word n (w ∷ ws) bs = option_or (expect w n bs) (read_word (suc n) ws bs)

-- one of the words, which are numbered from 1
abbrev pub one_of : List (List ℕ) → Format ℕ
one_of ws = record { valid = λ n. (1 ≤ n) × (n ≤ length ws); write = λ n. get_or ws (n - 1) []; read = read_word 1 ws }

-- ---- one behind the other
infixl 30 ◌ending◌
infixr 20 ◌then◌ ◌and◌
infixr 10 ◌before◌
-- F, then the text w
unfoldable pub ◌ending◌ : {A : Type 0} → Format A → List ℕ → Format A
◌ending◌ F w = record {
  valid = F.valid;
  write = λ a. F.write a ++ w;
  read = λ bs. and_then (F.read bs) (expect w);
}

-- the text w, then F
unfoldable pub ◌before◌ : {A : Type 0} → List ℕ → Format A → Format A
◌before◌ w F = record {
  valid = F.valid;
  write = λ a. w ++ F.write a;
  read = λ bs. and_then (expect w (tt {0}) bs) (λ _ rest. F.read rest);
}

-- F, then G
unfoldable pub ◌then◌ : {A B : Type 0} → Format A → Format B → Format (A × B)
◌then◌ F G = record {
  valid = λ p. F.valid p.0 × G.valid p.1;
  write = λ p. F.write p.0 ++ G.write p.1;
  read = λ bs. and_then (F.read bs) (λ a rest. and_then (G.read rest) (λ b more. Some ((a, b), more)));
}

-- the empty list, as the empty text
unfoldable pub no_items : {A : Type 0} → Format (List A)
no_items = record { valid = λ l. l ≡ []; write = λ _. []; read = λ bs. Some ([], bs) }

-- the valid lists and the text of `F and G`
unfoldable pub ValidCons : {A : Type 0} → (A → Type 0) → (List A → Type 0) → List A → Type 0
ValidCons P Q [] = ⊥
ValidCons P Q (a ∷ l) = P a × Q l

unfoldable pub write_cons : {A : Type 0} → (A → List ℕ) → (List A → List ℕ) → List A → List ℕ
write_cons f g [] = []
write_cons f g (a ∷ l) = f a ++ g l

-- a list: F for its head, G for the others
unfoldable pub ◌and◌ : {A : Type 0} → Format A → Format (List A) → Format (List A)
◌and◌ F G = record {
  valid = ValidCons F.valid G.valid;
  write = write_cons F.write G.write;
  read = λ bs. and_then (F.read bs) (λ a rest. and_then (G.read rest) (λ l more. Some (a ∷ l, more)));
}

-- F, for the values of another type: `from` says whose text each has, `to` what was read
unfoldable pub as_of : {A B : Type 0} → Format A → (A → B) → (B → A) → Format B
as_of F to from = record {
  valid = λ b. F.valid (from b);
  write = λ b. F.write (from b);
  read = λ bs. and_then (F.read bs) (λ a rest. Some (to a, rest));
}

-- ---- lines up to an empty one
unfoldable pub write_lines : {A : Type 0} → Format A → List A → List ℕ
write_lines F [] = 10 ∷ []
write_lines F (a ∷ l) = F.write a ++ write_lines F l

-- at most k lines
unfoldable pub read_lines : {A : Type 0} → ℕ → Format A → List ℕ → Parsed (List A)
read_lines zero F bs = None
read_lines (suc k) F [] = None
read_lines (suc k) F (b ∷ bs) =
    let more = and_then (F.read (b ∷ bs)) (λ a rest. and_then (read_lines k F rest) (λ l last. Some (a ∷ l, last))) in
    cond (eqb b 10) (Some ([], bs)) more

-- any number of lines: a text has no more of them than bytes
unfoldable pub lines : {A : Type 0} → Format A → Format (List A)
lines F = record { valid = All F.valid; write = write_lines F; read = λ bs. read_lines (length bs) F bs }

-- ---- a whole text
unfoldable pub all : {A E : Type 0} → E → Parsed A → Result A E
all e None = Err e
all e (Some (a, [])) = Ok a
all e (Some (a, b ∷ bs)) = Err e

-- the value that the text stands for; the error e where it stands for none
unfoldable pub whole_text : {A E : Type 0} → E → Format A → List ℕ → Result A E
whole_text e F bs = all e (F.read bs)
