-- Tables are lawful, if their numbers are bounded and their words can be told apart. Assumes nothing.
use mathlib.Core.Path.{◌≡◌, refl, sym}
use mathlib.Core.Bool.{Bool, true, false, cond, true≢false}
use mathlib.Core.List.{List, [], ◌∷◌}
use Prim.Native.Nat.{ℕ, suc, ◌^◌, ◌<◌, ◌≤◌}
use native.Mathlib.Omega.{arith}
use lib.Dec.{eqb}
use borrow.Author.Tests.{eqb-false, ne_eqb}
use Rattle.base_lists.specs.All.{All, none as All-none, more}
use Rattle.text_format.specs.Format.{Lawful, when, and_then, expect, digit_of, hex16, one_of, read_digits, read_plain, read_word, ◌ending◌, ◌and◌, lines}
use Rattle.std.proofs.lemmas.Bool.{and_parts}
use Rattle.std.specs.Prelude.{None}
use Rattle.text_format.specs.Table.{Field, float, whole, word, Column, fields, end_byte, names, cell, line, table, single}
use Rattle.text_format.proofs.Laws.{ending_law, before_law, and_law, none_law}
use Rattle.text_format.proofs.Digits.{hex16_law, plain_law}
use Rattle.text_format.proofs.Words.{differ, differ_all, apart, one_of-law}
use Rattle.text_format.proofs.Lines.{NoLine, lines_law}

-- a number of 1 to 20 digits; words that no newline begins
abbrev pub Good : Field → Type 0
Good float = Unit
Good (whole most) = (9 ≤ most) × (most < 10 ^ 20)
Good (word ws) = apart ((10 ∷ []) ∷ ws) ≡ true

pub end_byte_no_digit : {A : Type 0} (l : List A) → 10 ≤ digit_of (end_byte l)
unfolding end_byte digit_of
end_byte_no_digit [] = omega arith
end_byte_no_digit (a ∷ l) = omega arith

pub cell_law : (f : Field) → Good f → (end : ℕ) → 10 ≤ digit_of end → Lawful (cell f end)
unfolding cell
cell_law float g end h = ending_law hex16 (end ∷ []) hex16_law
cell_law (whole most) g end h = plain_law most end h g.0 g.1
cell_law (word ws) g end h = ending_law (one_of ws) (end ∷ []) (one_of-law ws (and_parts (differ_all (10 ∷ []) ws) (apart ws) g).1)

pub line_law : (fs : List Field) → All Good fs → Lawful (line fs)
unfolding line
line_law [] All-none = none_law
line_law (f ∷ fs) (more g gs) = and_law (cell f (end_byte fs)) (line fs) (cell_law f g (end_byte fs) (end_byte_no_digit fs)) (line_law fs gs)

-- ---- the newline begins none of them
no_word : (w : List ℕ) (n : ℕ) (bs : List ℕ) → differ (10 ∷ []) w ≡ true → expect w n (10 ∷ bs) ≡ None
unfolding expect when
no_word [] n bs e = absurd (true≢false (sym e))
no_word (c ∷ w) n bs e = go (eqb c 10) refl e
  where
    go : (t : Bool) → eqb c 10 ≡ t → cond t (differ [] w) true ≡ true → when (eqb 10 c) (expect w n bs) ≡ None
    go true f e = absurd (true≢false (sym e))
    go false f e = rw (ne_eqb 10 c (λ q. eqb-false c 10 f (sym q)))

no_words : (ws : List (List ℕ)) (n : ℕ) (bs : List ℕ) → differ_all (10 ∷ []) ws ≡ true → read_word n ws (10 ∷ bs) ≡ None
unfolding read_word
no_words [] n bs e = refl
no_words (w ∷ ws) n bs e =
    rw (no_word w n bs (and_parts (differ (10 ∷ []) w) (differ_all (10 ∷ []) ws) e).0)
    (no_words ws (suc n) bs (and_parts (differ (10 ∷ []) w) (differ_all (10 ∷ []) ws) e).1)

no_cell : (f : Field) → Good f → (end : ℕ) → NoLine (cell f end)
unfolding cell ◌ending◌ and_then read_digits read_plain digit_of when
no_cell float g end bs = refl
no_cell (whole most) g end bs = refl
no_cell (word ws) g end bs = rw (no_words ws 1 bs (and_parts (differ_all (10 ∷ []) ws) (apart ws) g).0)

pub no_line : (f : Field) (fs : List Field) → Good f → NoLine (line (f ∷ fs))
unfolding line ◌and◌ and_then
no_line f fs g bs = rw (no_cell f g (end_byte fs) bs)

-- ---- tables
pub table_law : (cs : List Column) → All Good (fields cs) → NoLine (line (fields cs)) → Lawful (table cs)
table_law cs g N = before_law (names cs) (lines (line (fields cs))) (lines_law (line (fields cs)) (line_law (fields cs) g) N)

pub single_law : (cs : List Column) → All Good (fields cs) → Lawful (single cs)
single_law cs g = before_law (names cs) (line (fields cs)) (line_law (fields cs) g)
