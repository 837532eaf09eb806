-- A valid row: as many numbers as columns, within their widths; and how long its line is at least. Assumes nothing.
use mathlib.Core.Path.{◌≡◌, refl, ap}
use mathlib.Core.Bool.{Bool, true, false, cond, not}
use mathlib.Core.List.{List, [], ◌∷◌, ◌++◌}
use Prim.Native.Nat.{ℕ, suc, ◌+◌, ◌-◌, ◌^◌, ◌<◌, ◌≤◌}
use native.Mathlib.Omega.{arith}
use lib.ListN.{length, get_or, replicate, length-append}
use Rattle.std.proofs.lemmas.Bool.{and_parts}
use Rattle.base_lists.specs.All.{All, none as All-none, more}
use Rattle.base_lists.specs.Room.{padded}
use Rattle.text_format.specs.Format.{◌ending◌, ◌and◌, no_items, ValidCons, write_cons}
use Rattle.text_format.specs.Table.{Field, float, whole, word, end_byte, cell, line}
use Rattle.text_format.proofs.Digits.{digits_length, decimal_some}
use Rattle.text_format.proofs.Words.{differ, differ_all, differ_at, apart}
use Rattle.text_format.proofs.Tables.{Good}
use Rattle.sheet_layout.specs.Layout.{kinds}
use Rattle.sheet_layout.specs.declared.Column.{Column}
use Rattle.sheet_layout.specs.declared.Column.TheVariants.{Float, Word, Long, Kind}
use Rattle.sheet_layout.specs.Own.Columns.{shape_of}
use Rattle.sheet_row.specs.Rows.{is_float, chosen, wholes_of}
use Rattle.sheet_tables.specs.Own.Room.{least, column_count, short}

abbrev pub is_whole : Field → Bool
is_whole f = not (is_float f)

pub row_length : (fs : List Field) (row : List ℕ) → (line fs).valid row → length row ≡ length fs
unfolding line ◌and◌ no_items ValidCons
row_length [] row v = ap length v
row_length (f ∷ fs) [] v = absurd v
row_length (f ∷ fs) (n ∷ row) v = ap suc (row_length fs row v.1)

-- ---- the chosen ones
module _ (t : Field → Bool) where
  pub chosen_length : (fs : List Field) (row : List ℕ) → length row ≡ length fs → length (chosen t fs row) ≡ column_count t fs
  unfolding chosen column_count
  chosen_length [] row h = refl
  chosen_length (f ∷ fs) [] h = absurd (omega arith)
  chosen_length (f ∷ fs) (n ∷ row) h = go (t f) (chosen_length fs row (omega arith))
    where
      go : (b : Bool) → length (chosen t fs row) ≡ column_count t fs → length (cond b (n ∷ chosen t fs row) (chosen t fs row)) ≡ cond b 1 0 + column_count t fs
      go true e = omega arith
      go false e = omega arith

  -- what stands behind a row does not count
  chosen_front : (fs : List Field) (row rest : List ℕ) → length row ≡ length fs → chosen t fs (row ++ rest) ≡ chosen t fs row
  unfolding chosen
  chosen_front [] row rest h = refl
  chosen_front (f ∷ fs) [] rest h = absurd (omega arith)
  chosen_front (f ∷ fs) (n ∷ row) rest h = ap (λ l. cond (t f) (n ∷ l) l) (chosen_front fs row rest (omega arith))

  pub chosen_padded : (fs : List Field) (n : ℕ) (row : List ℕ) → length row ≡ length fs → chosen t fs (padded n 0 row) ≡ chosen t fs row
  chosen_padded fs n row h = chosen_front fs row (replicate (n - length row) 0) h

-- ---- whole numbers of 32 bits
pub narrow : (columns : List Column) (row : List ℕ) → short columns ≡ true → (line (shape_of columns)).valid row → All (λ n. n < 2 ^ 32) (wholes_of (shape_of columns) row)
unfolding line ◌and◌ no_items ValidCons cell ◌ending◌ kinds chosen is_float short
narrow [] row s v = All-none
narrow (c ∷ columns) [] s v = All-none
narrow (Float ∷ columns) (n ∷ row) s v = narrow columns row s v.1
narrow (Word ∷ columns) (n ∷ row) s v = more {a = n} (omega arith) (narrow columns row s v.1)
narrow (Long ∷ columns) (n ∷ row) s v = absurd cc
narrow (Kind ∷ columns) (n ∷ row) s v = more {a = n} (omega arith) (narrow columns row s v.1)

-- ---- bytes
word_some : (w : List ℕ) → differ (10 ∷ []) w ≡ true → 1 ≤ length w
word_some [] e = absurd cc
word_some (b ∷ w) e = omega arith

cell_long : (f : Field) → Good f → (end n : ℕ) → (cell f end).valid n → cond (is_float f) 17 2 ≤ length ((cell f end).write n)
unfolding cell ◌ending◌ is_float
cell_long float g end n v = let l = digits_length 16 16 n in simp length-append (omega arith)
cell_long (whole most) g end n v = let l = decimal_some n in simp length-append (omega arith)
cell_long (word ws) g end n v =
    let d = differ_at (10 ∷ []) ws (n - 1) (and_parts (differ_all (10 ∷ []) ws) (apart ws) g).0 (omega arith) in
    let l = word_some (get_or ws (n - 1) []) d in
    simp length-append (omega arith)

pub line_long : (fs : List Field) → All Good fs → (row : List ℕ) → (line fs).valid row → least fs ≤ length ((line fs).write row)
unfolding line ◌and◌ no_items ValidCons write_cons least
line_long [] All-none row v = omega arith
line_long (f ∷ fs) (more g gs) [] v = absurd v
line_long (f ∷ fs) (more g gs) (n ∷ row) v =
    let a = cell_long f g (end_byte fs) n v.0 in
    let b = line_long fs gs row v.1 in
    simp length-append (omega arith)
