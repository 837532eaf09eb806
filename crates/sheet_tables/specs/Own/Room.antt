-- How many rows a sheet can have, and so what room its tables need.
use Rattle.std.specs.Prelude.{◌≡◌, Bool, true, false, cond, not, List, [], ◌∷◌, ℕ, ◌+◌, ◌*◌, ◌<◌, ◌≤◌, length}
use Rattle.text_format.specs.Table.{Field}
use Rattle.sheet_layout.specs.Layout.{size}
use Rattle.sheet_layout.specs.declared.Column.{Column}
use Rattle.sheet_layout.specs.declared.Column.TheVariants.{Float, Word, Long, Kind}
use Rattle.sheet_layout.specs.Own.Columns.{shape_of}
use Rattle.sheet_row.specs.Rows.{is_float}

-- the fewest bytes of a line: a float takes 17 with the byte behind it, any other value 2
unfoldable pub least : List Field → ℕ
least [] = 0
least (f ∷ fs) = cond (is_float f) 17 2 + least fs

-- how many columns pass the test
unfoldable pub column_count : (Field → Bool) → List Field → ℕ
column_count t [] = 0
column_count t (f ∷ fs) = cond (t f) 1 0 + column_count t fs

-- no column of 64 bits
unfoldable pub short : List Column → Bool
short [] = true
short (Float ∷ cs) = short cs
short (Word ∷ cs) = short cs
short (Long ∷ cs) = false
short (Kind ∷ cs) = short cs

-- the columns of a table's rows, for which w whole numbers and f floats are room enough, whatever rows 65,536 bytes hold
pub record Roomy (columns : List Column) (w f : ℕ) : Type 0 where
  pub some : 0 < length columns
  pub few : length columns ≤ 9
  pub slim : short columns ≡ true
  pub wholes : (n : ℕ) → least (shape_of columns) * n ≤ size → column_count (λ c. not (is_float c)) (shape_of columns) * n ≤ w
  pub floats : (n : ℕ) → least (shape_of columns) * n ≤ size → column_count is_float (shape_of columns) * n ≤ f
