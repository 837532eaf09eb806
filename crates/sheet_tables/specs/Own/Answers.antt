-- Tables by their names and columns, and the numbers that their readers leave in the lists that they were lent.
use Rattle.std.specs.Prelude.{List, [], ℕ, Some, None}
use Rattle.text_format.specs.Format.{Format, Parsed, ◌before◌, lines}
use Rattle.text_format.specs.Table.{line}
use Rattle.sheet_layout.specs.declared.Column.{Column}
use Rattle.sheet_layout.specs.Own.Columns.{shape_of}

-- a table by its names and columns
abbrev pub table_of : List ℕ → List Column → Format (List (List ℕ))
table_of names columns = names before lines (line (shape_of columns))

-- the numbers of what was read; none where nothing was
unfoldable pub numbers_of : {A E : Type 0} → (A → List E) → Parsed A → List E
numbers_of numbers None = []
numbers_of numbers (Some p) = numbers p.0
