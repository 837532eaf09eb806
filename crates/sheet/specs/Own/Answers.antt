-- What the parts of the reader answer, and what they leave in the tables. Where nothing was read, nothing is said of the tables.
use Rattle.std.specs.Prelude.{◌≡◌, List, [], ℕ, length, Some, None, Result, Ok, Err}
use Rattle.refusal.specs.declared.Refusal.{Refusal}
use Rattle.text_format.specs.Format.{Parsed}
use Rattle.sheet_layout.specs.Layout.{RawSheet}
use Rattle.brep.specs.Rows.{Tables}
use Rattle.sheet.specs.Sheet.{tables_of, stored}

-- the rows of points, curves and segments
abbrev pub Three : Type 0
Three = List (List ℕ) × (List (List ℕ) × List (List ℕ))

-- how many rows each table has
abbrev pub counts_of : Three → ℕ × ℕ × ℕ
counts_of t = (length t.0, length t.1.0, length t.1.1)

-- the three tables, as a sheet with nothing else
abbrev pub only_tables : Three → RawSheet
only_tables t = record { points = t.0; curves = t.1.0; segments = t.1.1; edge = []; options = [] }

-- they are stored
unfoldable pub TablesStored : Parsed Three → Tables → Type 0
TablesStored None new = Unit
TablesStored (Some p) new = new ≡ stored (tables_of (only_tables p.0))

-- the sheet's tables are stored
unfoldable pub SheetStored : Result RawSheet Refusal → Tables → Type 0
SheetStored (Err cause) new = Unit
SheetStored (Ok raw) new = new ≡ stored (tables_of raw)
