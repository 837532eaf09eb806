-- What the readers of a sheet's last two blocks answer.
use Rattle.std.specs.Prelude.{List, ℕ}
use Rattle.std.specs.Option.{option_map}
use Rattle.text_format.specs.Format.{Format, Parsed, ◌before◌}
use Rattle.text_format.specs.Table.{line}
use Rattle.sheet_layout.specs.declared.Column.{Column}
use Rattle.sheet_layout.specs.Own.Columns.{shape_of}
use Rattle.sheet_row.specs.Rows.{raw_edge_of, raw_options_of}
use Rattle.sheet_row.specs.declared.RawEdge.{RawEdge}
use Rattle.sheet_row.specs.declared.RawOptions.{RawOptions}

-- a block of one line by its names and columns
abbrev pub single_of : List ℕ → List Column → Format (List ℕ)
single_of names columns = names before line (shape_of columns)

-- what stands for what was read, and what is left of the text
abbrev pub parsed_as : {A B : Type 0} → (A → B) → Parsed A → Parsed B
parsed_as value q = option_map (λ p. (value p.0, p.1)) q

-- the edge and the options of their lines' numbers
abbrev pub raw_ends_of : List ℕ × List ℕ → RawEdge × RawOptions
raw_ends_of t = (raw_edge_of t.0, raw_options_of t.1)
