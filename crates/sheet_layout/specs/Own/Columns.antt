-- Columns as the code names them; rows of nine numbers.
use Rattle.std.specs.Prelude.{List, map, ℕ}
use Rattle.std.specs.Option.{option_map}
use Rattle.text_format.specs.Format.{Parsed}
use Rattle.text_format.specs.Table.{Field, float}
use Rattle.sheet_layout.specs.Layout.{u32, u64, kind}
use Rattle.sheet_layout.specs.declared.Column.{Column}
use Rattle.sheet_layout.specs.declared.Column.TheVariants.{Float, Word, Long, Kind}
use Rattle.base_lists.specs.Room.{padded}

-- a float; a whole number of 32 bits; one of 64; a kind
abbrev pub field_of : Column → Field
field_of Float = float
field_of Word = u32
field_of Long = u64
field_of Kind = kind

abbrev pub shape_of : List Column → List Field
shape_of = map field_of

-- a line that was read: its numbers, and zeros behind them
abbrev pub parsed_row : Parsed (List ℕ) → Parsed (List ℕ)
parsed_row q = option_map (λ p. (padded 9 0 p.0, p.1)) q
