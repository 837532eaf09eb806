-- Tables: a line of names, then lines of values in that order, one space between.
use Rattle.std.specs.Prelude.{ℕ, List, [], ◌∷◌, ◌++◌}
use Prim.Native.String.{String}
use Rattle.text_format.specs.Bytes.{bytes}
use Rattle.text_format.specs.Format.{Format, hex16, plain, one_of, ◌ending◌, ◌before◌, ◌and◌, no_items, lines}

-- what a column holds: the 64 bits of a float; whole numbers up to some number; words, numbered from 1
pub data Field : Type 0 where
  float : Field
  whole : ℕ → Field
  word : List (List ℕ) → Field

infix 80 ◌of◌
-- a column: its name, and what it holds
pub data Column : Type 0 where
  ◌of◌ : String → Field → Column

-- what the columns hold, without their names
unfoldable pub fields : List Column → List Field
fields [] = []
fields (n of f ∷ cs) = f ∷ fields cs

-- the byte behind a value: a space where another follows, the newline behind the last
unfoldable pub end_byte : {A : Type 0} → List A → ℕ
end_byte [] = 10
end_byte (a ∷ l) = 32

-- the line of names
unfoldable pub names : List Column → List ℕ
names [] = []
names (n of f ∷ cs) = bytes n ++ end_byte cs ∷ names cs

-- a cell: a value and the byte behind it
unfoldable pub cell : Field → ℕ → Format ℕ
cell float end = hex16 ending (end ∷ [])
cell (whole most) end = plain most end
cell (word ws) end = one_of ws ending (end ∷ [])

-- a line: its cells
unfoldable pub line : List Field → Format (List ℕ)
line [] = no_items
line (f ∷ fs) = cell f (end_byte fs) and line fs

-- the names, and any number of lines up to an empty one
abbrev pub table : List Column → Format (List (List ℕ))
table cs = names cs before lines (line (fields cs))

-- the names, and one line
abbrev pub single : List Column → Format (List ℕ)
single cs = names cs before line (fields cs)
