-- What becomes of a row's numbers.
use Rattle.std.specs.Prelude.{Bool, true, false, cond, not, List, [], ◌∷◌, map, ℕ, get_or, Float}
use Rattle.std.specs.Float.{binary64}
use Rattle.std.specs.Float.Ieee.{of_bits}
use Rattle.text_format.specs.Table.{Field, float, whole, word}
use Rattle.sheet_row.specs.declared.RawEdge.{RawEdge}
use Rattle.sheet_row.specs.declared.RawOptions.{RawOptions}

-- whether a column holds floats
unfoldable pub is_float : Field → Bool
is_float float = true
is_float (whole most) = false
is_float (word ws) = false

-- those numbers of a row whose columns pass the test
unfoldable pub chosen : (Field → Bool) → List Field → List ℕ → List ℕ
chosen t [] row = []
chosen t (f ∷ fs) [] = []
chosen t (f ∷ fs) (n ∷ row) = cond (t f) (n ∷ chosen t fs row) (chosen t fs row)

-- a row's floats; a NaN's pattern is a NaN
abbrev pub floats_of : List Field → List ℕ → List Float
floats_of fs row = map (of_bits binary64) (chosen is_float fs row)

-- a row's whole numbers, its kind among them
abbrev pub wholes_of : List Field → List ℕ → List ℕ
wholes_of fs row = chosen (λ f. not (is_float f)) fs row

-- the edge's numbers by their names
abbrev pub raw_edge_of : List ℕ → RawEdge
raw_edge_of row = record {
  curve = get_or row 0 0;
  start = get_or row 1 0;
  end = get_or row 2 0;
  sense = get_or row 3 0;
  lo = get_or row 4 0;
  hi = get_or row 5 0;
  tolerance = get_or row 6 0;
  low = get_or row 7 0;
  high = get_or row 8 0;
}

-- the options' numbers by their names
abbrev pub raw_options_of : List ℕ → RawOptions
raw_options_of row = record {
  deflection = get_or row 0 0;
  angle = get_or row 1 0;
  relative = get_or row 2 0;
  segments = get_or row 3 0;
  depth = get_or row 4 0;
  scale = get_or row 5 0;
}
