-- The sheet's layout. A raw sheet is lists of whole numbers: a line's numbers in the order of its columns, a float as its 64 bits, a
-- kind as its number from 1 to 8.
use Rattle.std.specs.Prelude.{◌≡◌, cond, List, [], ◌∷◌, ℕ, ◌-◌, ◌^◌, ◌≤◌, length, leb, Result, Ok, Err}
use Rattle.refusal.specs.declared.Refusal.{Refusal}
use Rattle.refusal.specs.declared.Refusal.TheVariants.{NoSheet}
use Rattle.text_format.specs.Bytes.{bytes}
use Rattle.text_format.specs.Format.{Format, ◌ending◌, ◌then◌, as_of, whole_text}
use Rattle.text_format.specs.Table.{Field, float, whole, word, Column, ◌of◌, table, single}

-- the kinds' words, numbered from 1
unfoldable pub kinds : List (List ℕ)
kinds = bytes "line" ∷ bytes "circle" ∷ bytes "ellipse" ∷ bytes "parabola" ∷ bytes "polyline" ∷ bytes "trimmed" ∷ bytes "composite" ∷ bytes "hyperbola" ∷ []

-- what the columns hold besides floats
abbrev pub u32 : Field
u32 = whole (2 ^ 32 - 1)

abbrev pub u64 : Field
u64 = whole (2 ^ 64 - 1)

abbrev pub kind : Field
kind = word kinds

-- ---- the columns of the five blocks
abbrev pub point_columns : List Column
point_columns = "x" of float ∷ "y" of float ∷ "z" of float ∷ []

abbrev pub curve_columns : List Column
curve_columns = "kind" of kind ∷ "first" of u32 ∷ "count" of u32 ∷ "p" of float ∷ "q" of float ∷ []

abbrev pub segment_columns : List Column
segment_columns = "curve" of u32 ∷ "lo" of float ∷ "hi" of float ∷ "sense" of u32 ∷ []

abbrev pub edge_columns : List Column
edge_columns =
    "curve" of u32 ∷ "start" of u32 ∷ "end" of u32 ∷ "sense" of u32 ∷ "lo" of float ∷ "hi" of float ∷ "tolerance" of float
    ∷ "low" of u32 ∷ "high" of u32 ∷ []

abbrev pub option_columns : List Column
option_columns = "deflection" of float ∷ "angle" of float ∷ "relative" of u32 ∷ "segments" of u64 ∷ "depth" of u32 ∷ "scale" of float ∷ []

-- ---- the sheet
pub record RawSheet : Type 0 where
  pub points : List (List ℕ)
  pub curves : List (List ℕ)
  pub segments : List (List ℕ)
  pub edge : List ℕ
  pub options : List ℕ

-- the three tables, each with the empty line behind it
abbrev pub tables_format : Format (List (List ℕ) × (List (List ℕ) × List (List ℕ)))
tables_format = table point_columns then table curve_columns then table segment_columns

-- the edge and the empty line behind it, then the options
abbrev pub ends : Format (List ℕ × List ℕ)
ends = single edge_columns ending (10 ∷ []) then single option_columns

-- the five blocks, for a raw sheet
unfoldable pub sheet : Format RawSheet
sheet =
    as_of (tables_format then ends)
    (λ t. record { points = t.0.0; curves = t.0.1.0; segments = t.0.1.1; edge = t.1.0; options = t.1.1 })
    (λ s. ((s.points, (s.curves, s.segments)), (s.edge, s.options)))

-- THE layout: the one text that stands for a sheet
abbrev pub layout : RawSheet → List ℕ
layout = sheet.write

-- each line has a number for each of its columns, within its width
abbrev pub Valid : RawSheet → Type 0
Valid = sheet.valid

-- the most bytes that a sheet may have
abbrev pub size : ℕ
size = 65536

-- so many bytes hold no more rows than these: points of 51 bytes, curves of 40 or more, segments of 38 or more
abbrev pub sheet_points : ℕ
sheet_points = 1285

abbrev pub sheet_curves : ℕ
sheet_curves = 1638

abbrev pub sheet_segments : ℕ
sheet_segments = 1724

-- the sheet that a text stands for; NoSheet where it stands for none or is too long
unfoldable pub read_sheet : List ℕ → Result RawSheet Refusal
read_sheet text = cond (leb (length text) size) (whole_text NoSheet sheet text) (Err NoSheet)

-- ---- both directions
-- the text is the sheet's
pub record Follows (text : List ℕ) (raw : RawSheet) : Type 0 where
  pub valid : Valid raw
  pub is : layout raw ≡ text
  pub fits : length text ≤ size

-- r is the sheet whose text this is, or NoSheet where it is the text of none
pub record Means (text : List ℕ) (r : Result RawSheet Refusal) : Type 0 where
  pub back : (raw : RawSheet) → Follows text raw → r ≡ Ok raw
  pub was : (raw : RawSheet) → r ≡ Ok raw → Follows text raw
  pub none : (cause : Refusal) → r ≡ Err cause → (cause ≡ NoSheet) × ((raw : RawSheet) → Follows text raw → ⊥)
