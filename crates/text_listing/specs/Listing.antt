-- The listings of a chain and of a refusal, byte by byte. Definitions only.
use Rattle.std.specs.Prelude.{◌≡◌, cond, ℕ, suc, ◌+◌, ◌-◌, ◌*◌, ◌^◌, ◌≤◌, length, eqb, Float}
use mathlib.Core.List.{List, [], ◌∷◌, ◌++◌, flat_map}
use Rattle.std.proofs.lemmas.List.Edits.{sets}
use Rattle.std.specs.Float.Ieee.{is_nan, nan_bits, to_bits}
use Rattle.std.specs.Float.{binary64}
use Rattle.text_format.specs.Bytes.{bytes}
use Rattle.text_format.specs.Format.{plain}
use Rattle.text_format.specs.Table.{float, Column, ◌of◌, fields, names, line}
use Rattle.edge_record.specs.declared.Sample.{Sample}
use Rattle.edge_record.specs.Chain.{width}

-- a chain's columns: floats by their 64 bits
abbrev pub columns : List Column
columns = "x" of float ∷ "y" of float ∷ "z" of float ∷ "t" of float ∷ []

-- how many bytes that line of names has
abbrev pub heading_bytes : ℕ
heading_bytes = 8

-- how many bytes a float has: sixteen digits, and the byte behind them
abbrev pub float_bytes : ℕ
float_bytes = 17

-- how many bytes the line of a sample has
abbrev pub line_bytes : ℕ
line_bytes = float_bytes * width

-- the most bytes that the listing of a refusal has; the names have fewer
abbrev pub refusal_bytes : ℕ
refusal_bytes = 19

-- the bits of a NaN that an operation makes
abbrev pub quiet : ℕ
quiet = 0x7ff8000000000000

-- the bits of x. A float does not say which NaN it is: one that was copied from a NaN's bits `own` has these, any other those of
-- one that an operation makes
unfoldable pub bits_or : ℕ → Float → ℕ
bits_or own x = cond (is_nan x) (cond (nan_bits binary64 own) own quiet) (to_bits binary64 x)

-- a sample's numbers, where a NaN parameter was copied from the bits `own`
abbrev pub row_of : ℕ → Sample → List ℕ
row_of own s =
    bits_or quiet s.point.x ∷ bits_or quiet s.point.y ∷ bits_or quiet s.point.z ∷ bits_or own s.param ∷ []

-- those bits for sample i of n: the first has the range's one end, the last the other
unfoldable pub own_of : ℕ → ℕ → ℕ → ℕ → ℕ
own_of first last n i = cond (eqb i 0) first (cond (eqb (i + 1) n) last quiet)

-- the numbers of the samples from i on, of n
unfoldable pub rows_from : ℕ → ℕ → ℕ → ℕ → List Sample → List (List ℕ)
rows_from first last n i [] = []
rows_from first last n i (s ∷ l) = row_of (own_of first last n i) s ∷ rows_from first last n (suc i) l

-- the numbers of a chain's samples, where a NaN parameter was copied from `first` at the start and from `last` at the end
abbrev pub rows_of : ℕ → ℕ → List Sample → List (List ℕ)
rows_of first last l = rows_from first last (length l) 0 l

-- the line of a row
abbrev pub line_of : List ℕ → List ℕ
line_of = (line (fields columns)).write

-- THE LISTING of a chain: the names, then a line for each sample
unfoldable pub listing : ℕ → ℕ → List Sample → List ℕ
listing first last l = names columns ++ flat_map line_of (rows_of first last l)

-- THE LISTING of a refusal: the word, then the cause on the next line
unfoldable pub refusal : ℕ → List ℕ
refusal cause = bytes "refusal\n" ++ (plain (2 ^ 32 - 1) 10).write cause

-- ---- a text at the start of a buffer
-- so many bytes as it has; they fit; the buffer holds them afterwards, and is as before behind them
pub record Put (text out : List ℕ) (n : ℕ) (out' : List ℕ) : Type 0 where
  pub count : n ≡ length text
  pub fits : n ≤ length out'
  pub bytes : out' ≡ sets out 0 text
