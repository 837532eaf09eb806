-- The lines of a listing: a sample's four fields, and line behind line. Assumes nothing.
use Rattle.std.proofs.Common.{◌≡◌, refl, sym, ap, ◌∙◌, ℕ, zero, suc, ◌+◌, ◌*◌, List, [], ◌∷◌, ◌++◌, length, append_assoc, append-nil, arith, length-append, add-one}
use mathlib.Core.List.{flat_map}
use Rattle.std.specs.Float.{binary64}
use Rattle.std.specs.Float.Ieee.{Float, nan, inf, fin, is_nan, nan_bits, to_bits}
use Rattle.text_format.specs.Bytes.{bytes}
use Rattle.text_format.specs.Format.{hex16, ◌ending◌, ◌and◌, no_items, write_cons}
use Rattle.text_format.specs.Table.{fields, end_byte, names, cell, line}
use Rattle.text_format.proofs.Digits.{digits_length}
use Rattle.edge_record.specs.declared.Sample.{Sample}
use Rattle.edge_record.specs.Chain.{sample_at, samples_from, samples}
use Rattle.edge_record.proofs.Laws.{samples_from-length}
use Rattle.text_listing.specs.Listing.{columns, float_bytes, line_bytes, quiet, bits_or, row_of, own_of, rows_from, line_of, listing}

-- ---- a field: sixteen digits and a byte
abbrev pub field : ℕ → ℕ → List ℕ
field end v = hex16.write v ++ end ∷ []

pub field_length : (end v : ℕ) → length (field end v) ≡ float_bytes
field_length end v = let l = digits_length 16 16 v in simp length-append (omega arith)

-- a coordinate's bits: no NaN is a copy
pub own_none : (x : Float) → to_bits binary64 x ≡ bits_or quiet x
unfolding bits_or is_nan nan_bits to_bits
own_none nan = refl
own_none (inf s) = refl
own_none (fin s m e) = refl

-- ---- a line: four fields
pub line_is : (x y z t : ℕ) → line_of (x ∷ y ∷ z ∷ t ∷ []) ≡ ((field 32 x ++ field 32 y) ++ field 32 z) ++ field 10 t
unfolding fields end_byte cell line ◌ending◌ ◌and◌ no_items write_cons
line_is x y z t = simp (append_assoc, append-nil)

line_length : (x y z t : ℕ) → length (line_of (x ∷ y ∷ z ∷ t ∷ [])) ≡ line_bytes
line_length x y z t = rw line_is (simp (length-append, digits_length) (omega arith))

pub row_length : (own : ℕ) (s : Sample) → length (line_of (row_of own s)) ≡ line_bytes
row_length own s = line_length (bits_or quiet s.point.x) (bits_or quiet s.point.y) (bits_or quiet s.point.z) (bits_or own s.param)

-- ---- line behind line
module _ (first last n : ℕ) (c : List Float) where
  -- the lines of m samples from i on
  abbrev pub lines_from : ℕ → ℕ → List ℕ
  lines_from i m = flat_map line_of (rows_from first last n i (samples_from c i m))

  pub lines_length : (i m : ℕ) → length (lines_from i m) ≡ line_bytes * m
  unfolding flat_map rows_from samples_from
  lines_length i zero = refl
  lines_length i (suc m) =
      let l = lines_length (suc i) m in
      let k = row_length (own_of first last n i) (sample_at c i) in
      length-append (line_of (row_of (own_of first last n i) (sample_at c i))) (lines_from (suc i) m) ∙ omega arith

  pub lines_none : (i : ℕ) → lines_from i 0 ≡ []
  unfolding flat_map rows_from samples_from
  lines_none i = refl

  lines_snoc : (i m : ℕ) → lines_from i (suc m) ≡ lines_from i m ++ line_of (row_of (own_of first last n (i + m)) (sample_at c (i + m)))
  unfolding flat_map rows_from samples_from
  lines_snoc i zero = let e : i + 0 ≡ i = omega arith in rw e (append-nil (line_of (row_of (own_of first last n i) (sample_at c i))))
  lines_snoc i (suc m) =
      let e : suc i + m ≡ i + suc m = omega arith in
      let here = line_of (row_of (own_of first last n i) (sample_at c i)) in
      ap (λ l. here ++ l) (lines_snoc (suc i) m) ∙ sym (append_assoc here (lines_from (suc i) m) _)
      ∙ ap (λ k. (here ++ lines_from (suc i) m) ++ line_of (row_of (own_of first last n k) (sample_at c k))) e

  -- one more
  pub lines_more : (m own : ℕ) (s : Sample) → own ≡ own_of first last n m → s ≡ sample_at c m → lines_from 0 (m + 1) ≡ lines_from 0 m ++ line_of (row_of own s)
  lines_more m own s e f =
      let z : 0 + m ≡ m = omega arith in
      rw (add-one, e, f) (lines_snoc 0 m ∙ ap (λ k. lines_from 0 m ++ line_of (row_of (own_of first last n k) (sample_at c k))) z)

  -- the names, and the lines
  pub listing_is : listing first last (samples n c) ≡ names columns ++ lines_from 0 n
  unfolding listing
  listing_is = rw samples_from-length

pub names_are : bytes "x y z t\n" ≡ names columns
unfolding bytes fields end_byte names
names_are = refl
