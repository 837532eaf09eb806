-- A listing reads back as the chain that was listed: its lines are valid, a table's, and their numbers the floats' own. Assumes nothing.
use mathlib.Core.Path.{◌≡◌, refl, sym, ap, ◌∙◌}
use mathlib.Core.Bool.{Bool, true, false, cond}
use mathlib.Core.List.{List, [], ◌∷◌, ◌++◌, append_assoc, map, flat_map}
use Prim.Native.Nat.{ℕ, suc, ◌+◌, ◌^◌, ◌<◌}
use native.Mathlib.Omega.{arith}
use lib.ListN.{length}
use lib.Dec.{T, eqb}
use lib.Ieee.{Float, nan, inf, fin, is_nan, binary64, fits, of_bits, nan_bits}
use lib.Ieee.Bits.{nan_bits_is, of_bits-to_bits, to_bits-lt}
use Rattle.base_lists.specs.All.{All, none, more}
use Rattle.std.specs.Prelude.{Result, Ok}
use Rattle.text_format.specs.Format.{Format, Lawful, ◌ending◌, ◌before◌, ◌and◌, no_items, ValidCons, write_lines, lines, whole_text}
use Rattle.text_format.specs.Table.{fields, names, cell, line, table}
use Rattle.text_format.proofs.Laws.{whole_back}
use Rattle.text_format.proofs.Tables.{no_line, table_law}
use Rattle.edge_record.specs.declared.Sample.{Sample}
use Rattle.edge_record.specs.Chain.{row}
use Rattle.text_listing.specs.Listing.{columns, quiet, bits_or, row_of, own_of, rows_from, rows_of, line_of, listing}
use Rattle.text_listing.specs.ReadBack.{sample_of, ReadsBack, EachReadsBack}

-- ---- the bits of a float
module _ (own : ℕ) (small : own < 2 ^ 64) where
  bits_small : (x : Float) → T (fits binary64 x) → bits_or own x < 2 ^ 64
  unfolding bits_or is_nan
  bits_small nan f = go (nan_bits binary64 own)
    where
      go : (b : Bool) → cond b own quiet < 2 ^ 64
      go true = small
      go false = omega arith
  bits_small (inf s) f = to_bits-lt binary64 (inf s) f
  bits_small (fin s m e) f = to_bits-lt binary64 (fin s m e) f

  bits_back : (x : Float) → T (fits binary64 x) → of_bits binary64 (bits_or own x) ≡ x
  unfolding bits_or is_nan of_bits
  bits_back nan f = go (nan_bits binary64 own) refl
    where
      is_nan_lem : (y : Float) → is_nan y ≡ true → y ≡ nan
      is_nan_lem nan e = refl
      is_nan_lem (inf s) e = absurd (let z : ◌≡◌ {A = ℕ} 0 1 = cc in omega arith)
      is_nan_lem (fin s m k) e = absurd (let z : ◌≡◌ {A = ℕ} 0 1 = cc in omega arith)

      go : (b : Bool) → nan_bits binary64 own ≡ b → of_bits binary64 (cond b own quiet) ≡ nan
      go true e = is_nan_lem (of_bits binary64 own) (sym (nan_bits_is binary64 own) ∙ e)
      go false e = refl
  bits_back (inf s) f = of_bits-to_bits binary64 (inf s) f
  bits_back (fin s m e) f = of_bits-to_bits binary64 (fin s m e) f

-- ---- a sample's line
module _ (own : ℕ) (small : own < 2 ^ 64) where
  line_valid : (s : Sample) → All (λ x. T (fits binary64 x)) (row s) → (line (fields columns)).valid (row_of own s)
  unfolding fields cell line ◌ending◌ ◌and◌ no_items ValidCons
  line_valid s (more x (more y (more z (more t none)))) =
      let q : quiet < 2 ^ 64 = omega arith in
      (bits_small quiet q s.point.x x, (bits_small quiet q s.point.y y, (bits_small quiet q s.point.z z, (bits_small own small s.param t, refl))))

  sample_back : (s : Sample) → All (λ x. T (fits binary64 x)) (row s) → sample_of (row_of own s) ≡ s
  unfolding sample_of
  sample_back s (more x (more y (more z (more t none)))) =
      let q : quiet < 2 ^ 64 = omega arith in
      rw (bits_back quiet q s.point.x x, bits_back quiet q s.point.y y, bits_back quiet q s.point.z z, bits_back own small s.param t)

-- ---- line behind line
module _ (first last : ℕ) (f_small : first < 2 ^ 64) (l_small : last < 2 ^ 64) (n : ℕ) where
  own_small : (i : ℕ) → own_of first last n i < 2 ^ 64
  unfolding own_of
  own_small i = go (eqb i 0) (eqb (i + 1) n)
    where
      go : (a b : Bool) → cond a first (cond b last quiet) < 2 ^ 64
      go true b = f_small
      go false true = l_small
      go false false = omega arith

  rows_valid : (i : ℕ) (l : List Sample) → All (λ (s : Sample). All (λ x. T (fits binary64 x)) (row s)) l
      → All (line (fields columns)).valid (rows_from first last n i l)
  unfolding rows_from
  rows_valid i [] none = none
  rows_valid i (s ∷ l) (more v vs) = more (line_valid (own_of first last n i) (own_small i) s v) (rows_valid (suc i) l vs)

  samples_back : (i : ℕ) (l : List Sample) → All (λ (s : Sample). All (λ x. T (fits binary64 x)) (row s)) l
      → map sample_of (rows_from first last n i l) ≡ l
  unfolding rows_from
  samples_back i [] none = refl
  samples_back i (s ∷ l) (more v vs) = rw (sample_back (own_of first last n i) (own_small i) s v, samples_back (suc i) l vs)

-- ---- the lines of a listing are a table's, but for the empty one
lines_are : {A : Type 0} (F : Format A) (l : List A) → write_lines F l ≡ flat_map F.write l ++ (10 ∷ [])
unfolding write_lines flat_map
lines_are F [] = refl
lines_are F (a ∷ l) = ap (λ z. F.write a ++ z) (lines_are F l) ∙ sym (append_assoc (F.write a) (flat_map F.write l) (10 ∷ []))

columns_law : Lawful (table columns)
unfolding fields
columns_law = table_law columns (more tt (more tt (more tt (more tt none)))) (no_line _ _ tt)

-- ---- THE theorem
pub reads_back : EachReadsBack
unfolding ◌before◌ lines listing
reads_back first last chain f l v = record {
  numbers =
      ap (whole_text {E = ℕ} 0 (table columns))
      (append_assoc (names columns) (flat_map line_of (rows_of first last chain)) (10 ∷ [])
      ∙ ap (λ z. names columns ++ z) (sym (lines_are (line (fields columns)) (rows_of first last chain))))
      ∙ whole_back {E = ℕ} 0 (table columns) columns_law (rows_of first last chain) (rows_valid first last f l (length chain) 0 chain v);
  samples = samples_back first last f l (length chain) 0 chain v;
}

-- so no two chains have one listing, whatever NaNs their ends are copied from
pub listing_one : {first last first' last' : ℕ} {a b : List Sample} → ReadsBack first last a → ReadsBack first' last' b
    → listing first last a ≡ listing first' last' b → a ≡ b
listing_one {first} {last} {first'} {last'} {a} {b} x y e =
    sym x.samples ∙ ap (map sample_of) (same (sym x.numbers ∙ ap (λ l. whole_text {E = ℕ} 0 (table columns) (l ++ (10 ∷ []))) e ∙ y.numbers))
    ∙ y.samples
  where
    same : ◌≡◌ {A = Result (List (List ℕ)) ℕ} (Ok (rows_of first last a)) (Ok (rows_of first' last' b)) → rows_of first last a ≡ rows_of first' last' b
    same e = cc
