-- What is printed of a chain determines the chain, bit for bit. Definitions only.
use Rattle.std.specs.Prelude.{◌≡◌, List, [], ◌∷◌, ◌++◌, map, ℕ, ◌^◌, ◌<◌, get_or, T, Ok}
use Rattle.std.specs.Float.{binary64}
use Rattle.std.specs.Float.Ieee.{fits, of_bits}
use Rattle.base_lists.specs.All.{All}
use Rattle.text_format.specs.Format.{whole_text}
use Rattle.text_format.specs.Table.{table}
use Rattle.math.specs.Math.{vec}
use Rattle.edge_record.specs.declared.Sample.{Sample}
use Rattle.edge_record.specs.Chain.{row}
use Rattle.text_listing.specs.Listing.{columns, rows_of, listing}

-- the sample of a line's numbers
unfoldable pub sample_of : List ℕ → Sample
sample_of n = record {
  point = vec (of_bits binary64 (get_or n 0 0)) (of_bits binary64 (get_or n 1 0)) (of_bits binary64 (get_or n 2 0));
  param = of_bits binary64 (get_or n 3 0);
}

-- with an empty line behind it the listing reads as the table of its numbers, and these are the chain's samples
pub record ReadsBack (first last : ℕ) (chain : List Sample) : Type 0 where
  pub numbers : whole_text {E = ℕ} 0 (table columns) (listing first last chain ++ (10 ∷ [])) ≡ Ok (rows_of first last chain)
  pub samples : map sample_of (rows_of first last chain) ≡ chain

-- so of every chain of binary64 floats (`reads_back` in proofs/ReadBack.antt)
abbrev pub EachReadsBack : Type 0
EachReadsBack =
    (first last : ℕ) (chain : List Sample) → first < 2 ^ 64 → last < 2 ^ 64 → All (λ (s : Sample). All (λ x. T (fits binary64 x)) (row s)) chain
    → ReadsBack first last chain
