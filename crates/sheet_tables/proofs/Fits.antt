-- How many numbers valid rows have. Assumes nothing.
use mathlib.Core.Path.{◌≡◌, sym, ◌∙◌}
use mathlib.Core.List.{List, [], ◌∷◌}
use Prim.Native.Nat.{ℕ, ◌*◌}
use native.Mathlib.Omega.{arith}
use native.Mathlib.Nat.{mul-zero, mul-suc}
use lib.ListN.{length, length-append, length-map}
use lib.Ieee.{binary64, of_bits}
use Rattle.base_lists.specs.All.{All, none, more}
use Rattle.text_format.specs.Table.{Field, line}
use Rattle.sheet_row.specs.Rows.{is_float, chosen, floats_of, wholes_of}
use Rattle.sheet_tables.specs.Own.Room.{column_count}
use Rattle.sheet_tables.specs.Flattened.{flattened}
use Rattle.sheet_tables.proofs.Valid.{is_whole, row_length, chosen_length}

module _ {E : Type 0} (row : List ℕ → List E) (fs : List Field) (k : ℕ) (each : (l : List ℕ) → (line fs).valid l → length (row l) ≡ k) where
  flat_length : (rows : List (List ℕ)) → All (line fs).valid rows → length (flattened row rows) ≡ k * length rows
  unfolding flattened
  flat_length [] none = sym (mul-zero k)
  flat_length (l ∷ rows) (more v vs) =
      let a = each l v in
      let b = flat_length rows vs in
      let c = mul-suc k (length rows) in
      simp length-append (omega arith)

module _ (fs : List Field) where
  pub wholes_length : (rows : List (List ℕ)) → All (line fs).valid rows → length (flattened (wholes_of fs) rows) ≡ column_count is_whole fs * length rows
  wholes_length = flat_length (wholes_of fs) fs (column_count is_whole fs) (λ l v. chosen_length is_whole fs l (row_length fs l v))

  pub floats_length : (rows : List (List ℕ)) → All (line fs).valid rows → length (flattened (floats_of fs) rows) ≡ column_count is_float fs * length rows
  floats_length =
      flat_length (floats_of fs) fs (column_count is_float fs)
      (λ l v. length-map (chosen is_float fs l) (of_bits binary64) ∙ chosen_length is_float fs l (row_length fs l v))
