-- The edge's and the options' line: the names and columns are the layout's, the numbers have their widths. Assumes nothing.
use Rattle.std.proofs.Common.{◌≡◌, ℕ, zero, suc, ◌-◌, ◌^◌, ◌<◌, ◌≤◌, List, [], ◌∷◌, ◌++◌, length, get_or, replicate, refl, sym, ap, arith, Some, None}
use Rattle.std.proofs.lemmas.Option.{some_pair_parts}
use Rattle.base_lists.specs.Room.{padded}
use Rattle.text_format.specs.Format.{Format, Lawful, Parsed, ◌and◌, no_items, ValidCons, ◌before◌}
use Rattle.text_format.specs.Table.{Field, float, whole, fields, end_byte, cell, line, single}
use Rattle.sheet_layout.specs.Layout.{edge_columns, option_columns}
use Rattle.sheet_layout.proofs.Laws.{edge_law, options_law}
use Rattle.sheet_layout.specs.Own.Columns.{parsed_row}
use Rattle.sheet_row.specs.Own.Narrow.{Narrow}
use Rattle.sheet_row.specs.Rows.{raw_edge_of, raw_options_of}
use Rattle.sheet_edge.specs.Own.Answers.{parsed_as}

-- ---- widths
whole_at : (fs : List Field) (row : List ℕ) (i most : ℕ) → (line fs).valid row → get_or fs i float ≡ whole most → get_or row i 0 ≤ most
unfolding line ◌and◌ no_items ValidCons cell
whole_at [] row i most v e = absurd cc
whole_at (f ∷ fs) [] i most v e = absurd v
whole_at (f ∷ fs) (n ∷ row) zero most v e = let w : (cell (whole most) (end_byte fs)).valid n = rw e at v.0 in w
whole_at (f ∷ fs) (n ∷ row) (suc i) most v e = whole_at fs row i most v.1 e

padded_at : (n : ℕ) (l : List ℕ) (i : ℕ) → get_or (padded n 0 l) i 0 ≡ get_or l i 0
padded_at n l i = go l i (n - length l)
  where
    zeros : (k i : ℕ) → ◌≡◌ {A = ℕ} (get_or (replicate k 0) i 0) 0
    zeros zero i = refl
    zeros (suc k) zero = refl
    zeros (suc k) (suc i) = zeros k i

    go : (l : List ℕ) (i k : ℕ) → get_or (l ++ replicate k 0) i 0 ≡ get_or l i 0
    go [] i k = zeros k i
    go (a ∷ l) zero k = refl
    go (a ∷ l) (suc i) k = go l i k

-- a column of 32 bits
narrow_at : (fs : List Field) (l : List ℕ) (i : ℕ) → (line fs).valid l → get_or fs i float ≡ whole (2 ^ 32 - 1) → get_or (padded 9 0 l) i 0 < 2 ^ 32
narrow_at fs l i v e = let w = whole_at fs l i (2 ^ 32 - 1) v e in let p = padded_at 9 l i in omega arith

edge_narrow : (l : List ℕ) → (single edge_columns).valid l → Narrow (padded 9 0 l) (0 ∷ 1 ∷ 2 ∷ 3 ∷ 7 ∷ 8 ∷ [])
unfolding ◌before◌ fields
edge_narrow l v =
    let at : (i : ℕ) → get_or (fields edge_columns) i float ≡ whole (2 ^ 32 - 1) → get_or (padded 9 0 l) i 0 < 2 ^ 32 = λ i e. narrow_at (fields edge_columns) l i v e in
    (at 0 refl, (at 1 refl, (at 2 refl, (at 3 refl, (at 7 refl, (at 8 refl, tt))))))

options_narrow : (l : List ℕ) → (single option_columns).valid l → Narrow (padded 9 0 l) (2 ∷ 4 ∷ [])
unfolding ◌before◌ fields
options_narrow l v = (narrow_at (fields option_columns) l 2 v refl, (narrow_at (fields option_columns) l 4 v refl, tt))

-- ---- by name
edge_padded : (l : List ℕ) → raw_edge_of (padded 9 0 l) ≡ raw_edge_of l
edge_padded l = simp (padded_at 9 l)

options_padded : (l : List ℕ) → raw_options_of (padded 9 0 l) ≡ raw_options_of l
options_padded l = simp (padded_at 9 l)

-- ---- what stands for a line's numbers, with zeros behind them as without
module _ {X : Type 0} (value : List ℕ → X) (same : (l : List ℕ) → value (padded 9 0 l) ≡ value l) where
  padded_as : (q : Parsed (List ℕ)) → parsed_as value q ≡ parsed_as value (parsed_row q)
  padded_as None = refl
  padded_as (Some (l, rest)) = ap (λ x. Some (x, rest)) (sym (same l))

pub edge_as : (q : Parsed (List ℕ)) → parsed_as raw_edge_of q ≡ parsed_as raw_edge_of (parsed_row q)
edge_as = padded_as raw_edge_of edge_padded

pub options_as : (q : Parsed (List ℕ)) → parsed_as raw_options_of q ≡ parsed_as raw_options_of (parsed_row q)
options_as = padded_as raw_options_of options_padded

-- ---- a line that was read has numbers of their widths
module _ (F : Format (List ℕ)) (L : Lawful F) (places : List ℕ) (narrow : (l : List ℕ) → F.valid l → Narrow (padded 9 0 l) places) (s row rest : List ℕ) where
  row_narrow : Some (row, rest) ≡ parsed_row (F.read s) → Narrow row places
  row_narrow e = go (F.read s) refl e
    where
      go : (q : Parsed (List ℕ)) → F.read s ≡ q → Some (row, rest) ≡ parsed_row q → Narrow row places
      go None f e = absurd cc
      go (Some (l, left)) f e =
          let p = some_pair_parts row (padded 9 0 l) rest left e in
          rw p.0 (narrow l (L.was s l left f).right)

pub edge_widths : (s row rest : List ℕ) → Some (row, rest) ≡ parsed_row ((single edge_columns).read s) → Narrow row (0 ∷ 1 ∷ 2 ∷ 3 ∷ 7 ∷ 8 ∷ [])
edge_widths = row_narrow (single edge_columns) edge_law (0 ∷ 1 ∷ 2 ∷ 3 ∷ 7 ∷ 8 ∷ []) edge_narrow

pub options_widths : (s row rest : List ℕ) → Some (row, rest) ≡ parsed_row ((single option_columns).read s) → Narrow row (2 ∷ 4 ∷ [])
options_widths = row_narrow (single option_columns) options_law (2 ∷ 4 ∷ []) options_narrow
