-- For callers: what was read is the sheet that the text follows, and its tables are the leading parts of those lent. Assumes nothing.
use mathlib.Core.Path.{◌≡◌, refl, sym, ap, ◌∙◌}
use mathlib.Core.Bool.{true, false}
use mathlib.Core.List.{List}
use Prim.Native.Nat.{ℕ, ◌*◌, ◌-◌, ◌<◌, ◌≤◌}
use native.Mathlib.Omega.{arith}
use lib.ListN.{length, take, replicate, length-append}
use lib.Seq.{take_at}
use Rattle.std.specs.Prelude.{Result, Ok, Err, IfOk}
use Rattle.std.specs.Result.{is_err}
use Rattle.base_lists.specs.All.{All}
use Rattle.base_lists.specs.Room.{padded}
use Rattle.refusal.specs.declared.Refusal.{Refusal}
use Rattle.text_format.specs.Format.{◌then◌, ◌before◌, as_of, lines}
use Rattle.text_format.specs.Table.{Column, fields, line, table}
use Rattle.text_format.proofs.Lines.{lines_long}
use Rattle.text_format.proofs.Tables.{Good}
use Rattle.sheet_layout.specs.Layout.{RawSheet, sheet_points, sheet_curves, sheet_segments, point_columns, curve_columns, segment_columns, sheet, size, read_sheet, Follows}
use Rattle.sheet_layout.proofs.Laws.{points_good, curves_good, segments_good, layout_read}
use Rattle.sheet_row.specs.Rows.{is_float, raw_edge_of, raw_options_of}
use Rattle.sheet_tables.specs.Own.Room.{least, column_count}
use Rattle.sheet_tables.proofs.Valid.{line_long}
use Rattle.sheet_tables.proofs.Fits.{wholes_length, floats_length}
use Rattle.brep.specs.Rows.{Tables}
use Rattle.sheet.specs.Sheet.{float_of, edge_from, options_from, answer, FitsTables, tables_of, no_tables, stored, leading, tables_after}
use Rattle.sheet.specs.Own.Answers.{SheetStored}
use Rattle.sheet.specs.declared.Sheet.{Sheet}

-- ---- how many rows a table has within 65,536 bytes
rows_few : (cs : List Column) → All Good (fields cs) → (rows : List (List ℕ)) → (table cs).valid rows → least (fields cs) * length rows < length ((table cs).write rows)
unfolding ◌before◌ lines
rows_few cs g rows v =
    let l = lines_long (line (fields cs)) (least (fields cs)) (line_long (fields cs) g) rows v in
    simp length-append (omega arith)

module _ (text : List ℕ) (raw : RawSheet) (f : Follows text raw) where
  -- the three tables are parts of the text
  long : (length ((table point_columns).write raw.points) ≤ size) × (length ((table curve_columns).write raw.curves) ≤ size)
      × (length ((table segment_columns).write raw.segments) ≤ size)
  unfolding sheet as_of ◌then◌
  long =
      let h = f.fits in
      let l = simp length-append at (ap length f.is) in
      (omega arith, omega arith, omega arith)

  pub points_few : length raw.points ≤ sheet_points
  unfolding sheet as_of ◌then◌ fields is_float least
  points_few = let l = long.0 in let h = rows_few point_columns points_good raw.points f.valid.0.0 in omega arith

  pub curves_few : length raw.curves ≤ sheet_curves
  unfolding sheet as_of ◌then◌ fields is_float least
  curves_few = let l = long.1 in let h = rows_few curve_columns curves_good raw.curves f.valid.0.1.0 in omega arith

  pub segments_few : length raw.segments ≤ sheet_segments
  unfolding sheet as_of ◌then◌ fields is_float least
  segments_few = let l = long.2 in let h = rows_few segment_columns segments_good raw.segments f.valid.0.1.1 in omega arith

  -- its tables have three numbers for a point, three and two for a curve, two and two for a segment
  pub table_lengths : (length (tables_of raw).points ≡ 3 * length raw.points) × (length (tables_of raw).curves ≡ 3 * length raw.curves)
      × (length (tables_of raw).reals ≡ 2 * length raw.curves) × (length (tables_of raw).parts ≡ 2 * length raw.segments)
      × (length (tables_of raw).ranges ≡ 2 * length raw.segments)
  unfolding tables_of sheet as_of ◌then◌ ◌before◌ lines fields is_float column_count
  table_lengths = (
    floats_length (fields point_columns) raw.points f.valid.0.0,
    wholes_length (fields curve_columns) raw.curves f.valid.0.1.0,
    floats_length (fields curve_columns) raw.curves f.valid.0.1.0,
    wholes_length (fields segment_columns) raw.segments f.valid.0.1.1,
    floats_length (fields segment_columns) raw.segments f.valid.0.1.1,
  )

-- ---- its tables, as they lie in those lent
first_part : {E : Type 0} (n k : ℕ) (z : E) (l : List E) → length l ≡ k → take k (padded n z l) ≡ l
first_part n k z l e = take_at l (replicate (n - length l) z) k e

pub leading_is : (text : List ℕ) (raw : RawSheet) → Follows text raw
    → leading (length raw.points) (length raw.curves) (length raw.segments) (stored (tables_of raw)) ≡ tables_of raw
unfolding leading stored
leading_is text raw f =
    let l = table_lengths text raw f in
    rw (first_part (3 * sheet_points) _ (float_of 0) _ l.0, first_part {E = ℕ} (3 * sheet_curves) _ 0 _ l.1, first_part (2 * sheet_curves) _ (float_of 0) _ l.2, first_part {E = ℕ} (2 * sheet_segments) _ 0 _ l.3, first_part (2 * sheet_segments) _ (float_of 0) _ l.4)

-- ---- THE law for callers
-- a sheet was read: the text follows it, its rows are few, its tables are the leading rows of t
pub record SheetRead (text : List ℕ) (s : Sheet) (t : Tables) : Type 0 where
  pub raw : RawSheet
  pub is : read_sheet text ≡ Ok raw
  pub follows : Follows text raw
  pub rows_few : FitsTables s
  pub tables_are : leading s.points s.curves s.segments t ≡ tables_of raw
  pub edge_is : s.edge ≡ edge_from (raw_edge_of raw.edge)
  pub options_is : s.options ≡ options_from (raw_options_of raw.options)
  pub lo_is : s.lo ≡ (raw_edge_of raw.edge).lo
  pub hi_is : s.hi ≡ (raw_edge_of raw.edge).hi

module _ (text : List ℕ) where
  pub sheet_read : (s : Sheet) (t : Tables) → Ok s ≡ answer (read_sheet text) → t ≡ tables_after (read_sheet text) → SheetRead text s t
  unfolding answer tables_after
  sheet_read s t a b = go (read_sheet text) refl a b
    where
      go : (r : Result RawSheet Refusal) → read_sheet text ≡ r → Ok s ≡ answer r → t ≡ tables_after r → SheetRead text s t
      go (Err cause) i a b = absurd cc
      go (Ok raw) i a b =
          let f = layout_read text raw i in
          let x : s.points ≡ length raw.points = cc in
          let y : s.curves ≡ length raw.curves = cc in
          let z : s.segments ≡ length raw.segments = cc in
          record {
            raw = raw;
            is = i;
            follows = f;
            rows_few = record { points = rw x (points_few text raw f); curves = rw y (curves_few text raw f); segments = rw z (segments_few text raw f) };
            tables_are = rw (x, y, z, b) (leading_is text raw f);
            edge_is = cc;
            options_is = cc;
            lo_is = cc;
            hi_is = cc;
          }

  pub sheet_refused : (cause : Refusal) → Err cause ≡ answer (read_sheet text) → read_sheet text ≡ Err cause
  unfolding answer
  sheet_refused cause a = go (read_sheet text) a
    where
      go : (r : Result RawSheet Refusal) → Err cause ≡ answer r → r ≡ Err cause
      go (Err other) a = cc
      go (Ok raw) a = absurd cc

  -- a sheet that was read fits the tables
  pub answer_fits : (x : Result Sheet Refusal) → x ≡ answer (read_sheet text) → IfOk x FitsTables
  answer_fits (Err cause) a = tt
  answer_fits (Ok s) a = (sheet_read s (tables_after (read_sheet text)) a refl).rows_few

-- ---- what the tables hold, by what was told
module _ (r : Result RawSheet Refusal) (x : Result Sheet Refusal) (told : x ≡ answer r) (new : Tables) where
  pub after_refusal : is_err x ≡ true → new ≡ stored no_tables → new ≡ tables_after r
  unfolding answer tables_after
  after_refusal e h = go r told
    where
      go : (r : Result RawSheet Refusal) → x ≡ answer r → new ≡ tables_after r
      go (Err cause) t = h
      go (Ok raw) t = absurd (let z : true ≡ false = sym e ∙ ap is_err t in cc)

  pub after_sheet : is_err x ≡ false → SheetStored r new → new ≡ tables_after r
  unfolding answer tables_after SheetStored
  after_sheet e h = go r told h
    where
      go : (r : Result RawSheet Refusal) → x ≡ answer r → SheetStored r new → new ≡ tables_after r
      go (Err cause) t h = absurd (let z : false ≡ true = sym e ∙ ap is_err t in cc)
      go (Ok raw) t h = h
