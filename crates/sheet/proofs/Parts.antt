-- The parts of the reader: what is told of the three tables and held of them, and the sheet that its tables and its ends make. Assumes nothing.
use mathlib.Core.Path.{◌≡◌, refl, sym, ap, ◌∙◌}
use mathlib.Core.Bool.{true, false}
use mathlib.Core.List.{List, [], ◌∷◌}
use Prim.Native.Nat.{ℕ, ◌*◌, ◌<◌, ◌≤◌}
use native.Mathlib.Omega.{arith}
use lib.ListN.{length}
use lib.Dec.{eqb}
use lib.Ieee.{Float}
use borrow.Author.Tests.{le-leb, lt-leb, eqb-true}
use Rattle.std.specs.Prelude.{Some, None, Ok, Err}
use Rattle.base_lists.specs.Room.{padded}
use Rattle.refusal.specs.declared.Refusal.TheVariants.{NoSheet}
use Rattle.text_format.specs.Format.{Parsed, ◌then◌, all, whole_text}
use Rattle.text_format.specs.Table.{fields, table}
use Rattle.text_format.specs.Own.Answers.{counted}
use Rattle.text_format.proofs.Behind.{then_none, then_none_on, then_on, as_none, as_on}
use Rattle.sheet_layout.specs.Layout.{RawSheet, sheet_points, sheet_curves, sheet_segments, point_columns, curve_columns, segment_columns, tables_format, ends, sheet, size, read_sheet}
use Rattle.sheet_row.specs.Rows.{floats_of, wholes_of}
use Rattle.sheet_row.specs.declared.RawEdge.{RawEdge}
use Rattle.sheet_row.specs.declared.RawOptions.{RawOptions}
use Rattle.sheet_tables.specs.Flattened.{flattened}
use Rattle.sheet_tables.specs.Own.Answers.{numbers_of}
use Rattle.sheet_edge.specs.Own.Answers.{parsed_as, raw_ends_of}
use Rattle.brep.specs.Rows.{Tables, tables as tables_of_lists}
use Rattle.sheet.specs.Sheet.{float_of, edge_from, options_from, answer, tables_of, stored}
use Rattle.sheet.specs.Own.Answers.{Three, counts_of, only_tables, TablesStored, SheetStored}
use Rattle.sheet.specs.declared.Sheet.{Sheet}
use Rattle.sheet.proofs.Values.{Stood, stood, none_stood}

-- ---- the three tables
-- a table of n places that was read
pub table_stored : {A E : Type 0} (numbers : A → List E) (z : E) (n : ℕ) (q : Parsed A) (l : A) (rest : List ℕ) (old new : List E) → length old ≡ n
    → q ≡ Some (l, rest) → new ≡ padded (length old) z (numbers_of numbers q) → new ≡ padded n z (numbers l)
unfolding numbers_of
table_stored numbers z n q l rest old new e f g =
    g ∙ ap (λ r. padded (length old) z (numbers_of numbers r)) f ∙ ap (λ k. padded k z (numbers l)) e

pub stored_is : (a b c : List (List ℕ)) (points : List Float) (curves : List ℕ) (reals : List Float) (parts : List ℕ) (ranges : List Float)
    → points ≡ padded (3 * sheet_points) (float_of 0) (flattened (floats_of (fields point_columns)) a)
    → curves ≡ padded (3 * sheet_curves) 0 (flattened (wholes_of (fields curve_columns)) b)
    → reals ≡ padded (2 * sheet_curves) (float_of 0) (flattened (floats_of (fields curve_columns)) b)
    → parts ≡ padded (2 * sheet_segments) 0 (flattened (wholes_of (fields segment_columns)) c)
    → ranges ≡ padded (2 * sheet_segments) (float_of 0) (flattened (floats_of (fields segment_columns)) c)
    → tables_of_lists points curves reals parts ranges ≡ stored (tables_of (only_tables (a, (b, c))))
unfolding stored tables_of
stored_is a b c points curves reals parts ranges d e f g h = rw (d, e, f, g, h)

module _ (s : List ℕ) where
  -- nothing was read
  pub no_counts : tables_format.read s ≡ None → None ≡ parsed_as counts_of (tables_format.read s)
  no_counts e = sym (ap (parsed_as counts_of) e)

  pub not_stored : tables_format.read s ≡ None → (new : Tables) → TablesStored (tables_format.read s) new
  unfolding TablesStored
  not_stored e new = rw (e, TablesStored) tt

  pub no_points : None ≡ counted ((table point_columns).read s) → tables_format.read s ≡ None
  no_points e = then_none (table point_columns) (table curve_columns then table segment_columns) s (none_stood length _ e)

  module _ (n : ℕ) (u : List ℕ) (e : Some (n, u) ≡ counted ((table point_columns).read s)) where
    pub points_are : Stood length ((table point_columns).read s) n u
    points_are = stood length _ n u e

    pub no_curves : None ≡ counted ((table curve_columns).read u) → tables_format.read s ≡ None
    no_curves f =
        then_none_on (table point_columns) (table curve_columns then table segment_columns) s points_are.read u points_are.is
        (then_none (table curve_columns) (table segment_columns) u (none_stood length _ f))

    module _ (m : ℕ) (v : List ℕ) (f : Some (m, v) ≡ counted ((table curve_columns).read u)) where
      pub curves_are : Stood length ((table curve_columns).read u) m v
      curves_are = stood length _ m v f

      pub no_segments : None ≡ counted ((table segment_columns).read v) → tables_format.read s ≡ None
      no_segments g =
          then_none_on (table point_columns) (table curve_columns then table segment_columns) s points_are.read u points_are.is
          (then_none_on (table curve_columns) (table segment_columns) u curves_are.read v curves_are.is (none_stood length _ g))

      module _ (k : ℕ) (w : List ℕ) (g : Some (k, w) ≡ counted ((table segment_columns).read v)) where
        pub segments_are : Stood length ((table segment_columns).read v) k w
        segments_are = stood length _ k w g

        three : Three
        three = (points_are.read, (curves_are.read, segments_are.read))

        three_read : tables_format.read s ≡ Some (three, w)
        unfolding three
        three_read =
            then_on (table point_columns) (table curve_columns then table segment_columns) s points_are.read u points_are.is (curves_are.read, segments_are.read) w
            (then_on (table curve_columns) (table segment_columns) u curves_are.read v curves_are.is segments_are.read w segments_are.is)

        pub three_counts : Some ((n, m, k), w) ≡ parsed_as counts_of (tables_format.read s)
        unfolding three
        three_counts =
            let same : (n, m, k) ≡ counts_of three = rw (← points_are.stands, ← curves_are.stands, ← segments_are.stands) in
            ap (λ x. Some (x, w)) same ∙ sym (ap (parsed_as counts_of) three_read)

        pub three_stored : (new : Tables) → new ≡ stored (tables_of (only_tables (points_are.read, (curves_are.read, segments_are.read)))) → TablesStored (tables_format.read s) new
        unfolding TablesStored three
        three_stored new h = rw (three_read, TablesStored) h

-- ---- the sheet
-- the sheet of its five blocks
abbrev pub sheet_of : Three → List ℕ × List ℕ → RawSheet
sheet_of t both = record { points = t.0; curves = t.1.0; segments = t.1.1; edge = both.0; options = both.1 }

-- the sheet as its parts tell it
abbrev pub told_sheet : ℕ × ℕ × ℕ → RawEdge × RawOptions → Sheet
told_sheet counts both =
    record { points = counts.0; curves = counts.1; segments = counts.2; edge = edge_from both.0; options = options_from both.1; lo = both.0.lo; hi = both.0.hi }

told_is : (t : Three) (b : List ℕ × List ℕ) (counts : ℕ × ℕ × ℕ) (both : RawEdge × RawOptions) → counts ≡ counts_of t → both ≡ raw_ends_of b
    → Ok (told_sheet counts both) ≡ answer (Ok (sheet_of t b))
unfolding answer
told_is t b counts both e f = rw (e, f)

module _ (s : List ℕ) where
  -- nothing was read
  pub refused_answer : read_sheet s ≡ Err NoSheet → Err NoSheet ≡ answer (read_sheet s)
  unfolding answer
  refused_answer e = sym (ap answer e)

  pub refused_stored : read_sheet s ≡ Err NoSheet → (new : Tables) → SheetStored (read_sheet s) new
  unfolding SheetStored
  refused_stored e new = rw (e, SheetStored) tt

  pub too_long : size < length s → read_sheet s ≡ Err NoSheet
  unfolding read_sheet
  too_long h = rw (lt-leb (length s) size h)

  module _ (fits : length s ≤ size) where
    no_sheet : sheet.read s ≡ None → read_sheet s ≡ Err NoSheet
    unfolding read_sheet whole_text all
    no_sheet e = rw (le-leb (length s) size fits, e)

    pub no_tables : None ≡ parsed_as counts_of (tables_format.read s) → read_sheet s ≡ Err NoSheet
    unfolding sheet
    no_tables e = no_sheet (as_none (tables_format then ends) _ _ s (then_none tables_format ends s (none_stood counts_of _ e)))

    module _ (counts : ℕ × ℕ × ℕ) (rest : List ℕ) (e : Some (counts, rest) ≡ parsed_as counts_of (tables_format.read s)) where
      tables_are : Stood counts_of (tables_format.read s) counts rest
      tables_are = stood counts_of _ counts rest e

      pub no_ends : None ≡ parsed_as raw_ends_of (ends.read rest) → read_sheet s ≡ Err NoSheet
      unfolding sheet
      no_ends f =
          no_sheet (as_none (tables_format then ends) _ _ s (then_none_on tables_format ends s tables_are.read rest tables_are.is (none_stood raw_ends_of _ f)))

      module _ (both : RawEdge × RawOptions) (last : List ℕ) (f : Some (both, last) ≡ parsed_as raw_ends_of (ends.read rest)) where
        ends_are : Stood raw_ends_of (ends.read rest) both last
        ends_are = stood raw_ends_of _ both last f

        all_read : sheet.read s ≡ Some (sheet_of tables_are.read ends_are.read, last)
        unfolding sheet
        all_read =
            as_on (tables_format then ends) _ _ s (tables_are.read, ends_are.read) last
            (then_on tables_format ends s tables_are.read rest tables_are.is ends_are.read last ends_are.is)

        pub not_all : false ≡ eqb (length last) 0 → read_sheet s ≡ Err NoSheet
        unfolding read_sheet whole_text all
        not_all h = rw (le-leb (length s) size fits, all_read) (go last h)
          where
            go : (l : List ℕ) → false ≡ eqb (length l) 0 → all NoSheet (Some (sheet_of tables_are.read ends_are.read, l)) ≡ Err NoSheet
            go [] h = cc
            go (b ∷ l) h = refl

        module _ (h : true ≡ eqb (length last) 0) where
          sheet_read : read_sheet s ≡ Ok (sheet_of tables_are.read ends_are.read)
          unfolding read_sheet whole_text all
          sheet_read = rw (le-leb (length s) size fits, all_read) (go last h)
            where
              go : (l : List ℕ) → true ≡ eqb (length l) 0 → all NoSheet (Some (sheet_of tables_are.read ends_are.read, l)) ≡ Ok (sheet_of tables_are.read ends_are.read)
              go [] h = refl
              go (b ∷ l) h = absurd (let z = eqb-true (length (b ∷ l)) 0 (sym h) in omega arith)

          pub sheet_answer : Ok (told_sheet counts both) ≡ answer (read_sheet s)
          sheet_answer = told_is tables_are.read ends_are.read counts both tables_are.stands ends_are.stands ∙ sym (ap answer sheet_read)

          pub sheet_stored : (new : Tables) → TablesStored (tables_format.read s) new → SheetStored (read_sheet s) new
          unfolding TablesStored SheetStored tables_of
          sheet_stored new t = rw (sheet_read, SheetStored) (let u = rw (tables_are.is, TablesStored) at t in u)
