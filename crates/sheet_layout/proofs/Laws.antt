-- A text is read as a sheet exactly when it is that sheet's layout and has at most 65,536 bytes. Assumes nothing.
use mathlib.Core.Path.{◌≡◌, refl, sym, ap, ◌∙◌}
use mathlib.Core.Bool.{Bool, true, false, cond}
use mathlib.Core.List.{List, [], ◌∷◌}
use Prim.Native.Nat.{ℕ, ◌≤◌}
use native.Mathlib.Omega.{arith}
use lib.ListN.{length}
use lib.Dec.{leb}
use borrow.Author.Tests.{le-leb, leb-true}
use Rattle.base_lists.specs.All.{All, none, more}
use Rattle.std.specs.Prelude.{Some, None, Result, Ok, Err}
use Rattle.refusal.specs.declared.Refusal.{Refusal}
use Rattle.refusal.specs.declared.Refusal.TheVariants.{NoSheet}
use Rattle.text_format.specs.Bytes.{bytes}
use Rattle.text_format.specs.Format.{Lawful, Parsed, all, one_of, ◌ending◌, whole_text}
use Rattle.text_format.specs.Table.{fields, line, table, single}
use Rattle.text_format.proofs.Laws.{ending_law, then_law, as_law, whole_back, whole_was}
use Rattle.text_format.proofs.Words.{one_of-law}
use Rattle.text_format.proofs.Lines.{NoLine}
use Rattle.text_format.proofs.Tables.{Good, no_line, table_law, single_law}
use Rattle.sheet_layout.specs.Layout.{kinds, u32, u64, kind, point_columns, curve_columns, segment_columns, edge_columns, option_columns, RawSheet, tables_format, ends, sheet, layout, Valid, size, read_sheet, Follows, Means}

-- ---- what the columns hold
pub u32_good : Good u32
u32_good = (omega arith, omega arith)

pub u64_good : Good u64
u64_good = (omega arith, omega arith)

pub kind_good : Good kind
unfolding kinds bytes
kind_good = refl

pub kinds_law : Lawful (one_of kinds)
unfolding kinds bytes
kinds_law = one_of-law kinds refl

pub points_good : All Good (fields point_columns)
unfolding fields
points_good = more tt (more tt (more tt none))

pub curves_good : All Good (fields curve_columns)
unfolding fields
curves_good = more kind_good (more u32_good (more u32_good (more tt (more tt none))))

pub segments_good : All Good (fields segment_columns)
unfolding fields
segments_good = more u32_good (more tt (more tt (more u32_good none)))

pub edge_good : All Good (fields edge_columns)
unfolding fields
edge_good = more u32_good (more u32_good (more u32_good (more u32_good (more tt (more tt (more tt (more u32_good (more u32_good none))))))))

pub options_good : All Good (fields option_columns)
unfolding fields
options_good = more tt (more tt (more u32_good (more u64_good (more u32_good (more tt none)))))

-- ---- a line of a table is not empty
pub no_point : NoLine (line (fields point_columns))
unfolding fields
no_point = no_line _ _ tt

pub no_curve : NoLine (line (fields curve_columns))
unfolding fields
no_curve = no_line _ _ kind_good

pub no_segment : NoLine (line (fields segment_columns))
unfolding fields
no_segment = no_line _ _ u32_good

-- ---- the sheet
pub points_law : Lawful (table point_columns)
points_law = table_law point_columns points_good no_point

pub curves_law : Lawful (table curve_columns)
curves_law = table_law curve_columns curves_good no_curve

pub segments_law : Lawful (table segment_columns)
segments_law = table_law segment_columns segments_good no_segment

pub edge_law : Lawful (single edge_columns)
edge_law = single_law edge_columns edge_good

pub options_law : Lawful (single option_columns)
options_law = single_law option_columns options_good

pub tables_law : Lawful tables_format
tables_law = then_law (table point_columns) _ points_law (then_law (table curve_columns) (table segment_columns) curves_law segments_law)

pub ends_law : Lawful ends
ends_law = then_law (single edge_columns ending (10 ∷ [])) (single option_columns) (ending_law (single edge_columns) (10 ∷ []) edge_law) options_law

pub sheet_law : Lawful sheet
unfolding sheet
sheet_law = as_law _ _ _ (λ r. refl) (λ t. refl) (then_law tables_format ends tables_law ends_law)

-- ---- THE theorems
pub read_layout : (raw : RawSheet) → Valid raw → length (layout raw) ≤ size → read_sheet (layout raw) ≡ Ok raw
unfolding read_sheet
read_layout raw v h = rw (le-leb (length (layout raw)) size h) (whole_back NoSheet sheet sheet_law raw v)

pub layout_read : (text : List ℕ) (raw : RawSheet) → read_sheet text ≡ Ok raw → Follows text raw
unfolding read_sheet
layout_read text raw e = go (leb (length text) size) refl e
  where
    go : (b : Bool) → leb (length text) size ≡ b → cond b (whole_text NoSheet sheet text) (Err NoSheet) ≡ Ok raw → Follows text raw
    go true t e = let w = whole_was NoSheet sheet sheet_law text raw e in record { valid = w.right; is = w.text; fits = leb-true (length text) size t }
    go false t e = cc

pub follows_read : (text : List ℕ) (raw : RawSheet) → Follows text raw → read_sheet text ≡ Ok raw
follows_read text raw f =
    let h : length (layout raw) ≤ size = rw f.is f.fits in
    sym (ap read_sheet f.is) ∙ read_layout raw f.valid h

-- so a text that is refused follows the layout of no sheet
pub refused_none : (text : List ℕ) (cause : Refusal) → read_sheet text ≡ Err cause → (raw : RawSheet) → Follows text raw → ⊥
refused_none text cause e raw f = let r = follows_read text raw f in cc

-- the cause is always the same
pub refused_no_sheet : (text : List ℕ) (cause : Refusal) → read_sheet text ≡ Err cause → cause ≡ NoSheet
unfolding read_sheet whole_text all
refused_no_sheet text cause e = go (leb (length text) size) (sheet.read text) e
  where
    go : (b : Bool) (q : Parsed RawSheet) → cond b (all NoSheet q) (Err NoSheet) ≡ Err cause → cause ≡ NoSheet
    go true None e = cc
    go true (Some (a, [])) e = cc
    go true (Some (a, b ∷ bs)) e = cc
    go false q e = cc

pub means : (text : List ℕ) → Means text (read_sheet text)
means text = record {
  back = follows_read text;
  was = layout_read text;
  none = λ cause e. (refused_no_sheet text cause e, refused_none text cause e);
}

-- and no two sheets have one text
pub layout_one : (a b : RawSheet) → Valid a → Valid b → layout a ≡ layout b → a ≡ b
layout_one a b v w e = same (sym (whole_back NoSheet sheet sheet_law a v) ∙ ap (whole_text NoSheet sheet) e ∙ whole_back NoSheet sheet sheet_law b w)
  where
    same : ◌≡◌ {A = Result RawSheet Refusal} (Ok a) (Ok b) → a ≡ b
    same e = cc
