-- `replay::written` meets its contract: two of the line's whole numbers have 32 bits, as in a sheet, which has names before it.
-- Assumes nothing.
use Rattle.std.proofs.Common.{◌≡◌, ◌++◌, sym, ap, ◌∙◌}
use Rattle.text_format.specs.Table.{fields, line, names, single}
use Rattle.text_format.proofs.Behind.{before_on}
use Rattle.text_format.proofs.Laws.{expect_back}
use Rattle.sheet_layout.specs.Layout.{option_columns}
use Rattle.sheet_layout.specs.Own.Columns.{parsed_row}
use Rattle.sheet_edge.proofs.Singles.{options_widths}
use Rattle.replay.proofs.written.Goals as goal

pub raw_options_of-requires : goal.raw_options_of-requires
unfolding fields
raw_options_of-requires c =
    let s = c.args.text.now in
    let w = names option_columns in
    let e : (single option_columns).read (w ++ s) ≡ (line (fields option_columns)).read s = before_on (line (fields option_columns)) w (w ++ s) s (expect_back w tt s) in
    options_widths (w ++ s) c.in_ok-numbers.numbers _ (c.in_ok-numbers.ensures ∙ ap parsed_row (sym e))
