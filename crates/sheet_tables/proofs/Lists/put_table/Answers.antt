-- `sheet_tables::Lists::put_table` meets its contract. Assumes nothing.
use Rattle.std.proofs.Common.{◌≡◌, sym, ap, None}
use Rattle.text_format.specs.Format.{expect, lines}
use Rattle.text_format.specs.Table.{line}
use Rattle.text_format.specs.Own.Answers.{counted}
use Rattle.text_format.proofs.Behind.{before_none}
use Rattle.sheet_layout.specs.Own.Columns.{shape_of}
use Rattle.sheet_tables.proofs.Turns.{behind_fits, nothing_holds, same_lists}
use Rattle.sheet_tables.proofs.Lists.put_table.Goals as goal

pub returns-in_default-clause-holds : goal.returns-in_default-clause-holds
returns-in_default-clause-holds c =
    let a = c.args in
    let no_names : expect a.names.now (tt {0}) a.text ≡ None = rw (← c.text.view_is) (sym c.in_default.ensures) in
    let none = before_none (lines (line (shape_of a.columns.now))) a.names.now a.text no_names in
    nothing_holds _ _ _ _ (sym (ap counted none)) (same_lists _) c.clear_from.ensures.wholes c.clear_from.ensures.floats

pub invariant_of-put_rows : goal.invariant_of-put_rows
invariant_of-put_rows c = behind_fits c.args.names.now _ _ c.text.inside.bytes.now _ _ c.in-Some.ensures c.text.invariant
