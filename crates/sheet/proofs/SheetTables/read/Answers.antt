-- `sheet::SheetTables::read` meets its contract. Assumes nothing.
use Rattle.std.proofs.Common.{sym, ◌∙◌}
use Rattle.sheet.proofs.Laws.{after_refusal, after_sheet}
use Rattle.sheet.proofs.SheetTables.read.Goals as goal

pub returns-then-is_err-clause-tables : goal.returns-then-is_err-clause-tables
returns-then-is_err-clause-tables c =
    after_refusal _ _ (c.ok_or-sheet.ensures.value ∙ c.try_read.ensures.sheet) _ (sym c.if-is_err.ensures.value) c.clear.ensures

pub returns-else-is_err-clause-tables : goal.returns-else-is_err-clause-tables
returns-else-is_err-clause-tables c =
    after_sheet _ _ (c.ok_or-sheet.ensures.value ∙ c.try_read.ensures.sheet) _ (sym c.if-is_err.ensures.value) c.try_read.ensures.tables
