-- `sheet::SheetTables::rows` meets its contract. Assumes nothing.
use Rattle.std.proofs.Common.{refl}
use Rattle.sheet.specs.Sheet.{leading}
use Rattle.sheet.proofs.SheetTables.rows.Goals as goal

pub returns : goal.returns
unfolding leading
returns c = refl
