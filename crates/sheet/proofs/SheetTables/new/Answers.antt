-- `sheet::SheetTables::new` meets its contract. Assumes nothing.
use Rattle.std.proofs.Common.{refl}
use Rattle.sheet.specs.Sheet.{stored}
use Rattle.sheet.proofs.SheetTables.new.Goals as goal

pub returns : goal.returns
unfolding stored
returns c = refl
