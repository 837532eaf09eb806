-- `causes::check` meets its contract. Assumes nothing.
use Rattle.std.proofs.Common.{sym}
use Rattle.causes.proofs.Apart.{verdict_apart}
use Rattle.causes.proofs.check.Goals as goal

pub returns : goal.returns
returns c = rw (c.lower.ensures, c.check_over.ensures, c.check_tables.ensures) (sym (verdict_apart _ _ _))
