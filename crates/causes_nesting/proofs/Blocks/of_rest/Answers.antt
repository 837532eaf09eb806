-- `causes_nesting::Blocks::of_rest` meets its contract. Assumes nothing.
use Rattle.std.proofs.Common.{refl}
use Rattle.causes_nesting.proofs.Runs.{deepest_none}
use Rattle.causes_nesting.proofs.Blocks.of_rest.Goals as goal

pub returns-else-from-to : goal.returns-else-from-to
returns-else-from-to g c = record { value = deepest_none _ _ _ c.if-from-to.false; same = refl }
