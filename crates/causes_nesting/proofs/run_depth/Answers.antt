-- `causes_nesting::run_depth` meets its contract: no segment is none. Assumes nothing.
use Rattle.std.proofs.Common.{refl, arith}
use Rattle.causes_nesting.proofs.Runs.{deepest_none}
use Rattle.causes_nesting.proofs.run_depth.Goals as goal

pub returns-then-run-eq0 : goal.returns-then-run-eq0
returns-then-run-eq0 t c = record { value = deepest_none _ _ _ (omega (arith, c.if-run-eq0.true)); same = refl }
