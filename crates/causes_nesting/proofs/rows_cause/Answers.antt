-- `causes_nesting::rows_cause` meets its contract: nothing is kept yet. Assumes nothing.
use Rattle.causes_nesting.proofs.Runs.{none_known}
use Rattle.causes_nesting.proofs.rows_cause.Goals as goal

pub invariant_of-blocks-2-clause-known : goal.invariant_of-blocks-2-clause-known
invariant_of-blocks-2-clause-known c = none_known _ _ 256
