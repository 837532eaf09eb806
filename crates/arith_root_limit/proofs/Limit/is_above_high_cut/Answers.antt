-- `Limit::is_above_high_cut` meets its contract: the high cut is the limit's own. Assumes nothing.
use Rattle.std.proofs.Common.{ap, ◌∙◌}
use Rattle.std.specs.Float.Ieee.{lt}
use Rattle.arith_root_limit.specs.Own.Limit.{high_cut}
use Rattle.arith_root_limit.proofs.Limit.is_above_high_cut.Goals as goal

pub returns : goal.returns
returns c = ap (λ h. lt h c.args.s) (c.self.invariant.1 ∙ ap high_cut c.self.view_is)
