-- `Limit::is_below_low_cut` meets its contract: the low cut is the limit's own. Assumes nothing.
use Rattle.std.proofs.Common.{ap, ◌∙◌}
use Rattle.std.specs.Float.Ieee.{lt}
use Rattle.arith_root_limit.specs.Own.Limit.{low_cut}
use Rattle.arith_root_limit.proofs.Limit.is_below_low_cut.Goals as goal

pub returns : goal.returns
returns c = ap (lt c.args.s) (c.self.invariant.0 ∙ ap low_cut c.self.view_is)
