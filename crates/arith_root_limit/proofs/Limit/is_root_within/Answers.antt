-- `Limit::is_root_within` meets its contract: beyond a cut the answer is the cut's own. Assumes nothing.
use Rattle.std.proofs.Common.{rules}
use Rattle.arith_root_limit.proofs.Roots.{low_within, high_not_within}
use Rattle.arith_root_limit.proofs.Limit.is_root_within.Goals as goal

pub returns-then-s-self : goal.returns-then-s-self
returns-then-s-self c = low_within c.args.self c.args.s (search rules) (cc)

pub returns-then-self-s : goal.returns-then-self-s
returns-then-self-s c = high_not_within c.args.self c.args.s (search rules) (cc)
