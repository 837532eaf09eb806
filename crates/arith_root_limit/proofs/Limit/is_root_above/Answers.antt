-- `Limit::is_root_above` meets its contract: beyond a cut the answer is the cut's own. Assumes nothing.
use Rattle.std.proofs.Common.{rules, sym}
use Rattle.arith_root_limit.proofs.Roots.{stands, low_not_above}
use Rattle.arith_root_limit.proofs.Limit.is_root_above.Goals as goal

pub returns-then-self-s : goal.returns-then-self-s
returns-then-self-s c = let t = (stands c.args.self).high_stands c.args.s (search rules) (cc) in sym t

pub returns-then-s-self : goal.returns-then-s-self
returns-then-s-self c = low_not_above c.args.self c.args.s (search rules) (cc)
