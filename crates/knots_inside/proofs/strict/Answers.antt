-- `knots_inside::strict` meets its contract. Assumes nothing.
use Rattle.knots_inside.proofs.Keep.{strict_is, strict_not}
use Rattle.knots_inside.proofs.strict.Goals as goal

pub returns-then-above-x : goal.returns-then-above-x
returns-then-above-x c = strict_is c.args.above c.args.below c.args.x c.if-above-x.true

pub returns-else-above-x : goal.returns-else-above-x
returns-else-above-x c = strict_not c.args.above c.args.below c.args.x c.if-above-x.false
