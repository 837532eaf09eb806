-- `arith::floor` meets its contract: where the sum is whole, by how x compares with it; elsewhere by `floor_far`. Assumes nothing.
use Rattle.std.proofs.Common.{◌∙◌}
use lib.Ieee.{of_bits}
use Rattle.arith.proofs.Near.{floor_below, floor_above, floor_at}
use Rattle.arith.proofs.floor.Goals as goal
use Rattle.arith.proofs.floor.Goals.{then-n-x, else-n-x}

pub returns-then-x-n : goal.returns-then-x-n
unfolding of_bits
returns-then-x-n c = floor_below c.args.x c.if-s.true c.if-s-2.true c.if-x-n.true

pub returns-else-x-n : goal.returns-else-x-n
unfolding of_bits
returns-else-x-n c =
    elim c.if-n-x.branch [
      | then-n-x w ↦ w.most-is ∙ floor_above c.args.x c.if-s.true c.if-s-2.true w.if-n-x.true
      | else-n-x w ↦ w.most-is ∙ floor_at c.args.x c.if-s.true c.if-s-2.true c.if-x-n.false w.if-n-x.false
    ]
