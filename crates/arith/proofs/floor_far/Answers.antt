-- `arith::floor_far` meets its contract, by what |x| without its fraction says of x. Assumes nothing.
use Rattle.std.proofs.Common.{◌+◌, arith, lit≤, rules}
use lib.Ieee.{of_bits}
use Rattle.arith.proofs.Casts.{can_cut}
use Rattle.arith.proofs.Floors.{Cut, far_small, far_whole, far_below, far_above, far_big, as_float}
use Rattle.arith.proofs.floor_far.Goals as goal
use Rattle.arith.proofs.floor_far.Goals.{After-truncating_f64_to_u64-n}

-- what the paths below the cut share
cut : (c : After-truncating_f64_to_u64-n) → Cut c.args.x c.abs-size.result c.truncating_f64_to_u64-n.result
unfolding of_bits
cut c = record { size = c.abs-size.ensures; cut = c.truncating_f64_to_u64-n.ensures; small = c.if-size.true }

pub truncating_f64_to_u64-n-requires : goal.truncating_f64_to_u64-n-requires
unfolding of_bits
truncating_f64_to_u64-n-requires c =
    let e = c.abs-size.ensures in
    let h = can_cut 52 (lit≤ tt) c.args.x (rw e at c.if-size.true) in
    record { lower_bound = rw e h.0; upper_bound = rw e h.1 }

pub int_to_float-f : goal.int_to_float-f
int_to_float-f c =
    let h = far_small (cut (goal.at.int_to_float-f c).After-truncating_f64_to_u64-n) in as_float c.truncating_f64_to_u64-n.result (omega arith)

pub overflow_add-result : goal.overflow_add-result
overflow_add-result c = omega (arith, far_small (cut (goal.at.overflow_add-result c).After-truncating_f64_to_u64-n))

pub int_to_float-result : goal.int_to_float-result
int_to_float-result c =
    let h = far_small (cut (goal.at.int_to_float-result c).After-truncating_f64_to_u64-n) in as_float (c.truncating_f64_to_u64-n.result + 1) (omega arith)

pub returns-then-f-size : goal.returns-then-f-size
returns-then-f-size c = far_whole (cut (goal.at.returns-then-f-size c).After-truncating_f64_to_u64-n) c.if-f-size.true

pub returns-then-x : goal.returns-then-x
unfolding of_bits
returns-then-x c = far_below (cut (goal.at.returns-then-x c).After-truncating_f64_to_u64-n) c.if-f-size.false c.if-x.true

pub returns-else-x : goal.returns-else-x
unfolding of_bits
returns-else-x c = far_above (cut (goal.at.returns-else-x c).After-truncating_f64_to_u64-n) c.if-f-size.false c.if-x.false

pub returns-else-size : goal.returns-else-size
unfolding of_bits
returns-else-size c = far_big c.args.x (search rules) (rw c.abs-size.ensures at c.if-size.false)
