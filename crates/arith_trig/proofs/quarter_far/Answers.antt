-- `arith_trig::quarter_far` meets its contract, by what the size cut to a whole number says of k. Assumes nothing.
use Rattle.std.proofs.Common.{arith, lit≤}
use lib.Ieee.{of_bits}
use Rattle.arith.proofs.Casts.{can_cut}
use Rattle.arith.proofs.Cmp.{holds}
use Rattle.arith_trig.proofs.Modulo.{of_below, of_other, of_large}
use Rattle.arith_trig.proofs.quarter_far.Goals as goal

pub truncating_f64_to_u64-n-requires : goal.truncating_f64_to_u64-n-requires
unfolding of_bits
truncating_f64_to_u64-n-requires c =
    let e = c.abs-size.ensures in
    let h = can_cut 64 (lit≤ tt) c.args.k (rw e at c.if-size.true) in
    record { lower_bound = rw e h.0; upper_bound = rw e h.1 }

pub returns-then-k : goal.returns-then-k
unfolding of_bits
returns-then-k c =
    let e = c.abs-size.ensures in
    rw (c.truncating_f64_to_u64-n.ensures, e) (of_below c.args.k (rw e at c.if-size.true) c.if-k.true)

pub returns-else-k : goal.returns-else-k
unfolding of_bits
returns-else-k c =
    let e = c.abs-size.ensures in
    rw (c.truncating_f64_to_u64-n.ensures, e) (of_other c.args.k (rw e at c.if-size.true) c.if-k.false)

pub returns-else-size : goal.returns-else-size
unfolding of_bits
returns-else-size c = of_large c.args.k (holds c.well_formed.0.1) (rw c.abs-size.ensures at c.if-size.false)
