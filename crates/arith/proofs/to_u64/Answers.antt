-- `arith::to_u64` meets its contract. Assumes nothing.
use Rattle.std.proofs.Common.{T, sym, subst}
use lib.Ieee.{of_bits, neg}
use Rattle.arith.proofs.Casts.{low_end, high_end}
use Rattle.arith.proofs.to_u64.Goals as goal

pub truncating_f64_to_u64-requires : goal.truncating_f64_to_u64-requires
unfolding of_bits neg
truncating_f64_to_u64-requires c = record {
  lower_bound = subst T (sym c.if-x.true) tt;
  upper_bound = subst T (sym c.if-x-2.true) tt;
}

pub returns-then-x : goal.returns-then-x
unfolding of_bits neg
returns-then-x c = high_end c.args.x c.if-x.true c.if-x-2.false

pub returns : goal.returns
unfolding of_bits neg
returns c = low_end c.args.x c.if-x.false
