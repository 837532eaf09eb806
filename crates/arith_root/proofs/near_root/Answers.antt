-- `arith_root::near_root` meets its contract: what it returns was accepted by `is_nearest`, or is what `by_digits` gives. Assumes nothing.
use Rattle.std.proofs.Common.{◌+◌, ◌*◌, ◌%◌, ◌^◌, arith}
use Rattle.arith_root.proofs.Grid.{no_nan_pattern}
use Rattle.arith_root.proofs.near_root.Goals as goal

pub float_from_bits-t : goal.float_from_bits-t
float_from_bits-t c = no_nan_pattern (c.args.b % 2 ^ 53 + 1022 * 2 ^ 52) (omega arith)
