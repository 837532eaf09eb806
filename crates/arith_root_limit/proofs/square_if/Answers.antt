-- `arith_root_limit::square_if` meets its contract. Assumes nothing.
use Rattle.arith_root_limit.proofs.square_if.Goals as goal

pub returns : goal.returns
returns c = rw (c.cut_if-2.ensures, c.cut_if.ensures)
