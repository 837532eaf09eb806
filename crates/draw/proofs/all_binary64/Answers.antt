-- `draw::all_binary64` meets its contract. Assumes nothing.
use native.Mathlib.Omega.{arith}
use Rattle.draw_spec.proofs.Tame.{binary64_none}
use Rattle.draw.proofs.all_binary64.Goals as goal

pub returns-else-s-gt0 : goal.returns-else-s-gt0
returns-else-s-gt0 c = binary64_none c.args.s.now (omega (arith, c.if-s-gt0.false))
