-- `draw::first_way` meets its contract. Assumes nothing.
use Rattle.draw_spec.specs.Draw.{first_way}
use mathlib.Core.Path.{ap, sym}
use Rattle.draw.proofs.first_way.Goals as goal

pub returns-in-Some : goal.returns-in-Some
unfolding first_way
returns-in-Some c = ap first_way (sym c.in-Some.is)

pub returns-in-None : goal.returns-in-None
unfolding first_way
returns-in-None c = ap first_way (sym c.in-None.is)
