-- `Angle::degrees` meets its contract: the library divides π by 180 as the definition's constant says. Assumes nothing.
use Rattle.std.proofs.Common.{ap}
use lib.Ieee.{div, of_bits}
use Rattle.options.specs.Options.{radians}
use Rattle.options.proofs.Angle.degrees.Goals as goal

pub returns : goal.returns
unfolding div of_bits
returns c = ap radians c.to_radians.ensures
