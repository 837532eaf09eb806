-- `cornsunset::hand_options` meets its contract: what it stores are the six numbers. Assumes nothing.
use Rattle.std.proofs.Common.{refl}
use Rattle.cornsunset.proofs.hand_options.Goals as goal

pub returns : goal.returns
returns c = rw c.to_radians.ensures refl
