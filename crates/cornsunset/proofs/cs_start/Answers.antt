-- `cornsunset::cs_start` meets its contract. Assumes nothing.
use Rattle.cornsunset.proofs.cs_start.Goals as goal

pub returns : goal.returns
returns c = c.start_at.ensures
