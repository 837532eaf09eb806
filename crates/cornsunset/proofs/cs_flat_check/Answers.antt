-- `cornsunset::cs_flat_check` meets its contract. Assumes nothing.
use Rattle.cornsunset.proofs.cs_flat_check.Goals as goal

pub returns : goal.returns
returns c = rw (c.cause_of.ensures, c.check.ensures, c.options_of-o.ensures, c.edge_of-e.ensures)
