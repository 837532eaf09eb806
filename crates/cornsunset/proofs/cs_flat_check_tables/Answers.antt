-- `cornsunset::cs_flat_check_tables` meets its contract. Assumes nothing.
use mathlib.Core.Path.{ap, ◌∙◌}
use Rattle.ffi_numbers.specs.Numbers.{cause_of}
use Rattle.cornsunset.proofs.Laws.{accepted}
use Rattle.cornsunset.proofs.cs_flat_check_tables.Goals as goal

pub returns : goal.returns
returns c =
    let p = c.cause_of.ensures ∙ ap cause_of c.check_tables.ensures in
    (p, accepted _ _ p)
