-- `cornsunset::cs_is_clamped` meets its contract. Assumes nothing.
use mathlib.Core.Path.{ap, ◌∙◌}
use Rattle.options.specs.Options.{is_clamped}
use Rattle.cornsunset.proofs.cs_is_clamped.Goals as goal

pub returns : goal.returns
returns c = c.is_clamped.ensures ∙ ap is_clamped c.radians.ensures
