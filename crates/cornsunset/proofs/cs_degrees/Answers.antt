-- `cornsunset::cs_degrees` meets its contract. Assumes nothing.
use mathlib.Core.Path.{ap, ◌∙◌}
use Rattle.options.specs.declared.Angle.{Angle}
use Rattle.cornsunset.proofs.cs_degrees.Goals as goal

pub returns : goal.returns
returns c = c.to_radians.ensures ∙ ap (λ (r : Angle). r.0) c.degrees.ensures
