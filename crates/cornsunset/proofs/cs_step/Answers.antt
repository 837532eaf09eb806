-- `cornsunset::cs_step` meets its contract. Assumes nothing.
use mathlib.Core.Path.{ap, ◌∙◌}
use Rattle.edge_walker.specs.declared.Stepped.{Stepped}
use Rattle.ffi_numbers.specs.Numbers.{passed, point_after}
use Rattle.cornsunset.proofs.cs_step.Goals as goal

pub returns : goal.returns
returns c =
    let e = c.step_at-s.ensures in (
      c.has_passed.ensures ∙ ap (λ (s : Stepped). passed s.step) e,
      ap (λ (s : Stepped). s.at) e,
      c.point_after.ensures ∙ ap (λ (s : Stepped). point_after c.args.point.now s.step) e,
    )
