-- `options::Resolved::is_angle_bound` meets its contract: a step that is above the angle leaves it the lesser, and so does the angle itself.
-- Assumes nothing.
use mathlib.Core.Path.{sym, ap, ◌∙◌}
use lib.Ieee.{Float, lt}
use Rattle.arith.specs.Notation.{◌⊗◌, two}
use Rattle.arith_trig.specs.Trig.{acos_of}
use Rattle.arith_turn_limit.proofs.Above.{double_over}
use Rattle.options.proofs.Resolved.is_angle_bound.Goals as goal

pub returns-then-self-radius : goal.returns-then-self-radius
returns-then-self-radius c e =
    let a = c.args.self.angle in
    rw (
      c.if-self-radius.true,
      ap (λ (x : Float). lt a (two ⊗ acos_of x)) (sym c.clamp-cosine.ensures)
          ∙ double_over c.clamp-cosine.result a (sym c.is_double_turn_over.ensures ∙ e),
    )
