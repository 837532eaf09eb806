-- `draw::local_options` meets its contract: where nothing is relative, no extent changes the options. Assumes nothing.
use mathlib.Core.Path.{◌≡◌, ap, ◌∙◌}
use mathlib.Core.Bool.{false}
use lib.Ieee.{Float, lt}
use Rattle.arith.specs.Notation.{plus_zero}
use Rattle.options.specs.declared.Resolved.{Resolved}
use Rattle.options.specs.Options.{sag_for, for_extent}
use Rattle.brep.specs.Rows.{lent}
use Rattle.draw_spec.specs.Edge.{edge_extent}
use Rattle.draw_spec.specs.Draw.{local_options}
use Rattle.draw.proofs.local_options.Goals as goal

unchanged : (r : Resolved) (x : Float) → lt plus_zero r.relative ≡ false → r ≡ for_extent r x
unfolding for_extent sag_for
unchanged r x e = rw e

pub extent_usable-extent-requires : goal.extent_usable-extent-requires
extent_usable-extent-requires c = c.args.drawing.now.own

pub returns-then-r : goal.returns-then-r
unfolding local_options
returns-then-r c = rw (c.for_extent.ensures, c.resolve-r.ensures, c.extent_usable-extent.ensures)

pub returns : goal.returns
unfolding local_options
returns c =
    let a = c.args in
    let x = edge_extent (lent a.drawing.now.tables.now) a.drawing.now.edge in
    unchanged c.resolve-r.result x c.if-r.false ∙ ap (λ (r : Resolved). for_extent r x) c.resolve-r.ensures
