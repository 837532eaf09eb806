-- `edge_segment::draw_segment` meets its contract. Assumes nothing.
use mathlib.Core.Path.{refl, sym, ap, ◌∙◌}
use lib.Ieee.{Float}
use Rattle.math.specs.Math.{v_add}
use Rattle.brep.specs.Rows.{Tables}
use Rattle.draw_spec.specs.Edge.{edge_curve}
use Rattle.options.specs.Options.{resolve, for_extent}
use Rattle.edge_segment.proofs.Laws.{not_drawn, drawn, one_segment, its_sag}
use Rattle.edge_segment.proofs.draw_segment.Goals as goal

pub returns-then-meets : goal.returns-then-meets
returns-then-meets c = λ (T : Tables) s e l (x : Float).
    drawn T c.args.edge (for_extent (resolve c.args.options) x) c.args.range c.args.chain.now s e l (one_segment c.args.options x c.requires.1)
    c.at-a.ensures c.at-b.ensures (c.add.ensures ∙ ap (v_add _) c.scale.ensures) (c.add-2.ensures ∙ ap (v_add _) c.scale-2.ensures)
    (rw (sym (its_sag c.args.options x)) (c.meets.ensures c.if-meets.true (edge_curve T c.args.edge) l x))
    (c.chord_along.ensures T s e)

pub returns : goal.returns
returns c = λ (T : Tables) s e l (x : Float).
    not_drawn T c.args.edge (for_extent (resolve c.args.options) x) c.args.range c.args.chain.now refl
