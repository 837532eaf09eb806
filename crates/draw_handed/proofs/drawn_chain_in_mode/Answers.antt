-- `draw_handed::drawn_chain_in_mode` meets its contract. Assumes nothing.
use mathlib.Core.Path.{refl}
use Rattle.brep.specs.Rows.{lent}
use Rattle.draw_handed.proofs.Laws.{hands_back}
use Rattle.draw_handed.proofs.drawn_chain_in_mode.Goals as goal

pub returns : goal.returns
returns c =
    let a = c.args in
    hands_back a.mode (lent a.tables.now) a.edge a.options a.first a.second _ _ _ c.draw_in_mode-drawn.ensures _ refl refl c.chain_of.ensures.0 c.chain_of.ensures.1
