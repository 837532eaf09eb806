-- `cornsunset::cs_flat_draw_in_mode` meets its contract: the law of proofs/Laws puts the numbers for the mode, the edge and the options. Assumes nothing.
use Rattle.cornsunset.proofs.Laws.{by_outcome}
use Rattle.cornsunset.proofs.cs_flat_draw_in_mode.Goals as goal

pub returns : goal.returns
returns c = by_outcome _ _ _ _ _ _ _ _ _ _ _ _ _ c.mode_of-mode.ensures c.edge_of-e.ensures c.options_of-o.ensures c.hand_answer.ensures c.draw_in_mode-drawn.ensures
