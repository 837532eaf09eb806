-- `cornsunset::cs_flat_draw` meets its contract: the law of proofs/Laws puts the numbers for the edge and the options. Assumes nothing.
use mathlib.Core.Path.{refl}
use Rattle.cornsunset.proofs.Laws.{by_outcome}
use Rattle.cornsunset.proofs.cs_flat_draw.Goals as goal

pub returns : goal.returns
returns c = by_outcome _ _ _ _ _ _ _ _ _ _ _ _ _ refl c.edge_of-edge.ensures c.options_of-options.ensures c.hand_answer.ensures c.draw-drawn.ensures
