-- `cornsunset::cs_flat_draw_over` meets its contract: the law of proofs/Laws puts the numbers for the edge and the options. Assumes nothing.
use mathlib.Core.Path.{refl}
use Rattle.cornsunset.proofs.Laws.{by_over}
use Rattle.cornsunset.proofs.cs_flat_draw_over.Goals as goal

pub returns : goal.returns
returns c = by_over _ _ _ _ _ _ _ _ _ _ _ _ _ refl c.edge_of.ensures c.options_of.ensures c.hand_answer.ensures c.draw_over-drawn.ensures
