-- `draw_handed::chain_of` meets its contract. Assumes nothing.
use mathlib.Core.Path.{ap, ◌∙◌}
use lib.ListN.{take}
use Rattle.draw_spec.specs.Draw.{chain_floats}
use Rattle.draw_handed.proofs.Laws.{in_the_first, in_the_second, so_many}
use Rattle.draw_handed.proofs.chain_of.Goals as goal

pub returns-then-is_in_first : goal.returns-then-is_in_first
returns-then-is_in_first c = let a = c.args in let w = in_the_first a.drawn c.in-Ok.chain.way c.in-Ok.chain.count c.in-Ok.is _ c.is_in_first.ensures c.if-is_in_first.true a.first.now a.second.now in let v = in_the_first a.drawn c.in-Ok.chain.way c.in-Ok.chain.count c.in-Ok.is _ c.is_in_first.ensures c.if-is_in_first.true a.first.ref_ptr a.second.ref_ptr in (c.leading-then-is_in_first.ensures.0 ∙ so_many a.drawn c.in-Ok.chain.way c.in-Ok.chain.count c.in-Ok.is a.first.now ∙ ap (take (chain_floats a.drawn)) w, c.leading-then-is_in_first.ensures.1 ∙ v)

pub returns-else-is_in_first : goal.returns-else-is_in_first
returns-else-is_in_first c = let a = c.args in let w = in_the_second a.drawn c.in-Ok.chain.way c.in-Ok.chain.count c.in-Ok.is _ c.is_in_first.ensures c.if-is_in_first.false a.first.now a.second.now in let v = in_the_second a.drawn c.in-Ok.chain.way c.in-Ok.chain.count c.in-Ok.is _ c.is_in_first.ensures c.if-is_in_first.false a.first.ref_ptr a.second.ref_ptr in (c.leading-else-is_in_first.ensures.0 ∙ so_many a.drawn c.in-Ok.chain.way c.in-Ok.chain.count c.in-Ok.is a.second.now ∙ ap (take (chain_floats a.drawn)) w, c.leading-else-is_in_first.ensures.1 ∙ v)
