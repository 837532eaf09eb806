-- `draw::draw_lost` meets its contract. Assumes nothing.
use mathlib.Core.Path.{refl}
use Rattle.edge_params.specs.Work.{overflows}
use Rattle.draw_spec.specs.Draw.{answer_of, first_after, second_after}
use Rattle.draw.proofs.draw_lost.Goals as goal

pub chord-requires : goal.chord-requires
chord-requires c = c.args.buffers.now.first_long

pub returns : goal.returns
unfolding overflows answer_of first_after second_after
returns c = record {
  same = record { first = refl; second = refl; first_room = c.chord.auto.chain; second_room = c.clear_from.auto.a };
  drawn = record { answered = refl; first_holds = c.chord.ensures; second_holds = c.clear_from.ensures };
}
