-- `room` meets its contract. Assumes nothing.
use Rattle.draw_spec.specs.Draw.{room_of}
use Rattle.edge_discretise.proofs.room.Goals as goal

pub returns : goal.returns
unfolding room_of
returns c = cc
