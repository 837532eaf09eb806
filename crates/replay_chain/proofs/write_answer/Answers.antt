-- `replay_chain::write_answer` meets its contract: there is room for every listing. Assumes nothing.
use Rattle.std.proofs.Common.{arith}
use Rattle.draw_spec.specs.Draw.{room_of}
use Rattle.replay_chain.proofs.write_answer.Goals as goal

pub answer_in_mode-written-requires : goal.answer_in_mode-written-requires
unfolding room_of
answer_in_mode-written-requires c = omega arith
