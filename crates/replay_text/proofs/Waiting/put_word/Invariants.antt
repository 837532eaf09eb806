-- `replay_text::Waiting::put_word` meets its contract: so much of the text was put. Assumes nothing.
use Rattle.std.proofs.Common.{◌≡◌, take}
use Rattle.replay_text.specs.Own.Waiting.{puts}
use Rattle.replay_text.proofs.Waiting.put_word.Given as goal

abbrev pub invariant-loop-b : goal.invariant-loop-b
invariant-loop-b l = l.self ≡ puts (take l.b-index l.text) l.fn.self
