-- `replay_text::Waiting::put_line` meets its contract: what is left of the list, put behind what was put, is the whole line. Assumes nothing.
use Rattle.replay_text.proofs.Puts.{Left}
use Rattle.replay_text.proofs.Waiting.put_line.Given as goal

abbrev pub invariant-loop-i : goal.invariant-loop-i
invariant-loop-i g l = Left (goal.F-post g) l.put l.i l.list l.self l.fn.self
