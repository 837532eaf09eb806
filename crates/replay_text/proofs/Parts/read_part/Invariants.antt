-- `replay_text::Parts::read_part` is safe: no more than 5 equals signs are counted, and a part is no longer than its room. Assumes nothing.
use Rattle.std.proofs.Common.{◌≤◌, length}
use Rattle.replay_text.proofs.Parts.read_part.Given as goal

abbrev pub invariant-loop : goal.invariant-loop
invariant-loop g l = (l.equals ≤ 5) × (length l.self ≤ g.row.SIZE)
