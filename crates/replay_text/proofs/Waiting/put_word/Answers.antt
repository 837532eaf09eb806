-- `replay_text::Waiting::put_word` meets its contract. Assumes nothing.
use Rattle.std.proofs.Common.{arith}
use Rattle.replay_text.proofs.Puts.{put_all}
use Rattle.replay_text.proofs.Waiting.put_word.Goals as goal

pub returns-then-text-self : goal.returns-then-text-self
returns-then-text-self c =
    let w = c.self.inside in
    rw c.copy_from_slice.ensures.after (put_all w.len w.bytes _ c.args.text.now c.self.view_is (omega (arith, c.self.invariant)) (omega (arith, c.self.invariant)))
