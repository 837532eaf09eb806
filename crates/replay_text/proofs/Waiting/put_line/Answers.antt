-- `replay_text::Waiting::put_line` meets its contract. Assumes nothing.
use Rattle.std.proofs.Common.{refl, sym, arith}
use Rattle.replay_text.proofs.Puts.{line_next, line_done}
use Rattle.replay_text.proofs.Waiting.put_line.Goals as goal

pub loop-i-init : goal.loop-i-init
loop-i-init g c = λ text h. refl

pub loop-i-preserved : goal.loop-i-preserved
loop-i-preserved g c =
    let l = c.loop-i in
    λ text h. line_next text c.args.list.now l.i l.self _ (l.invariant text h) c.index-list-i.result _ _ (sym c.index-list-i.is) (omega arith) c.end_of.ensures (h _ _ _ _ _ c.put.ensures)

pub returns : goal.returns
returns g c = let l = c.loop-i in λ text h. line_done text c.args.list.now l.i l.self _ (l.invariant text h) (omega arith)
