-- `edge_sample::stop_at` meets its contract. Assumes nothing.
use borrow.Author.Rules.{rules}
use Rattle.edge_sample.proofs.Stops.{stop_last, stop_down, stop_up}
use Rattle.edge_sample.proofs.stop_at.Goals as goal

pub returns-then-i-n : goal.returns-then-i-n
returns-then-i-n c =
    let a = c.args in
    stop_last a.range a.breaks.now a.i c.if-i-n.true

pub returns-then-range : goal.returns-then-range
returns-then-range c =
    let a = c.args in
    stop_down a.range a.breaks.now a.i (search rules) c.if-range.true

pub returns-else-range : goal.returns-else-range
returns-else-range c =
    let a = c.args in
    stop_up a.range a.breaks.now a.i (search rules) c.if-range.false
