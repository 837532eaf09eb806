-- `curve_asks::run_may_ask` meets its contract. Assumes nothing.
use Rattle.std.proofs.Common.{◌≡◌, true, ◌+◌, arith}
use Rattle.curve_asks.specs.Own.Numbers.{is_risky}
use Rattle.curve_nests.proofs.Laws.{is_kind_below}
use Rattle.curve_asks.proofs.Laws.{some_at}
use Rattle.curve_asks.proofs.run_may_ask.Goals as goal

pub returns-then-is_wild : goal.returns-then-is_wild
returns-then-is_wild c =
    let a = c.args in
    let P = is_risky a.curves.now a.parts.now a.ranges.now a.row in
    let risky : P (a.run.first + c.loop-i.i) ≡ true = grind (arith, is_kind_below) in
    rw (some_at P a.run.first a.run.count c.loop-i.i (omega arith) risky)
