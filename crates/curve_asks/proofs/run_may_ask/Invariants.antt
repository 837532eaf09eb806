-- `curve_asks::run_may_ask` meets its contract. The invariant: none of the segments gone through is risky, and whether one of them is a composite is kept.
use mathlib.Core.Path.{◌≡◌}
use mathlib.Core.Bool.{false}
use Rattle.std.specs.List.{list_any, range_with_len}
use Rattle.curve_nests.specs.Own.Numbers.{some_refers}
use Rattle.curve_asks.specs.Own.Numbers.{is_risky}
use Rattle.curve_asks.proofs.run_may_ask.Given as goal

abbrev pub invariant-loop-i : goal.invariant-loop-i
invariant-loop-i l = record {
  risky : list_any (is_risky l.curves l.parts l.ranges l.row) (range_with_len l.run.first l.i) ≡ false;
  nested : l.composite ≡ some_refers l.curves l.parts l.row l.run.first l.i;
}
