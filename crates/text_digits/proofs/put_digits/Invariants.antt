-- `text_digits::put_digits` meets its contract: the digits that are left, and those that were put behind them, are the number's.
-- Assumes nothing.
use Rattle.std.proofs.Common.{◌≡◌, ◌++◌, ◌^◌, ◌<◌, length, drop}
use Rattle.text_format.specs.Format.{digits}
use Rattle.text_digits.proofs.put_digits.Given as goal

abbrev pub invariant-loop-i : goal.invariant-loop-i
invariant-loop-i g l = record {
  few : l.rest < g.row.BASE ^ l.i;
  whole : digits g.row.BASE l.i l.rest ++ drop l.i l.out ≡ digits g.row.BASE (length l.out) l.v;
}
