-- `sheet_layout::line`: the numbers that were read, in front of what is left to be read, are the whole; and zeros stand behind them.
use mathlib.Core.Path.{◌≡◌}
use lib.ListN.{length, take, drop}
use Rattle.base_lists.specs.Room.{padded}
use Rattle.text_format.specs.Table.{line}
use Rattle.sheet_layout.specs.Own.Columns.{shape_of}
use Rattle.sheet_layout.proofs.Onto.{onto}
use Rattle.sheet_layout.proofs.line.Given as goal

abbrev pub invariant-loop-i : goal.invariant-loop-i
invariant-loop-i l = record {
  room : length l.numbers ≡ 9;
  left : onto (take l.i l.numbers) ((line (shape_of (drop l.i l.shape))).read l.rest) ≡ (line (shape_of l.shape)).read l.s;
  zeros : l.numbers ≡ padded 9 0 (take l.i l.numbers);
}
