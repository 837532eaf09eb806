-- `sheet_tables::Lists::put_rows` meets its contract. The loop's invariant is `Rows`: the rows that were read, in front of what
-- is left to be read, are the whole; the lists hold them, and have room for more. Assumes nothing.
use Rattle.std.proofs.Common.{length}
use Rattle.sheet_tables.specs.Own.Lists.{SameLists}
use Rattle.sheet_tables.proofs.Turns.{Rows}
use Rattle.sheet_tables.proofs.Lists.put_rows.Given as goal

abbrev pub invariant-loop-line : goal.invariant-loop-line
invariant-loop-line l = record {
  same : SameLists l.initial.self l.self;
  rows : Rows l.fn.text l.columns l.initial.self.wholes.now l.initial.self.floats.now l.rest l.self.wholes.now l.self.floats.now l.n l.w l.f;
}

abbrev pub decreases-loop-line : goal.decreases-loop-line
decreases-loop-line l = length l.rest
