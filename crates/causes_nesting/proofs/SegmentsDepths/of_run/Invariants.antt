-- `causes_nesting::SegmentsDepths::of_run` meets its contract. The invariant: depth is the largest of the segments gone by. Assumes nothing.
use Rattle.std.proofs.Common.{◌≡◌, ◌-◌, ◌≤◌, max}
use Rattle.causes_nesting.specs.Own.Depths.{deepest_of}
use Rattle.causes_nesting.proofs.SegmentsDepths.of_run.Given as goal

abbrev pub invariant-loop-i : goal.invariant-loop-i
invariant-loop-i l = record {
  in_run : l.i ≤ max l.from l.to;
  deepest : l.depth ≡ deepest_of (record { parts = l.self.parts.now; rows = l.self.rows.now; row = l.self.row }) l.from (l.i - l.from);
}
