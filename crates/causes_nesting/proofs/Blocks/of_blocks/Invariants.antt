-- `causes_nesting::Blocks::of_blocks` meets its contract. The invariant: depth is the largest of the blocks gone by. Assumes nothing.
use Rattle.std.proofs.Common.{◌≡◌, ◌-◌, ◌*◌, ◌≤◌, max}
use Rattle.causes_nesting.specs.Own.Depths.{deepest_of}
use Rattle.causes_nesting.proofs.Blocks.of_blocks.Given as goal

abbrev pub invariant-loop-b : goal.invariant-loop-b
invariant-loop-b g l = record {
  in_run : l.b ≤ max l.start l.end;
  same : g.D.Depths.seen l.self.below ≡ g.D.Depths.seen l.initial.self.below;
  deepest : l.depth ≡ deepest_of (g.D.Depths.seen l.initial.self.below) (l.start * g.row.SIZE) (l.b * g.row.SIZE - l.start * g.row.SIZE);
}
