-- `causes_nesting::Blocks::of_blocks` meets its contract. Assumes nothing.
use Rattle.std.proofs.Common.{refl, arith, rules, ◌∙◌}
use Rattle.std.proofs.Math.Nat.{mul-le-mul_right}
use Rattle.causes_nesting.proofs.Runs.{deepest_none, deepest_joined, block_inside}
use Rattle.causes_nesting.proofs.Blocks.of_blocks.Goals as goal

pub loop-b-init : goal.loop-b-init
loop-b-init g c = record { in_run = omega arith; same = refl; deepest = deepest_none _ _ _ (omega arith) }

pub loop-b-preserved : goal.loop-b-preserved
loop-b-preserved g c =
    let l = c.loop-b.invariant in
    record {
      in_run = omega arith;
      same = c.of_block.ensures.same ∙ l.same;
      deepest = deepest_joined _ _ _ _ _ _ _ (mul-le-mul_right g.row.SIZE c.loop-b.auto.b) (omega arith) l.deepest (rw l.same at c.of_block.ensures.value) c.max-depth.ensures;
    }

pub of_block-requires : goal.of_block-requires
of_block-requires g c = let l = c.loop-b.invariant in let k = block_inside g.row.SIZE _ _ _ c.loop-b-test.true c.requires in search (rules, l.same, k)
