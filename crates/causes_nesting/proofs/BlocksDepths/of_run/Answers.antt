-- `causes_nesting::BlocksDepths::of_run` meets its contract. Assumes nothing.
use Rattle.std.proofs.Common.{◌*◌, ◌/◌, arith, ◌∙◌}
use Rattle.std.proofs.Math.Nat.{mul-le-mul_right}
use Rattle.std.proofs.lemmas.Grind.{div_ceil_times}
use Rattle.causes_nesting.proofs.Runs.{deepest_joined}
use Rattle.causes_nesting.proofs.BlocksDepths.of_run.Goals as goal

pub returns : goal.returns
returns g c =
    let SIZE = g.row.SIZE in
    let before = c.of_rest-front.ensures.same in
    let starts = rw (← c.div_ceil-start.ensures) at (div_ceil_times c.args.from SIZE c.args.self.now.not_empty) in
    let in_order = mul-le-mul_right {m = c.div_ceil-start.result} {n = c.args.to / SIZE} SIZE (omega arith) in
    let blocks = rw before at c.of_blocks-blocks.ensures.value in
    let back = rw (c.of_blocks-blocks.ensures.same, before) at c.of_rest-back.ensures.value in
    let front_on = deepest_joined _ _ (c.div_ceil-start.result * SIZE) _ _ _ _ starts.0 in_order c.of_rest-front.ensures.value blocks c.max.ensures in
    record {
      value = deepest_joined _ _ (c.args.to / SIZE * SIZE) _ _ _ _ (omega arith) (omega arith) front_on back c.max-2.ensures;
      same = c.of_rest-back.ensures.same ∙ (c.of_blocks-blocks.ensures.same ∙ before);
    }
