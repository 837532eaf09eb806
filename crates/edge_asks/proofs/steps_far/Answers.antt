-- `edge_asks::steps_far` meets its contract. The loop's invariant: none of the first i steps is too far. Assumes nothing.
use Rattle.std.proofs.Common.{◌≡◌, sym, ◌∙◌, add-one, arith}
use Rattle.brep.specs.Rows.{tables}
use Rattle.brep.specs.Tree.{tree}
use Rattle.curve_asks.specs.Asks.{asks_far}
use Rattle.edge_params.specs.Params.{step_at}
use Rattle.edge_asks.proofs.Steps.{steps_none, steps_passed, evenly_found}
use Rattle.edge_asks.proofs.steps_far.Goals as goal

pub loop-i-init : goal.loop-i-init
loop-i-init c points reals = steps_none _ _ _

pub returns-then-far_at : goal.returns-then-far_at
returns-then-far_at c points reals =
    -- what far_at answers, of step number i
    let looked : c.far_at.result ≡ asks_far (tree (tables points c.args.curves.now reals c.args.parts.now c.args.ranges.now) c.args.row) (step_at c.args.range c.args.n c.loop-i.i) =
    rw (c.at-t.ensures, c.nearest_u64_to_f64.ensures, c.nearest_u64_to_f64-total.ensures) at (c.far_at.ensures points reals) in
    evenly_found _ _ _ c.loop-i.i (omega arith) (sym looked ∙ c.if-far_at.true)

pub loop-i-preserved : goal.loop-i-preserved
loop-i-preserved c points reals =
    let l = c.loop-i in
    let looked : c.far_at.result ≡ asks_far (tree (tables points c.args.curves.now reals c.args.parts.now c.args.ranges.now) c.args.row) (step_at c.args.range c.args.n l.i) =
    rw (c.at-t.ensures, c.nearest_u64_to_f64.ensures, c.nearest_u64_to_f64-total.ensures) at (c.far_at.ensures points reals) in
    rw add-one (steps_passed _ _ _ l.i (l.invariant points reals) (sym looked ∙ c.if-far_at.false))

pub returns-else-far_at : goal.returns-else-far_at
returns-else-far_at c points reals =
    let l = c.loop-i in
    let looked : c.far_at.result ≡ asks_far (tree (tables points c.args.curves.now reals c.args.parts.now c.args.ranges.now) c.args.row) (step_at c.args.range c.args.n l.i) =
    rw (c.at-t.ensures, c.nearest_u64_to_f64.ensures, c.nearest_u64_to_f64-total.ensures) at (c.far_at.ensures points reals) in
    let z : l.i ≡ c.args.n = omega arith in
    sym (rw z at (steps_passed _ _ _ l.i (l.invariant points reals) (sym looked ∙ c.if-far_at.false)))
