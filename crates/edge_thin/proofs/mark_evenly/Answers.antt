-- `mark_evenly` meets its contract. A product of two numbers below 16,384 fits, and a step's index lies inside.
use Rattle.std.proofs.Common.{◌≡◌, refl, ap, ◌∙◌, ℕ, ◌-◌, max, length, arith}
use Rattle.edge_thin_mark.specs.Spans.{marks}
use Rattle.edge_thin.specs.Thin.{evens}
use Rattle.edge_thin.proofs.Loops.{even_next, even_fits, even_inside}
use Rattle.edge_thin.proofs.mark_evenly.Goals as goal
use Rattle.edge_thin.proofs.mark_evenly.Goals.{After-max-steps}

steps_are : (c : After-max-steps) → c.max-steps.result ≡ max (c.args.want - 1) 1
steps_are c = rw (c.max-steps.ensures, c.saturating_sub.ensures)

pub loop-i-init : goal.loop-i-init
unfolding evens
loop-i-init c = refl

pub overflow_mul-keep : goal.overflow_mul-keep
overflow_mul-keep c = let h = even_fits (length c.args.keep.now) c.loop-i.i (omega arith) (omega arith) in omega arith

pub nonzero_div-keep : goal.nonzero_div-keep
nonzero_div-keep c = let e = steps_are (goal.at.nonzero_div-keep c).After-max-steps in omega arith

pub bounds-keep-i : goal.bounds-keep-i
bounds-keep-i c =
    let e = steps_are (goal.at.bounds-keep-i c).After-max-steps in
    let h = even_inside (length c.args.keep.now) c.args.want c.max-steps.result c.loop-i.i e (omega arith) (omega arith) in omega arith

pub loop-i-preserved : goal.loop-i-preserved
loop-i-preserved c =
    let e = steps_are (goal.at.loop-i-preserved c).After-max-steps in
    even_next (length c.args.keep.now) c.args.want c.max-steps.result c.loop-i.i e (omega arith) (omega arith) c.args.keep.now c.loop-i.keep c.loop-i.invariant

pub returns : goal.returns
returns c =
    let l = c.loop-i in
    let q : l.i ≡ c.args.want = omega arith in
    l.invariant ∙ ap (λ (k : ℕ). marks c.args.keep.now (evens (length c.args.keep.now) c.args.want k)) q
