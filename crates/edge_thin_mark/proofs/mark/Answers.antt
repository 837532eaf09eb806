-- `mark` meets its contract.
use Rattle.std.proofs.Common.{◌≡◌, Bool, sym, ◌∙◌, length, ◌-◌, arith, length-set}
use Rattle.std.proofs.lemmas.Result.{err_from_is_err_and}
use Rattle.edge_thin_mark.proofs.Flags.{Turning, marking_none, turning}
use Rattle.edge_thin_mark.proofs.mark.Goals as goal
use Rattle.edge_thin_mark.proofs.mark.Goals.{After-next_kept-b}

-- what is known once the next flag is found
found : (c : After-next_kept-b) → Turning c.args.chain.now c.args.bounds.tolerance c.args.bounds.angle (length c.args.keep.now) c.loop-a.keep c.loop-a.a c.next_kept-b.result
found c =
    turning c.args.chain.now c.args.bounds.tolerance c.args.bounds.angle (length c.args.keep.now) c.loop-a.keep c.loop-a.a c.next_kept-b.result
    c.loop-a.invariant c.loop-a-test.true (omega (arith, length-set {A = Bool})) c.next_kept-b.ensures

pub loop-a-init : goal.loop-a-init
loop-a-init c = marking_none c.args.chain.now c.args.bounds.tolerance c.args.bounds.angle c.args.keep.now c.requires.0 c.requires.2

pub invariant_of-span : goal.invariant_of-span
invariant_of-span c =
    let t = found (goal.at.invariant_of-span c).After-next_kept-b in
    let x = t.ahead in
    let y = t.bound in
    record { forwards = x; inside = omega arith }

pub returns-in_err-w : goal.returns-in_err-w
returns-in_err-w c =
    let t = found (goal.at.returns-in_err-w c).After-next_kept-b in
    let p = err_from_is_err_and c.from_residual.result c.from_residual.ensures.1 in
    rw (p.1, p.2) (t.refused c.in_err-w.field-0.0 (sym c.in_err-w.ensures))

pub bounds-keep-w : goal.bounds-keep-w
bounds-keep-w c =
    let t = found (goal.at.bounds-keep-w c).After-next_kept-b in
    let q = c.in_ok-w.ensures in let z = c.in-Some.is in
    let i = t.inside c.in-Some.w (sym (rw z at q)) in
    let y = t.bound in
    omega (arith, length-set {A = Bool})

pub loop-a-smaller-in-Some : goal.loop-a-smaller-in-Some
loop-a-smaller-in-Some c =
    let t = found (goal.at.loop-a-smaller-in-Some c).After-next_kept-b in
    let f = t.fewer c.in-Some.w (sym (rw c.in-Some.is at c.in_ok-w.ensures)) in
    omega arith

pub loop-a-preserved-in-Some : goal.loop-a-preserved-in-Some
loop-a-preserved-in-Some c =
    (found (goal.at.loop-a-preserved-in-Some c).After-next_kept-b).split c.in-Some.w (sym (rw c.in-Some.is at c.in_ok-w.ensures))

pub loop-a-preserved : goal.loop-a-preserved
loop-a-preserved c =
    (found (goal.at.loop-a-preserved c).After-next_kept-b).left (sym (rw c.in-None.is at c.in_ok-w.ensures))
