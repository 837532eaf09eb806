-- `knots::curve_knots` meets its contract. Assumes nothing.
use Rattle.brep.specs.Rows.{lent}
use Rattle.brep.specs.Tree.{tree}
use Rattle.knots.proofs.Laws.{run_is, run_counted}
use Rattle.knots.proofs.Answers.{fitting, fitting_after, exceeding, exceeding_after}
use Rattle.knots.proofs.curve_knots.Goals as goal

pub returns-then-out-n-clause-answer : goal.returns-then-out-n-clause-answer
returns-then-out-n-clause-answer c =
    let t = c.args.tables.now in
    exceeding (tree (lent t) c.args.row) _ (run_counted t c.args.row c.run_of-run.result c.run_of-run.ensures) c.args.out.now c.if-out-n.true

pub returns-then-out-n-clause-buffer : goal.returns-then-out-n-clause-buffer
returns-then-out-n-clause-buffer c =
    let t = c.args.tables.now in
    exceeding_after (tree (lent t) c.args.row) _ (run_counted t c.args.row c.run_of-run.result c.run_of-run.ensures) c.args.out.now c.if-out-n.true

pub returns-clause-answer : goal.returns-clause-answer
returns-clause-answer c =
    let t = c.args.tables.now in
    fitting (tree (lent t) c.args.row) _ (run_counted t c.args.row c.run_of-run.result c.run_of-run.ensures) c.args.out.now c.if-out-n.false

pub returns-clause-buffer : goal.returns-clause-buffer
returns-clause-buffer c =
    let t = c.args.tables.now in
    let run = c.run_of-run in
    fitting_after (tree (lent t) c.args.row) _ (run_counted t c.args.row run.result run.ensures) c.args.out.now c.if-out-n.false _ _ (run_is t c.args.row run.result run.ensures) c.gather.ensures
