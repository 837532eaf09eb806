-- `thin_by` meets its contract: what is kept is what the flags say.
use Rattle.std.proofs.Common.{◌≡◌, length, arith}
use Rattle.std.proofs.lemmas.Result.{err_from_is_err_and}
use Rattle.edge_thin.proofs.Ways.{said_refused, said_thinned}
use Rattle.edge_thin.proofs.thin_by.Goals as goal

pub returns-in_err-mark : goal.returns-in_err-mark
returns-in_err-mark c =
    let a = c.args in
    let p = err_from_is_err_and c.from_residual.result c.from_residual.ensures.1 in
    rw (p.1, p.2)
    (said_refused a.bounds.tolerance a.bounds.angle a.floor (length a.keep.now) a.chain.now c.requires.4 (omega arith) c.in_err-mark.field-0.0 c.in_err-mark.ensures)

pub returns : goal.returns
returns c =
    let a = c.args in
    let size : length c.restore.new.keep ≡ length a.keep.now = omega arith in
    said_thinned a.bounds.tolerance a.bounds.angle a.floor (length a.keep.now) a.chain.now c.requires.4 (omega arith) c.mark.new.keep c.restore.new.keep c.retain.result c.retain.new.chain
    c.in_ok-mark.ensures c.restore.ensures size c.retain.ensures
