-- `edge_count::Counter::span` meets its contract. Assumes nothing.
use Rattle.std.proofs.lemmas.Result.{err_from_is_err_and}
use Rattle.edge_count.proofs.Counting.{span_refused, span_more, span_hi}
use Rattle.edge_count.proofs.Counter.span.Goals as goal

pub returns-in_err-n : goal.returns-in_err-n
returns-in_err-n c =
    let a = c.args in
    let p = err_from_is_err_and c.from_residual.result c.from_residual.ensures.1 in
    rw (p.1, p.2) (span_refused a.self.now a.left.t a.right.t a.k c.in_err-n.ensures)

pub returns-then-right-self : goal.returns-then-right-self
returns-then-right-self c =
    let a = c.args in
    span_more a.self.now a.left.t a.right.t a.k c.in_ok-n.ensures c.if-right-self.true (c.one.ensures _ _)

pub returns : goal.returns
returns c =
    let a = c.args in
    span_hi a.self.now a.left.t a.right.t a.k c.in_ok-n.ensures c.if-right-self.false
