-- `push` meets its contract. Assumes nothing.
use Rattle.std.proofs.Common.{rules}
use Rattle.edge_params.proofs.Written.{behind_one, behind_over}
use Rattle.edge_params.proofs.push.Goals as goal

pub returns-then-k-out : goal.returns-then-k-out
returns-then-k-out c =
    let a = c.args in
    behind_over a.out.now a.k a.x (search rules) (search rules)

pub returns : goal.returns
returns c =
    let a = c.args in
    behind_one a.out.now a.k a.x (search rules)
