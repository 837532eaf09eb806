-- `edge_escape::is_beyond` meets its contract. Assumes nothing.
use Rattle.std.proofs.Common.{rules}
use Rattle.edge_escape.proofs.Search.{spared}
use Rattle.edge_escape.proofs.is_beyond.Goals as goal

pub returns-then-s-cut : goal.returns-then-s-cut
returns-then-s-cut c = λ e. spared c.args.s c.args.limit (search rules) e (search rules)
