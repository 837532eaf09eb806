-- `edge_escape::nearer` meets its contract. Assumes nothing.
use Rattle.edge_escape.proofs.Sweep.{nearer_new, nearer_old}
use Rattle.edge_escape.specs.Own.Best.{nearer_of}
use mathlib.Core.Path.{ap, ◌∙◌}
use Rattle.edge_escape.proofs.nearer.Goals as goal

pub returns-then-is_below : goal.returns-then-is_below
returns-then-is_below c =
    let best = c.args.best in
    let m = c.measured-next in
    nearer_new best m.result _ c.is_below.ensures c.if-is_below.true ∙ ap (nearer_of best) m.ensures

pub returns : goal.returns
returns c =
    let best = c.args.best in
    let m = c.measured-next in
    nearer_old best m.result _ c.is_below.ensures c.if-is_below.false ∙ ap (nearer_of best) m.ensures
