-- `runs_back` meets its contract: by the sense where the ends are degenerate, else by which end is nearer to the start. Assumes nothing.
use mathlib.Core.Path.{sym}
use Rattle.brep.specs.Rows.{Tables}
use Rattle.edge_place.proofs.Laws.{by_sense, by_ends}
use Rattle.edge_place.proofs.runs_back.Goals as goal

pub returns-then-length_squared-near : goal.returns-then-length_squared-near
returns-then-length_squared-near c = λ (T : Tables) s e.
    let f = c in
    by_sense T f.args.edge _ _ s e (rw (sym f.sub.ensures, sym f.length_squared.ensures) c.if-length_squared-near.true)

pub returns : goal.returns
returns c = λ (T : Tables) s e.
    let f = c in
    rw (c.length_squared-3.ensures, c.sub-3.ensures, c.length_squared-2.ensures, c.sub-2.ensures)
    (by_ends T f.args.edge _ _ s e (rw (sym f.sub.ensures, sym f.length_squared.ensures) c.if-length_squared-near.false))
