-- `edge_closed_form::meets` meets its contract. Assumes nothing.
use mathlib.Core.Path.{sym, ap, ◌∙◌}
use lib.Ieee.{le}
use Rattle.arith_root.specs.Root.{root_of}
use Rattle.brep.specs.Rows.{lent}
use Rattle.brep.specs.Tree.{tree}
use Rattle.edge_closed_form.proofs.Squares.{same_test}
use Rattle.edge_closed_form.proofs.meets.Goals as goal

pub returns : goal.returns
returns c =
    let st = c in
    let a = st.args in
    let w = c.worst_square-worst.ensures (tree (lent a.tables.now) a.row) (sym c.prepare-prepared.ensures) in
    (c.is_root_within.ensures ∙ ap (le (root_of _)) c.new.ensures ∙ same_test _ _ a.sag w.0, w.1)
