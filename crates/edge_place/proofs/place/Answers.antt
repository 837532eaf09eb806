-- `place` meets its contract: the records are located, known or not, then oriented, then pinned. Assumes nothing.
use mathlib.Core.Path.{◌≡◌, ◌∙◌}
use Prim.Native.Nat.{◌*◌}
use lib.ListN.{length, take}
use lib.Seq.{sets}
use Rattle.brep.specs.Rows.{lent}
use Rattle.edge_record.specs.Chain.{width, flat}
use Rattle.draw_spec.specs.Edge.{edge_curve, located}
use Rattle.edge_place.proofs.Laws.{held_known, placed_by}
use Rattle.edge_place.proofs.place.Goals as goal
use Rattle.edge_place.proofs.place.Goals.{then-not-known, else-not-known}

pub returns : goal.returns
returns c =
    let a = c.args in
    let T = lent a.tables.now in
    -- the records with the curve's points, known or not
    let held : c.if-not-known.records ≡ sets (take (width * length a.params.now) a.chain.now) 0 (flat (located (edge_curve T a.edge) a.params.now)) =
    elim c.if-not-known.branch [
      | then-not-known w ↦ w.records-is ∙ w.locate.ensures
      | else-not-known w ↦ held_known T a.edge a.params.now a.chain.now c.requires.1 (c.requires.2 w.if-not-known.false) w.records-is
    ] in
    placed_by T a.edge a.params.now a.chain.now c.requires.1 _ _ _ held (c.orient.ensures T c.point-start.ensures c.point-end.ensures)
    (c.pin_ends.ensures ∙ rw (c.point-start.ensures, c.point-end.ensures))
