-- `edge_repair::stays_between` meets its contract. Assumes nothing.
use mathlib.Core.Path.{refl, sym}
use lib.Ieee.{Float}
use Rattle.options.specs.declared.Resolved.{Resolved}
use Rattle.edge_place.specs.Own.Place.{of_points, chord_between}
use Rattle.edge_repair.proofs.Ways.{stays_empty, stays_inside}
use Rattle.edge_repair.proofs.stays_between.Goals as goal

pub returns-then-is_empty : goal.returns-then-is_empty
returns-then-is_empty c = λ h (r : Resolved) n (s t : Float).
    let a = c.args in
    sym (stays_empty (of_points a.points.now) a.edge r (chord_between a.p a.q s t) c.reference-b.ensures c.is_empty.ensures c.if-is_empty.true)

pub returns : goal.returns
returns c = λ h (r : Resolved) n (s t : Float).
    let f = c in
    let a = f.args in
    sym (stays_inside (of_points a.points.now) a.edge r (chord_between a.p a.q s t) f.reference-b.ensures f.is_empty.ensures f.if-is_empty.false
    (c.are_near.ensures h r n s t) refl)
