-- `pin_ends` meets its contract. Assumes nothing.
use native.Mathlib.Omega.{arith}
use Prim.Native.Nat.{◌/◌}
use lib.ListN.{length}
use Rattle.edge_record.specs.Chain.{width}
use Rattle.edge_place.proofs.Laws.{pin_both}
use Rattle.edge_place.proofs.pin_ends.Goals as goal

pub returns : goal.returns
returns c =
    let a = c.args in
    pin_both a.records.now _ _ (length a.records.now / width) a.start a.end (omega (arith, c.requires)) (omega arith) c.pin.ensures c.pin-2.ensures
