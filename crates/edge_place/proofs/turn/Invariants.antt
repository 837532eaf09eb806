-- `turn` meets its contract. The loop's invariant: the first i records and the last i are exchanged. Assumes nothing.
use mathlib.Core.Path.{◌≡◌}
use mathlib.Core.List.{List}
use Prim.Native.Nat.{◌≤◌, ◌-◌}
use lib.ListN.{length}
use lib.Seq.{sets}
use Rattle.edge_record.specs.declared.Sample.{Sample}
use Rattle.edge_record.specs.Chain.{flat, sample_at}
use Rattle.edge_record.specs.Own.Records.{records_of}
use Rattle.edge_place.proofs.Turned.{Turned}
use Rattle.edge_place.proofs.turn.Given as goal

abbrev pub invariant-loop-i : goal.invariant-loop-i
invariant-loop-i l =
    (l.i ≤ l.half) × (length l.records ≡ length l.initial.records) × ((m : List Sample) × (l.records ≡ sets l.initial.records 0 (flat m)) × Turned (sample_at l.initial.records 0) (records_of l.initial.records) m l.i)

abbrev pub decreases-loop-i : goal.decreases-loop-i
decreases-loop-i l = l.half - l.i
