-- `locate` meets its contract. The loop's invariant: the chain holds the curve's points at the first i parameters. Assumes nothing.
use mathlib.Core.Path.{◌≡◌}
use Prim.Native.Nat.{◌≤◌, ◌-◌}
use lib.ListN.{length}
use Rattle.curve_prepared.specs.Own.PreparedCurve.{curve_of}
use Rattle.edge_closed_form.proofs.Located.{Written}
use Rattle.edge_place.proofs.locate.Given as goal

abbrev pub invariant-loop-i : goal.invariant-loop-i
invariant-loop-i l =
    (l.i ≤ length l.params) × (length l.chain ≡ length l.initial.chain) × Written (curve_of l.curve) l.initial.chain l.params l.chain l.i

abbrev pub decreases-loop-i : goal.decreases-loop-i
decreases-loop-i l = length l.params - l.i
