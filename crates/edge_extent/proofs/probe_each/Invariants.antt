-- `edge_extent::probe_each` meets its contract. The invariant: the box has the first i probes. Assumes nothing.
use mathlib.Core.Path.{◌≡◌}
use lib.Ieee.{Float}
use Rattle.math.specs.declared.Vec3.{Vec3}
use Rattle.brep.specs.Tree.{CurveTree}
use Rattle.curve.specs.Eval.{point_at}
use Rattle.draw_spec.specs.Edge.{probed}
use Rattle.edge_extent.proofs.probe_each.Given as goal

abbrev pub invariant-loop-i : goal.invariant-loop-i
invariant-loop-i g l =
    (c : CurveTree) → ((t : Float) (p : Vec3) → goal.F-post g l.point t p → p ≡ point_at c t) → l.found ≡ probed c l.range l.initial.found l.i
