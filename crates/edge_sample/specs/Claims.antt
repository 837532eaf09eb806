-- What is claimed beside the definitions of sample_params; proved in proofs/Laws.antt. Definitions only.
use Rattle.std.specs.Prelude.{◌≡◌, false, ℕ, Float, Some}
use Rattle.math.specs.declared.Interval.{Interval}
use Rattle.brep.specs.Tree.{CurveTree}
use Rattle.options.specs.declared.Resolved.{Resolved}
use Rattle.curve_asks.specs.Asks.{asks_far}
use Rattle.edge_range.specs.Usable.{analytic_segments}

-- a curve that has a closed form asks no hyperbola for anything: so the points of that form and of its check need not be looked at
abbrev pub ClosedNeverFar : Type 0
ClosedNeverFar = (c : CurveTree) (range : Interval) (r : Resolved) (n : ℕ) → analytic_segments c range r ≡ Some n → (t : Float) → asks_far c t ≡ false
