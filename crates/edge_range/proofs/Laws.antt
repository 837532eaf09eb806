-- The segments of a curve are those of the row under its row's trims. Assumes nothing.
use mathlib.Core.Path.{◌≡◌, refl, sym}
use Prim.Native.Nat.{ℕ}
use Rattle.math.specs.declared.Interval.{Interval}
use Rattle.brep.specs.Rows.{Tables}
use Rattle.brep.specs.Tree.{tree}
use Rattle.curve.specs.Own.Alone.{alone}
use Rattle.curve.proofs.Laws.{alone_under}
use Rattle.curve_parameter.specs.Own.Under.{under}
use Rattle.options.specs.declared.Resolved.{Resolved}
use Rattle.edge_range.specs.Usable.{analytic_segments}

module _ (T : Tables) (row : ℕ) (range : Interval) (r : Resolved) where
  pub segments_under : analytic_segments (tree T row) range r ≡ analytic_segments (alone T (under T.curves row)) range r
  unfolding analytic_segments
  segments_under = sym (alone_under (λ c. analytic_segments c range r) (λ b i. refl) (λ s u. refl) T row)
