-- Where a curve breaks inside a range, in either mode. Definitions only.
use Rattle.std.specs.Prelude.{ℕ, zero, suc, ◌-◌, List, [], ◌∷◌, Float}
use Rattle.arith.specs.Notation.{count}
use Rattle.brep.specs.Tree.{CurveTree, analytic, polyline, trimmed, composite}
use Rattle.curve_parameter.specs.Run.{run_length}
use Rattle.options.specs.declared.Mode.{Mode}
use Rattle.options.specs.declared.Mode.TheVariants.{Reference, Strict}
use Rattle.knots_inside.specs.Breaks.{passing_knots}
use Rattle.knots.specs.Knots.{curve_breaks}

-- ---- strict mode
-- n whole numbers, from k on
unfoldable pub wholes : ℕ → ℕ → List Float
wholes k zero = []
wholes k (suc n) = count k ∷ wholes (suc k) n

-- n: the segments of a composite, or of the one that trims lead down to; composites inside its segments add none. Other curves have none
unfoldable pub segments_under : CurveTree → ℕ
segments_under (analytic c) = 0
segments_under (polyline ps) = 0
segments_under (trimmed base range) = segments_under base
segments_under (composite ss) = run_length ss

-- ---- in either mode
-- the breaks of a curve inside (lo, hi): as in the Rust; in strict mode where its segments meet, at the whole numbers 1 to n - 1
unfoldable pub breaks_in : Mode → CurveTree → Float → Float → List Float
breaks_in Reference c lo hi = curve_breaks c lo hi
breaks_in Strict c lo hi = passing_knots (wholes 1 (segments_under c - 1)) lo hi
