-- Which curves may ask a hyperbola for a parameter that is too far at all, by a look at the rows: any other needs no look at its parameters.
-- Definitions only.
use Rattle.std.specs.Prelude.{Bool, true, false, not, ◌&&◌, ◌||◌, List, ℕ, ◌*◌, ◌/◌, length, get_or, eqb, ltb, Float}
use Rattle.std.specs.Float.Ieee.{le, neg}
use Rattle.arith.specs.Notation.{one}
use Rattle.math.specs.declared.Interval.{Interval}
use Rattle.math.specs.Math.{at}
use Rattle.brep.specs.Tree.{CurveTree, analytic, line, circle, ellipse, parabola, hyperbola, polyline, trimmed, composite, Segments, none, segment}
use Rattle.causes_bounds.specs.Some.{some_below}
use Rattle.curve_nests.specs.Nests.{some_composite}
use Rattle.curve_asks.specs.Asks.{farthest}

-- within the farthest parameter
abbrev pub in_reach : Float → Bool
in_reach t = le (neg farthest) t && le t farthest

-- no part of a segment with this range leads to a parameter that is too far: both its ends are near, and so is its high end as `at` rounds it
unfoldable pub is_calm : Interval → Bool
is_calm range = in_reach range.lo && (in_reach range.hi && in_reach (at range one))

-- a hyperbola, under any trims
unfoldable pub is_hyperbola : CurveTree → Bool
is_hyperbola (analytic (line o d)) = false
is_hyperbola (analytic (circle f r)) = false
is_hyperbola (analytic (ellipse f a b)) = false
is_hyperbola (analytic (parabola f d)) = false
is_hyperbola (analytic (hyperbola f a b)) = true
is_hyperbola (polyline ps) = false
is_hyperbola (trimmed base range) = is_hyperbola base
is_hyperbola (composite ss) = false

-- some segment is a hyperbola over a range that is not calm
unfoldable pub some_risky : Segments → Bool
some_risky none = false
some_risky (segment curve range same rest) = (is_hyperbola curve && not (is_calm range)) || some_risky rest

-- the number of a row is below those of trims, composites and hyperbolas
abbrev pub never_asks : List ℕ → ℕ → Bool
never_asks curves row = ltb (get_or curves (row * 3) 0) 6

-- some row of the table is a hyperbola's
abbrev pub some_hyperbola : List ℕ → Bool
some_hyperbola curves = some_below (length curves / 3) (λ i. eqb (get_or curves (i * 3) 0) 8)

-- a hyperbola; a composite with a risky segment, or with a composite among its segments where some row is a hyperbola's: nothing cheap
-- says more of what lies inside composites
unfoldable pub may_ask : Bool → CurveTree → Bool
may_ask rows (analytic c) = is_hyperbola (analytic c)
may_ask rows (polyline ps) = false
may_ask rows (trimmed base range) = may_ask rows base
may_ask rows (composite ss) = some_risky ss || (some_composite ss && rows)
