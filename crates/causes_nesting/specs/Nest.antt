-- What trims and composites refer to, and how deep they nest: causes 4 and 5. Definitions only.
use Rattle.std.specs.Prelude.{Bool, false, ℕ, suc, ◌+◌, max, ltb, leb}
use Rattle.brep.specs.declared.Curve.{Curve}
use Rattle.brep.specs.declared.Curve.TheVariants.{Line, Circle, Ellipse, Parabola, Polyline, Trimmed, Composite, Hyperbola}
use Rattle.brep.specs.Rows.{Tables}
use Rattle.brep.specs.Tree.{CurveTree, analytic, polyline, trimmed, composite, Segments, none, segment, segment_in, row_in, tree}
use Rattle.causes_bounds.specs.Some.{some_below}
use Rattle.causes_form.specs.Forms.{curve_count}

-- segment j of the run that starts at first refers to row or a higher one
unfoldable pub high_segment : Tables → ℕ → ℕ → ℕ → Bool
high_segment T row first j = leb row (segment_in T (first + j)).curve

-- what a row of this kind refers to is not all in lower rows
unfoldable pub not_lower : Tables → ℕ → Curve → Bool
not_lower T row (Line origin direction) = false
not_lower T row (Circle frame radius) = false
not_lower T row (Ellipse frame major minor) = false
not_lower T row (Parabola frame focal) = false
not_lower T row (Polyline r) = false
not_lower T row (Trimmed base range) = leb row base
not_lower T row (Composite r) = some_below r.count (high_segment T row r.first)
not_lower T row (Hyperbola frame major minor) = false

-- what curve row number row refers to is not all in lower rows
unfoldable pub unordered_row : Tables → ℕ → Bool
unordered_row T row = not_lower T row (row_in T row)

-- 4: a trim's base, or the curve of a composite's segment, not in a lower row than its own
abbrev pub unordered : Tables → Bool
unordered T = some_below (curve_count T) (unordered_row T)

-- 0 for an analytic curve or a polyline, one more than its base for a trim, one more than its deepest segment for a composite
unfoldable mutual
  pub nesting : CurveTree → ℕ
  nesting (analytic c) = 0
  nesting (polyline points) = 0
  nesting (trimmed base range) = suc (nesting base)
  nesting (composite ss) = suc (deepest ss)

  -- the deepest of the segments; 0 where there is none
  pub deepest : Segments → ℕ
  deepest none = 0
  deepest (segment curve range same rest) = max (nesting curve) (deepest rest)

-- a row nested deeper than 8
unfoldable pub deep_row : Tables → ℕ → Bool
deep_row T row = ltb 8 (nesting (tree T row))

-- 5: trims and composites nested deeper than 8
abbrev pub too_deep : Tables → Bool
too_deep T = some_below (curve_count T) (deep_row T)
