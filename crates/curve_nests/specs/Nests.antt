-- Where a composite lies inside a composite: evaluation goes one deeper at each, and nothing but the tables' verdict says how deep. Definitions only.
use Rattle.std.specs.Prelude.{Bool, true, false, ◌||◌}
use Rattle.brep.specs.Tree.{CurveTree, Segments, analytic, polyline, trimmed, composite, none, segment}

-- a composite, under any trims
unfoldable pub is_composite : CurveTree → Bool
is_composite (analytic c) = false
is_composite (polyline ps) = false
is_composite (trimmed base range) = is_composite base
is_composite (composite ss) = true

-- some segment's curve is a composite, under any trims
unfoldable pub some_composite : Segments → Bool
some_composite none = false
some_composite (segment curve range same rest) = is_composite curve || some_composite rest

-- a composite, under any trims, some segment of which is a composite
unfoldable pub nests : CurveTree → Bool
nests (analytic c) = false
nests (polyline ps) = false
nests (trimmed base range) = nests base
nests (composite ss) = some_composite ss
