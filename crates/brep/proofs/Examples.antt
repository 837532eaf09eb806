-- The reading of one drawing, row by row: each kind, what lies past a table's end, and a reference that does not fall. No contract of this
-- crate cites `tree`, so these pin it. Assumes nothing.
use mathlib.Core.Path.{◌≡◌, refl}
use mathlib.Core.Bool.{true, false}
use mathlib.Core.List.{List, [], ◌∷◌}
use Prim.Native.Nat.{ℕ}
use lib.IntN.{pos}
use lib.Ieee.{Float, nan, fin}
use Rattle.math.specs.declared.Vec3.{Vec3}
use Rattle.math.specs.declared.Frame.{Frame}
use Rattle.math.specs.Math.{vec, interval}
use Rattle.brep.specs.Kind.{kind_numbered}
use Rattle.brep.specs.Rows.{Tables, tables, point_of, frame_of, segment_of, kind_of, curve_of}
use Rattle.brep.specs.Tree.{CurveTree, analytic, line, circle, ellipse, parabola, hyperbola, polyline, trimmed, composite, none, segment, run, segments, grown, below, tree}

-- a small whole number as a float
abbrev f : ℕ → Float
f n = fin false n (pos 0)

-- three points, twelve rows, three segments
drawing : Tables
drawing =
    tables (f 1 ∷ f 2 ∷ f 3 ∷ f 4 ∷ f 5 ∷ f 6 ∷ f 7 ∷ f 8 ∷ f 9 ∷ [])
    (1 ∷ 0 ∷ 2
    ∷ 2 ∷ 0 ∷ 3
    ∷ 3 ∷ 0 ∷ 3
    ∷ 4 ∷ 0 ∷ 3
    ∷ 5 ∷ 1 ∷ 2
    ∷ 6 ∷ 0 ∷ 1
    ∷ 7 ∷ 0 ∷ 2
    ∷ 5 ∷ 2 ∷ 2
    ∷ 6 ∷ 8 ∷ 1
    ∷ 7 ∷ 1 ∷ 3
    ∷ 9 ∷ 0 ∷ 3
    ∷ 8 ∷ 0 ∷ 3 ∷ [])
    (f 0 ∷ f 0
    ∷ f 10 ∷ f 0
    ∷ f 11 ∷ f 12
    ∷ f 13 ∷ f 0
    ∷ f 0 ∷ f 0
    ∷ f 14 ∷ f 15
    ∷ f 0 ∷ f 0
    ∷ f 0 ∷ f 0
    ∷ f 16 ∷ f 17
    ∷ f 0 ∷ f 0
    ∷ f 0 ∷ f 0
    ∷ f 18 ∷ f 19 ∷ [])
    (5 ∷ 1 ∷ 1 ∷ 0 ∷ 9 ∷ 1 ∷ [])
    (f 20 ∷ f 21 ∷ f 22 ∷ f 23 ∷ f 24 ∷ f 25 ∷ [])

abbrev p₀ : Vec3
p₀ = vec (f 1) (f 2) (f 3)

abbrev p₁ : Vec3
p₁ = vec (f 4) (f 5) (f 6)

abbrev p₂ : Vec3
p₂ = vec (f 7) (f 8) (f 9)

abbrev p₃ : Vec3
p₃ = vec nan nan nan

abbrev placed : Frame
placed = record { origin = p₀; axis = p₁; ref_dir = p₂ }

-- what each row is read as
trees : List CurveTree
trees =
    analytic (line p₀ p₁)
    ∷ analytic (circle placed (f 10))
    ∷ analytic (ellipse placed (f 11) (f 12))
    ∷ analytic (parabola placed (f 13))
    ∷ polyline (p₁ ∷ p₂ ∷ [])
    ∷ trimmed (analytic (line p₀ p₁)) (interval (f 14) (f 15))
    ∷ composite
    (segment (trimmed (analytic (line p₀ p₁)) (interval (f 14) (f 15))) (interval (f 20) (f 21)) true
    (segment (analytic (circle placed (f 10))) (interval (f 22) (f 23)) false none))
    -- a run of points past the end
    ∷ polyline (p₂ ∷ p₃ ∷ [])
    -- a trim of its own row
    ∷ trimmed (polyline []) (interval (f 16) (f 17))
    -- a run of segments past the end, and a segment whose curve is the composite's own row
    ∷ composite
    (segment (analytic (circle placed (f 10))) (interval (f 22) (f 23)) false
    (segment (polyline []) (interval (f 24) (f 25)) true
    (segment (analytic (line p₀ p₁)) (interval nan nan) false none)))
    -- an unknown kind
    ∷ polyline []
    ∷ analytic (hyperbola placed (f 18) (f 19))
    -- a row past the end
    ∷ polyline []
    ∷ []

abbrev read : ℕ → CurveTree
read = tree drawing

reading : read 0 ∷ read 1 ∷ read 2 ∷ read 3 ∷ read 4 ∷ read 5 ∷ read 6 ∷ read 7 ∷ read 8 ∷ read 9 ∷ read 10 ∷ read 11 ∷ read 12 ∷ [] ≡ trees
unfolding drawing trees tree below grown segments run curve_of kind_of kind_numbered frame_of point_of segment_of
reading = refl
