-- The kinds of curves, and the numbers that curve rows have for them. Definitions only.
use Rattle.std.specs.Prelude.{cond, List, ℕ, ◌*◌, get_or, eqb, Option, Some, None}
use Rattle.brep.specs.declared.Kind.{Kind}
use Rattle.brep.specs.declared.Kind.TheVariants.{Line, Circle, Ellipse, Parabola, Polyline, Trimmed, Composite, Hyperbola}

-- the number of each kind
abbrev pub number_of : Kind → ℕ
number_of Line = 1
number_of Circle = 2
number_of Ellipse = 3
number_of Parabola = 4
number_of Polyline = 5
number_of Trimmed = 6
number_of Composite = 7
number_of Hyperbola = 8

-- the kind of a number; any other number than 1 to 8 is that of none
unfoldable pub kind_numbered : ℕ → Option Kind
kind_numbered number =
    cond (eqb number 1) (Some Line)
    (cond (eqb number 2) (Some Circle)
    (cond (eqb number 3) (Some Ellipse)
    (cond (eqb number 4) (Some Parabola)
    (cond (eqb number 5) (Some Polyline)
    (cond (eqb number 6) (Some Trimmed)
    (cond (eqb number 7) (Some Composite)
    (cond (eqb number 8) (Some Hyperbola)
    None)))))))

-- the kind of curve row i
abbrev pub kind_at : List ℕ → ℕ → Option Kind
kind_at curves i = kind_numbered (get_or curves (i * 3) 0)
