-- `sort_by` of Rust on floats, which is stable, as an insertion sort. Definitions only.
use Rattle.std.specs.Prelude.{cond, List, [], ◌∷◌, Float}
use Rattle.std.specs.Float.Ieee.{lt}

-- x put before the first that is not below it
unfoldable pub inserted : Float → List Float → List Float
inserted x [] = x ∷ []
inserted x (y ∷ l) = cond (lt y x) (y ∷ inserted x l) (x ∷ y ∷ l)

-- sort_by(partial_cmp): each float is put before its equals of the rest, which came after it
unfoldable pub sorted : List Float → List Float
sorted [] = []
sorted (x ∷ l) = inserted x (sorted l)
