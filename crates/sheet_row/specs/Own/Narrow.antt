-- Numbers of 32 bits in a row. Definitions only.
use Rattle.std.specs.Prelude.{List, [], ◌∷◌, ℕ, ◌^◌, ◌<◌, get_or}

-- the numbers at these places of a row have 32 bits
abbrev pub Narrow : List ℕ → List ℕ → Type 0
Narrow row [] = Unit
Narrow row (i ∷ is) = (get_or row i 0 < 2 ^ 32) × Narrow row is
