-- A property of each element of a list. Definitions only.
use Rattle.std.specs.Prelude.{List, [], ◌∷◌}

-- P of each element
pub data All {A : Type 0} (P : A → Type 0) : List A → Type 0 where
  none : All P []
  more : {a : A} {l : List A} → P a → All P l → All P (a ∷ l)
