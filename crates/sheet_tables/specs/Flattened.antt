-- Rows one behind the other. Definitions only.
use Rattle.std.specs.Prelude.{List, [], ◌∷◌, ◌++◌}

-- the rows' numbers, one row behind the other
unfoldable pub flattened : {A E : Type 0} → (A → List E) → List A → List E
flattened row [] = []
flattened row (a ∷ l) = row a ++ flattened row l
