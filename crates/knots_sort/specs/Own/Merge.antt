-- What the parts of `sort` answer: two lists merged. Definitions only.
use Rattle.std.specs.Prelude.{cond, List, [], ◌∷◌, ℕ, ◌≤◌, ◌<◌, length, take, drop, Float}
use Rattle.std.specs.Float.Ieee.{lt}
use Rattle.base_lists.specs.All.{All}
use Rattle.base_lists.specs.Own.Sub.{Pairwise}
use Rattle.base_lists.specs.Own.Way.{Up}
use Rattle.knots_sort.specs.Own.Sortable.{Number}

-- what stands of y ∷ k before x, then x and what f makes of the rest
unfoldable pub before : Float → (List Float → List Float) → List Float → List Float
before x f [] = x ∷ f []
before x f (y ∷ k) = cond (lt y x) (y ∷ before x f k) (x ∷ f (y ∷ k))

-- two lists merged: of equals the first list's comes first
unfoldable pub merged_runs : List Float → List Float → List Float
unfolding before
merged_runs [] k = k
merged_runs (x ∷ l) k = before x (merged_runs l) k

-- the first m of a and the others are in order, neither is empty, and the first m fit the scratch
pub record Halves (a scratch : List Float) (m : ℕ) : Type 0 where
  pub some : 0 < m
  pub others : m < length a
  pub room : m ≤ length scratch
  pub numbers : All Number a
  pub first : Pairwise Up (take m a)
  pub second : Pairwise Up (drop m a)
