-- Lists in order, and lists with some elements left out.
use Rattle.std.specs.Prelude.{List, [], ◌∷◌}
use Rattle.base_lists.specs.All.{All}

-- R of each element and every later one
pub data Pairwise {A : Type 0} (R : A → A → Type 0) : List A → Type 0 where
  empty : Pairwise R []
  first : {a : A} {l : List A} → All (R a) l → Pairwise R l → Pairwise R (a ∷ l)

-- the second list with some elements left out
pub data Sub {A : Type 0} : List A → List A → Type 0 where
  end : Sub [] []
  keep : {a : A} {k l : List A} → Sub k l → Sub (a ∷ k) (a ∷ l)
  skip : {a : A} {k l : List A} → Sub k l → Sub k (a ∷ l)
