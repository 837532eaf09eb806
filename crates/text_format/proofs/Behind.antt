-- Formats one behind the other: what is read, by what the first one reads. Assumes nothing.
use mathlib.Core.Path.{◌≡◌}
use mathlib.Core.List.{List}
use Prim.Native.Nat.{ℕ}
use Rattle.std.specs.Prelude.{Some, None}
use Rattle.text_format.specs.Format.{Format, and_then, expect, ◌ending◌, ◌before◌, ◌then◌, as_of}

module _ {A : Type 0} (F : Format A) (w s : List ℕ) where
  pub ending_none : F.read s ≡ None → (F ending w).read s ≡ None
  unfolding ◌ending◌ and_then
  ending_none e = rw e

  pub ending_on : (a : A) (rest : List ℕ) → F.read s ≡ Some (a, rest) → (F ending w).read s ≡ expect w a rest
  unfolding ◌ending◌ and_then
  ending_on a rest e = rw e

  pub before_none : expect w (tt {0}) s ≡ None → (w before F).read s ≡ None
  unfolding ◌before◌ and_then
  before_none e = rw e

  pub before_on : (rest : List ℕ) → expect w (tt {0}) s ≡ Some (tt {0}, rest) → (w before F).read s ≡ F.read rest
  unfolding ◌before◌ and_then
  before_on rest e = rw e

module _ {A B : Type 0} (F : Format A) (G : Format B) (s : List ℕ) where
  pub then_none : F.read s ≡ None → (F then G).read s ≡ None
  unfolding ◌then◌ and_then
  then_none e = rw e

  module _ (a : A) (rest : List ℕ) (e : F.read s ≡ Some (a, rest)) where
    pub then_none_on : G.read rest ≡ None → (F then G).read s ≡ None
    unfolding ◌then◌ and_then
    then_none_on f = rw (e, f)

    pub then_on : (b : B) (last : List ℕ) → G.read rest ≡ Some (b, last) → (F then G).read s ≡ Some ((a, b), last)
    unfolding ◌then◌ and_then
    then_on b last f = rw (e, f)

module _ {A B : Type 0} (F : Format A) (to : A → B) (from : B → A) (s : List ℕ) where
  pub as_none : F.read s ≡ None → (as_of F to from).read s ≡ None
  unfolding as_of and_then
  as_none e = rw e

  pub as_on : (a : A) (rest : List ℕ) → F.read s ≡ Some (a, rest) → (as_of F to from).read s ≡ Some (to a, rest)
  unfolding as_of and_then
  as_on a rest e = rw e
