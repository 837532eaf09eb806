-- Parameters that do not rise in one place and fall in another. Definitions only.
use Rattle.std.specs.Prelude.{T, List, ◌∷◌, Float}
use Rattle.std.specs.Float.Ieee.{lt}

-- somewhere a parameter compares above the one before
pub data Rises : List Float → Type 0 where
  rise : {a b : Float} {l : List Float} → T (lt a b) → Rises (a ∷ b ∷ l)
  later : {a : Float} {l : List Float} → Rises l → Rises (a ∷ l)

-- somewhere a parameter compares below the one before
pub data Falls : List Float → Type 0 where
  fall : {a b : Float} {l : List Float} → T (lt b a) → Falls (a ∷ b ∷ l)
  after : {a : Float} {l : List Float} → Falls l → Falls (a ∷ l)

-- not both
abbrev pub OneWay : List Float → Type 0
OneWay l = Rises l → Falls l → ⊥
