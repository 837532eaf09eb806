-- The inner points of `deviation`: k / 4 is exact. Assumes nothing.
use mathlib.Core.Path.{◌≡◌, refl}
use mathlib.Core.List.{[], ◌∷◌}
use lib.Ieee.{Float, div, of_bits, of_int}
use Rattle.arith.specs.Notation.{◌⊕◌, ◌⊖◌, ◌⊗◌, bits, half}
use Rattle.math.specs.declared.Vec3.{Vec3}
use Rattle.knots.specs.Knots.{worst_of, worst_of_three, deviation}

module _ (at : Float → Vec3) (a b : Float) where
  quarters : worst_of_three (at a) (at b) (at (a ⊕ (b ⊖ a) ⊗ bits 0x3FD0000000000000)) (at (a ⊕ (b ⊖ a) ⊗ half)) (at (a ⊕ (b ⊖ a) ⊗ bits 0x3FE8000000000000)) ≡ deviation at a b
  unfolding deviation div of_bits of_int
  quarters = refl

  pub deviation_is : {pa pb p1 p2 p3 : Vec3} → pa ≡ at a → pb ≡ at b → p1 ≡ at (a ⊕ (b ⊖ a) ⊗ bits 0x3FD0000000000000) → p2 ≡ at (a ⊕ (b ⊖ a) ⊗ half) → p3 ≡ at (a ⊕ (b ⊖ a) ⊗ bits 0x3FE8000000000000)
      → worst_of pa pb (p1 ∷ p2 ∷ p3 ∷ []) ≡ deviation at a b
  unfolding worst_of_three
  deviation_is e f g h i = rw (e, f, g, h, i) quarters
