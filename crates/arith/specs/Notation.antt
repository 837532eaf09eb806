-- The operations of binary64, each rounded once to nearest even, in the signs that the literature gives them. Definitions only.
use Rattle.std.specs.Prelude.{ℕ, pos, from_bits, Float}
use Rattle.std.specs.Float.{binary64}
use Rattle.std.specs.Float.Ieee.{add, sub, mul, div, of_int}

infixl 65 ◌⊕◌ ◌⊖◌
infixl 70 ◌⊗◌ ◌⊘◌
-- sum, difference, product and quotient, rounded
abbrev pub ◌⊕◌ : Float → Float → Float
a ⊕ b = add binary64 a b

abbrev pub ◌⊖◌ : Float → Float → Float
a ⊖ b = sub binary64 a b

abbrev pub ◌⊗◌ : Float → Float → Float
a ⊗ b = mul binary64 a b

abbrev pub ◌⊘◌ : Float → Float → Float
a ⊘ b = div binary64 a b

-- the float of a pattern of 64 bits
abbrev pub bits : ℕ → Float
bits b = from_bits binary64 b

-- `n as f64`
abbrev pub count : ℕ → Float
count n = of_int binary64 (pos n)

-- 0.0, 0.5, 1.0, 2.0
abbrev pub plus_zero : Float
plus_zero = bits 0

abbrev pub half : Float
half = bits 0x3FE0000000000000

abbrev pub one : Float
one = bits 0x3FF0000000000000

abbrev pub two : Float
two = bits 0x4000000000000000
