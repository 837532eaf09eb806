-- A limit for roots, with a cut on either side of it. Definitions only.
use Rattle.std.specs.Prelude.{◌≡◌, Bool, true, cond, T, Float}
use Rattle.std.specs.Float.{nan, binary64}
use Rattle.std.specs.Float.Ieee.{fits, lt, le}
use Rattle.arith.specs.Notation.{◌⊗◌, bits, plus_zero}
use Rattle.arith_root.specs.Root.{root_of}

-- a cut that serves, or a NaN, with which no comparison holds
abbrev pub cut_if : Bool → Float → Float
cut_if serves x = cond serves x nan

-- 1.000001: what is above zero, and times this is below another number, has a smaller root than that (`apart` in crates/arith_root/proofs/Apart.antt)
abbrev pub a_little_more : Float
a_little_more = bits 0x3FF000010C6F7A0B

-- the float below 1
abbrev pub just_less : Float
just_less = bits 0x3FEFFFFFFFFFFFFF

-- the float above 1
abbrev pub just_more : Float
just_more = bits 0x3FF0000000000001

-- the square of a number above zero as a cut, where it serves
abbrev pub square_if : Bool → Float → Float
square_if serves x = cut_if (lt plus_zero x) (cut_if serves (x ⊗ x))

-- the cuts of a limit, the squares of numbers that stand on their sides of it
unfoldable pub low_cut : Float → Float
low_cut at = square_if (le (at ⊗ just_less) at) (at ⊗ just_less)

unfoldable pub high_cut : Float → Float
high_cut at = square_if (lt at (at ⊗ just_more)) (at ⊗ just_more)

-- what is below the low cut has a root within the limit, and what is above the high one has a root above it
pub record Stands (at : Float) : Type 0 where
  pub low_stands : (s : Float) → T (fits binary64 s) → le plus_zero s ≡ true → lt s (low_cut at) ≡ true → le (root_of s) at ≡ true
  pub high_stands : (s : Float) → T (fits binary64 s) → lt (high_cut at) s ≡ true → lt at (root_of s) ≡ true
