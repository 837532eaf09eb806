-- How many periods a number has, and what is left of it after them: the first steps of sin, cos and e^t. Definitions only.
use Rattle.std.specs.Prelude.{Float}
use Rattle.arith.specs.Floor.{floor_of}
use Rattle.arith.specs.Notation.{◌⊕◌, ◌⊖◌, ◌⊗◌, half}

-- the periods in t, to the nearest; `per` is one over the period
abbrev pub periods : Float → Float → Float
periods t per = floor_of (t ⊗ per ⊕ half)

-- what is left of t after k periods; the period is in two parts
abbrev pub left_over : Float → Float → Float → Float → Float
left_over t k high low = t ⊖ k ⊗ high ⊖ k ⊗ low
