-- The scope's polyline (0,0,0), (1,0,0), (1,1,0) with tolerance 0.25, by computation: sag 1 keeps three points, sag 2 makes the floor 1 and leaves the parameters 0, 2.
use mathlib.Core.Path.{◌≡◌, refl}
use mathlib.Core.List.{List, [], ◌∷◌}
use lib.Ieee.{Float, is_nan, of_bits, add, sub, mul, lt, le}
use Rattle.arith.specs.Notation.{bits, plus_zero, one, two}
use Rattle.arith_root.specs.Root.{root_of}
use Rattle.math.specs.Math.{vec, v_dot, v_sub, v_length}
use Rattle.edge_record.specs.declared.Sample.{Sample}
use Rattle.edge_record.specs.Chain.{last_of}
use Rattle.edge_merge.specs.Merge.{merge_floor, spaced, with_end, merged}

abbrev quarter : Float
quarter = bits 0x3FD0000000000000

abbrev at : Float → Float → Float → Sample
at x y t = record { point = vec x y plus_zero; param = t }

abbrev polyline : List Sample
polyline = at plus_zero plus_zero plus_zero ∷ at one plus_zero one ∷ at one one two ∷ []

pub examples : merged (merge_floor quarter one) polyline ∷ merged (merge_floor quarter two) polyline ∷ [] ≡ polyline ∷ (at plus_zero plus_zero plus_zero ∷ at one one two ∷ []) ∷ []
unfolding merge_floor merged with_end spaced last_of v_length v_dot v_sub root_of add sub mul lt le is_nan of_bits
examples = refl
