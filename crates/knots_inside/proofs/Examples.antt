-- The definitions at work: the breaks are distinct, strictly inside and ascending, whichever way the range runs. Assumes nothing.
use mathlib.Core.Path.{◌≡◌, refl}
use mathlib.Core.List.{[], ◌∷◌}
use lib.Ieee.{of_bits, of_int, lt, le, add, sub, mul}
use Rattle.arith.specs.Notation.{count}
use Rattle.knots_inside.specs.Breaks.{retained_knots, apart, deduped, inside_upward, inside_of}
use Rattle.knots_sort.specs.Sort.{inserted, sorted}

-- 3, 1, 1, 0, 5, 2 between 5 and 0
distinct : inside_of (count 3 ∷ count 1 ∷ count 1 ∷ count 0 ∷ count 5 ∷ count 2 ∷ []) (count 5) (count 0) ≡ count 1 ∷ count 2 ∷ count 3 ∷ []
unfolding inside_of inside_upward sorted inserted retained_knots apart deduped lt le add sub mul of_bits of_int
distinct = refl
