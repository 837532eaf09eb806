-- The definitions at work: strict mode breaks a composite where its segments meet, whatever the segments are. Assumes nothing.
use Rattle.std.proofs.Common.{◌≡◌, ℕ, [], ◌∷◌, refl}
use lib.Ieee.{of_bits, of_int, neg, lt, le, add, sub, mul}
use Rattle.arith.specs.Notation.{count}
use Rattle.brep.specs.Rows.{Tables}
use Rattle.brep.specs.Tree.{CurveTree, composite, segments}
use Rattle.curve_parameter.specs.Run.{run_length}
use Rattle.options.specs.declared.Mode.TheVariants.{Strict}
use Rattle.knots_sort.specs.Sort.{inserted, sorted}
use Rattle.knots_inside.specs.Breaks.{retained_knots, apart, deduped, passing_upward, passing_knots, inside_upward, inside_of}
use Rattle.knots_breaks.specs.Breaks.{wholes, segments_under, breaks_in}

module _ (T : Tables) (f : ℕ → CurveTree) where
  -- five segments over -1e9..1e9, of which a billionth is 2: each place where two of them meet is a break
  apart_kept : breaks_in Strict (composite (segments T f 0 5)) (neg (count 1000000000)) (count 1000000000) ≡ count 1 ∷ count 2 ∷ count 3 ∷ count 4 ∷ []
  unfolding breaks_in segments_under segments run_length wholes passing_knots passing_upward retained_knots neg lt le add sub mul of_bits of_int
  apart_kept = refl

  -- four segments over 3..1: an end that is a whole number is no break
  ends_left_out : breaks_in Strict (composite (segments T f 0 4)) (count 3) (count 1) ≡ count 2 ∷ []
  unfolding breaks_in segments_under segments run_length wholes passing_knots passing_upward retained_knots lt le add sub mul of_bits of_int
  ends_left_out = refl

  -- one segment meets none
  one_alone : breaks_in Strict (composite (segments T f 0 1)) (count 0) (count 1) ≡ []
  unfolding breaks_in segments_under segments run_length wholes passing_knots passing_upward retained_knots lt le add sub mul of_bits of_int
  one_alone = refl

-- of the same four `inside` keeps two: the others are at most 2 from the one kept before
merged : inside_of (wholes 1 4) (neg (count 1000000000)) (count 1000000000) ≡ count 1 ∷ count 4 ∷ []
unfolding wholes inside_of inside_upward sorted inserted retained_knots apart deduped neg lt le add sub mul of_bits of_int
merged = refl
