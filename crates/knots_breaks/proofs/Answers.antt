-- What `strict_breaks` answers and leaves in the buffer. Assumes nothing.
use Rattle.std.specs.Prelude.{Some}
use Rattle.std.proofs.Common.{◌≡◌, ℕ, ◌-◌, ◌*◌, ◌/◌, ◌≤◌, List, ◌++◌, length, take, drop, sym, refl, ap, ◌∙◌, arith, length-append, length-take-le}
use lib.Seq.{length_front, take-append-le}
use lib.Ieee.{Float}
use Rattle.base_lists.specs.Room.{filled}
use Rattle.brep.specs.Tree.{CurveTree, Segments, analytic, polyline, trimmed, composite, none, segment}
use Rattle.curve_parameter.specs.Run.{run_length}
use Rattle.options.specs.declared.Mode.TheVariants.{Strict}
use Rattle.knots.specs.Knots.{segment_knots, curve_knots}
use Rattle.knots.specs.Own.Gathered.{knots_counted, buffer_after}
use Rattle.knots.proofs.Answers.{answer_fits, after_fits}
use Rattle.knots_inside.specs.Breaks.{passing_knots}
use Rattle.knots_breaks.specs.Breaks.{wholes, segments_under, breaks_in}
use Rattle.knots_breaks.proofs.Passing.{wholes_length}

-- ---- two knots a segment
run_knots_lem : (ss : Segments) → length (segment_knots ss) ≡ 2 * run_length ss
unfolding segment_knots run_length
run_knots_lem none = refl
run_knots_lem (segment c r s rest) = omega (arith, run_knots_lem rest)

pub two_each : (c : CurveTree) → length (curve_knots c) ≡ 2 * segments_under c
unfolding curve_knots segments_under
two_each (analytic a) = refl
two_each (polyline ps) = refl
two_each (trimmed base range) = two_each base
two_each (composite ss) = run_knots_lem ss

-- ---- strict_breaks: the knots fit the buffer, and m is how often segments meet
pub record Meeting (buffer : List Float) (c : CurveTree) (m : ℕ) : Type 0 where
  pub fit : length (curve_knots c) ≤ length buffer
  pub often : m ≡ segments_under c - 1

pub meeting : (buffer : List Float) (c : CurveTree) (n m : ℕ) → n ≡ length (curve_knots c) → n ≤ length buffer → m ≡ n / 2 - 1 → Meeting buffer c m
meeting buffer c n m counted fit half = record { fit = omega arith; often = omega (arith, two_each c) }

-- whole: the places that whole numbers were stored in; part: those after `passing`, which answered k
module _ {buffer : List Float} {c : CurveTree} {m : ℕ} (s : Meeting buffer c m) (lo hi : Float) (whole : List Float) (stored : whole ≡ wholes 1 (length (take m buffer)))
    (part : List Float) (k : ℕ) (as_long : length part ≡ length whole) (few : k ≤ length whole) (passed : take k part ≡ passing_knots whole lo hi) where
  places : length (take m buffer) ≡ m
  places = length-take-le m buffer (omega (arith, s.fit, s.often, two_each c))

  part_length : length part ≡ length (take m buffer)
  part_length = as_long ∙ ap length stored ∙ wholes_length 1 (length (take m buffer))

  front : take k (part ++ drop m buffer) ≡ breaks_in Strict c lo hi
  unfolding breaks_in
  front =
      take-append-le k part (drop m buffer) (omega (arith, as_long)) ∙ passed
      ∙ ap (λ (l : List Float). passing_knots l lo hi) (stored ∙ ap (wholes 1) (places ∙ s.often))

  pub strict_count : Some k ≡ knots_counted (length buffer) c (breaks_in Strict c lo hi)
  strict_count =
      ap Some (sym (length-take-le k (part ++ drop m buffer) (omega (arith, as_long, length-append part (drop m buffer)))) ∙ ap length front)
      ∙ answer_fits c (length buffer) (breaks_in Strict c lo hi) s.fit

  -- cleared: the buffer in the end
  pub strict_buffer : (cleared : List Float) → cleared ≡ filled (length (part ++ drop m buffer)) (take k (part ++ drop m buffer)) → cleared ≡ buffer_after buffer c (breaks_in Strict c lo hi)
  strict_buffer cleared e =
      e ∙ ap (λ (n : ℕ). filled n (take k (part ++ drop m buffer))) (length_front buffer part m part_length) ∙ ap (filled (length buffer)) front
      ∙ after_fits c buffer (breaks_in Strict c lo hi) s.fit
