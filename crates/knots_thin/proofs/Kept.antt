-- What `kept_breaks` answers and leaves in the buffer. Assumes nothing.
use Rattle.std.specs.Prelude.{Option, ℕ, Some, None}
use mathlib.Core.Path.{◌≡◌, sym, ap, ◌∙◌}
use mathlib.Core.List.{List, ◌++◌}
use Prim.Native.Nat.{ℕ, ◌≤◌}
use native.Mathlib.Omega.{arith}
use lib.ListN.{length, take, drop}
use lib.Seq.{length-take-le}
use lib.Ieee.{Float}
use Rattle.base_lists.specs.Room.{filled}
use Rattle.base_lists.proofs.Filled.{filled_front, filled_most, filled_part}
use Rattle.brep.specs.Tree.{CurveTree}
use Rattle.options.specs.declared.Mode.{Mode}
use Rattle.knots.specs.Knots.{curve_knots}
use Rattle.knots.specs.Own.Gathered.{knots_counted, buffer_after}
use Rattle.knots.proofs.Answers.{answer_fits, answer_exceeds, counted, exceeded, after_fits, after_exceeds}
use Rattle.knots_breaks.specs.Breaks.{breaks_in}
use Rattle.knots_thin.specs.Own.Kept.{kept_answer, kept_after}
use Rattle.knots_thin.specs.Thin.{curve_thinned, kept_breaks}

module _ (buffer : List Float) (mode : Mode) (curve : CurveTree) (lo hi : Float) where
  -- out is the buffer after breaks_in, which counted n
  pub record Found (out : List Float) (n : ℕ) : Type 0 where
    pub count : n ≡ length (breaks_in mode curve lo hi)
    pub fits : length (curve_knots curve) ≤ length buffer
    pub same_length : length out ≡ length buffer
    pub floats : out ≡ filled (length buffer) (breaks_in mode curve lo hi)

  module _ (found : Option ℕ) (out : List Float) (answered : found ≡ knots_counted (length buffer) curve (breaks_in mode curve lo hi)) (left : out ≡ buffer_after buffer curve (breaks_in mode curve lo hi)) where
    pub some_found : length out ≡ length buffer → (n : ℕ) → found ≡ Some n → Found out n
    some_found e n is =
        let k = counted curve (length buffer) (breaks_in mode curve lo hi) n (sym answered ∙ is) in
        record { count = k.0; fits = k.1; same_length = e; floats = left ∙ sym (after_fits curve buffer (breaks_in mode curve lo hi) k.1) }

    pub none_kept : (sag : Float) → found ≡ None → (None ≡ kept_answer (length buffer) mode curve lo hi sag) × (out ≡ kept_after buffer mode curve lo hi sag)
    none_kept sag is =
        let h = exceeded curve (length buffer) (breaks_in mode curve lo hi) (sym answered ∙ is) in
        (answer_exceeds curve (length buffer) (kept_breaks mode curve lo hi sag) h, left ∙ sym (after_exceeds curve buffer (breaks_in mode curve lo hi) h) ∙ after_exceeds curve buffer (kept_breaks mode curve lo hi sag) h)

module _ {buffer : List Float} {mode : Mode} {curve : CurveTree} {lo hi : Float} {out : List Float} {n : ℕ} (s : Found buffer mode curve lo hi out n) where
  room : n ≤ length buffer
  room = omega (arith, s.count, filled_most (length buffer) (breaks_in mode curve lo hi) (sym (ap length s.floats) ∙ s.same_length))

  pub part_room : n ≤ length out
  part_room = omega (arith, room, s.same_length)

  pub part_length : length (take n out) ≡ n
  part_length = length-take-le n out part_room

  pub part : take n out ≡ breaks_in mode curve lo hi
  part =
      ap (take n) s.floats ∙ ap (λ (k : ℕ). take k (filled (length buffer) (breaks_in mode curve lo hi))) s.count
      ∙ filled_front (length buffer) (breaks_in mode curve lo hi)

  -- last: the part after `thin_breaks`, which answered m
  pub some_kept : (sag : Float) (m : ℕ) (last : List Float) → length last ≡ length (take n out) → m ≡ length (curve_thinned curve (take n out) lo hi sag)
      → last ≡ filled (length (take n out)) (curve_thinned curve (take n out) lo hi sag)
      → (Some m ≡ kept_answer (length buffer) mode curve lo hi sag) × (last ++ drop n out ≡ kept_after buffer mode curve lo hi sag)
  some_kept sag m last long count floats = (
    ap Some (count ∙ ap (λ (l : List Float). length (curve_thinned curve l lo hi sag)) part) ∙ answer_fits curve (length buffer) (kept_breaks mode curve lo hi sag) s.fits,
    ap (λ (l : List Float). l ++ drop n out) is
        ∙ ap (λ (l : List Float). filled n (kept_breaks mode curve lo hi sag) ++ drop n l) s.floats
        ∙ filled_part (length buffer) n (breaks_in mode curve lo hi) (kept_breaks mode curve lo hi sag) (sym s.count) room few
        ∙ after_fits curve buffer (kept_breaks mode curve lo hi sag) s.fits,
  )
    where
      is : last ≡ filled n (kept_breaks mode curve lo hi sag)
      is = floats ∙ ap (λ (k : ℕ). filled k (curve_thinned curve (take n out) lo hi sag)) part_length ∙ ap (λ (l : List Float). filled n (curve_thinned curve l lo hi sag)) part

      few : length (kept_breaks mode curve lo hi sag) ≤ n
      few = filled_most n (kept_breaks mode curve lo hi sag) (sym (ap length is) ∙ long ∙ part_length)
