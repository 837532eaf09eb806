-- The point on a run of records: by the record that the parameter falls on, and the same as on the tables' own segments. Assumes nothing.
use Rattle.std.proofs.Common.{◌≡◌, ℕ, zero, suc, ◌<◌, ◌≤◌, List, [], ◌∷◌, length, get_or, sym, refl, ap, ◌∙◌, le_of_suc-le-suc, not-suc-le-zero}
use lib.Ieee.{Float}
use Rattle.math.specs.Math.{v_zero}
use Rattle.brep.specs.declared.Run.{Run}
use Rattle.brep.specs.declared.Segment.{Segment}
use Rattle.brep.specs.declared.Curve.TheVariants.{Composite}
use Rattle.brep.specs.Rows.{Tables}
use Rattle.brep.specs.Tree.{CurveTree, composite, segment, segments, segment_in, row_in, grown, below, tree}
use Rattle.brep.proofs.Laws.{at_lower, at_high}
use Rattle.curve.specs.Eval.{run_length, segment_index, segment_local, own_parameter, polyline_point, point_at, segment_point}
use Rattle.curve_segments.specs.Run.{segments_of, composite_of, records_in, SameOverFlat}

-- ---- the point on the run
module _ (f : ℕ → CurveTree) where
  count_records : (run : List Segment) → run_length (segments_of f run) ≡ length run
  unfolding run_length segments_of
  count_records [] = refl
  count_records (s ∷ run) = ap suc (count_records run)

  record_at : (run : List Segment) (i : ℕ) {s : Segment} (local : Float) → i < length run → s ≡ get_or run i s → point_at (f s.curve) (own_parameter s.range s.same_sense local) ≡ segment_point (segments_of f run) i local
  unfolding point_at segments_of
  record_at [] i local h e = absurd (not-suc-le-zero h)
  record_at (r ∷ run) zero {s} local h e = let same : s ≡ r = e in rw same
  record_at (r ∷ run) (suc i) local h e = record_at run i local (le_of_suc-le-suc h) e

  none_at : (run : List Segment) (i : ℕ) (local : Float) → length run ≤ i → v_zero ≡ segment_point (segments_of f run) i local
  unfolding point_at segments_of
  none_at [] i local h = refl
  none_at (r ∷ run) zero local h = absurd (not-suc-le-zero h)
  none_at (r ∷ run) (suc i) local h = none_at run i local (le_of_suc-le-suc h)

module _ (T : Tables) (row : ℕ) (run : List Segment) (t : Float) where
  -- a composite's point, by its segment
  on_composite : segment_point (segments_of (below T row) run) (segment_index (length run) t) (segment_local (length run) t) ≡ point_at (composite_of T row run) t
  unfolding point_at
  on_composite = ap (λ (n : ℕ). segment_point (segments_of (below T row) run) (segment_index n t) (segment_local n t)) (sym (count_records (below T row) run))

  pub on_none : length run ≤ segment_index (length run) t → v_zero ≡ point_at (composite_of T row run) t
  on_none h = none_at (below T row) run _ _ h ∙ on_composite

  module _ {s : Segment} (h : segment_index (length run) t < length run) (e : s ≡ get_or run (segment_index (length run) t) s) where
    here : point_at (below T row s.curve) (own_parameter s.range s.same_sense (segment_local (length run) t)) ≡ point_at (composite_of T row run) t
    here = record_at (below T row) run _ _ h e ∙ on_composite

    pub on_lower : s.curve < row → point_at (tree T s.curve) (own_parameter s.range s.same_sense (segment_local (length run) t)) ≡ point_at (composite_of T row run) t
    on_lower l = at_lower (λ c. point_at c (own_parameter s.range s.same_sense (segment_local (length run) t))) T row l ∙ here

    -- a curve that is not in a lower row is the empty polyline
    pub on_high : row ≤ s.curve → v_zero ≡ point_at (composite_of T row run) t
    unfolding point_at polyline_point
    on_high l = at_high (λ c. point_at c (own_parameter s.range s.same_sense (segment_local (length run) t))) T row l ∙ here

-- ---- the tables' own segments, as records
same_segments : (T : Tables) (f : ℕ → CurveTree) (first n : ℕ) → segments_of f (records_in T first n) ≡ segments T f first n
unfolding segments_of records_in segments
same_segments T f first zero = refl
same_segments T f first (suc n) =
    ap (segment (f (segment_in T first).curve) (segment_in T first).range (segment_in T first).same_sense) (same_segments T f (suc first) n)

-- a run that is a composite row's own is read as that row
same_row : (T : Tables) (row : ℕ) (own : Run) → row_in T row ≡ Composite own → composite_of T row (records_in T own.first own.count) ≡ tree T row
unfolding tree grown
same_row T row own e = rw e (ap composite (same_segments T (below T row) own.first own.count))

-- THE LAW: the same over flat numbers
pub same_over_flat : (T : Tables) (row : ℕ) (run : List Segment) → SameOverFlat T row run
same_over_flat T row run = record { same = λ own e is. ap (composite_of T row) is ∙ same_row T row own e }
