-- What the proofs of the causes share: the sizes, and the tables' verdict by what their form and their rows come to. Assumes nothing.
use Rattle.std.proofs.Common.{◌≡◌, ◌*◌, ◌≤◌, Bool, true, false, ◌||◌, refl, length, ltb, Err}
use Rattle.std.proofs.Math.Bool.{or-true, or-false}
use Rattle.std.proofs.lemmas.Bool.{false≢true, ltb-false, or_parts}
use Rattle.brep.specs.Rows.{Tables, most_points, most_rows, most_segments}
use Rattle.refusal.specs.declared.Refusal.TheVariants.{IllFormed}
use Rattle.causes_bounds.specs.Some.{some_below}
use Rattle.causes_bounds.specs.Bounds.{unbounded_tables}
use Rattle.causes_bounds.proofs.Laws.{four}
use Rattle.causes_form.specs.Forms.{curve_count, segment_count, malformed_row, malformed_segment, ragged}
use Rattle.causes_nesting.specs.Own.RowsCause.{rows_cause}
use Rattle.causes.specs.Causes.{oversize, tables_verdict}

-- tables that are not above their sizes
pub sizes : (T : Tables) → oversize T ≡ false → (length T.points ≤ 3 * most_points) × (length T.curves ≤ 3 * most_rows) × (length T.parts ≤ 2 * most_segments)
unfolding oversize
sizes T e =
    let p = ltb (3 * most_points) (length T.points) in
    let c = ltb (3 * most_rows) (length T.curves) in
    let r = ltb (2 * most_rows) (length T.reals) in
    let s = ltb (2 * most_segments) (length T.parts) in
    let g = ltb (2 * most_segments) (length T.ranges) in
    let k = or_parts p ((c || r) || (s || g)) e in
    let l = four c r s g k.1 in
    (ltb-false (3 * most_points) (length T.points) k.0, ltb-false (3 * most_rows) (length T.curves) l.0, ltb-false (2 * most_segments) (length T.parts) l.2)

-- ---- the verdict of tables that are not oversize and whose floats are bounded
module _ (T : Tables) (s : oversize T ≡ false) (u : unbounded_tables T.points T.reals T.ranges ≡ false) where
  -- where a segment is malformed, or the slices are ragged
  pub segments_decide : ragged T || some_below (segment_count T) (malformed_segment T) ≡ true → Err IllFormed ≡ tables_verdict T
  unfolding tables_verdict
  segments_decide h =
      let k = go (ragged T) (some_below (curve_count T) (malformed_row T)) (some_below (segment_count T) (malformed_segment T)) h in
      rw (s, u, k)
    where
      go : (a b c : Bool) → a || c ≡ true → a || (b || c) ≡ true
      go true b c e = refl
      go false b true e = or-true b
      go false b false e = absurd (false≢true e)

  -- else the rows decide
  pub rows_decide : ragged T ≡ false → some_below (segment_count T) (malformed_segment T) ≡ false → tables_verdict T ≡ rows_cause T
  unfolding tables_verdict rows_cause
  rows_decide r g = rw (s, u, r, g, or-false (some_below (curve_count T) (malformed_row T)))
