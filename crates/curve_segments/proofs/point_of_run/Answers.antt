-- `point_of_run` meets its contract: the record is that which the parameter falls on, and the point is that on it. Assumes nothing.
use Rattle.std.proofs.Common.{◌≡◌, length, ap, ◌∙◌}
use Rattle.brep.specs.Rows.{lent}
use Rattle.brep.specs.Tree.{tree}
use Rattle.curve.specs.Eval.{segment_index, segment_local, own_parameter, point_at}
use Rattle.curve_segments.proofs.Laws.{on_none, on_lower, on_high, same_over_flat}
use Rattle.curve_segments.proofs.point_of_run.Goals as goal

pub returns-in_default : goal.returns-in_default
returns-in_default c =
    let a = c.args in
    let i : c.index_in-index.result ≡ segment_index (length a.run.now) a.t = rw (c.index_in-index.ensures, c.saturating_sub.ensures, c.clamp-clamped.ensures, c.nearest_u64_to_f64-end.ensures) in
    let none = c.in_default.ensures.lookup in
    (on_none (lent a.tables.now) a.row a.run.now a.t (rw i at none.3), same_over_flat _ _ _)

pub returns-then-s-row : goal.returns-then-s-row
returns-then-s-row c =
    let a = c.args in
    let i : c.index_in-index.result ≡ segment_index (length a.run.now) a.t = rw (c.index_in-index.ensures, c.saturating_sub.ensures, c.clamp-clamped.ensures, c.nearest_u64_to_f64-end.ensures) in
    let s = c.in-Some.s.now in
    let found = c.in-Some.ensures.lookup in
    let u : c.own_parameter-u.result ≡ own_parameter s.range s.same_sense (segment_local (length a.run.now) a.t) =
    rw (c.own_parameter-u.ensures, c.nearest_u64_to_f64.ensures, i, c.clamp-clamped.ensures, c.nearest_u64_to_f64-end.ensures) in (
      c.point_at.ensures ∙ ap (point_at (tree (lent a.tables.now) s.curve)) u
          ∙ on_lower (lent a.tables.now) a.row a.run.now a.t (rw i at found.3.0) (rw i at found.1) c.if-s-row.true,
      same_over_flat _ _ _,
    )

pub returns : goal.returns
returns c =
    let a = c.args in
    let i : c.index_in-index.result ≡ segment_index (length a.run.now) a.t = rw (c.index_in-index.ensures, c.saturating_sub.ensures, c.clamp-clamped.ensures, c.nearest_u64_to_f64-end.ensures) in
    let found = c.in-Some.ensures.lookup in
    (on_high (lent a.tables.now) a.row a.run.now a.t (rw i at found.3.0) (rw i at found.1) c.if-s-row.false, same_over_flat _ _ _)
