-- `sheet::SheetTables::read_tables` meets its contract. Assumes nothing.
use Rattle.std.proofs.Common.{◌*◌, arith}
use Rattle.text_format.specs.Table.{fields}
use Rattle.sheet_layout.specs.Layout.{sheet_points, sheet_curves, sheet_segments, point_columns, curve_columns, segment_columns}
use Rattle.sheet_row.specs.Rows.{floats_of, wholes_of}
use Rattle.sheet_tables.specs.Flattened.{flattened}
use Rattle.sheet.specs.Sheet.{float_of}
use Rattle.sheet.proofs.Parts.{table_stored, stored_is, no_counts, not_stored, no_points, points_are, no_curves, curves_are, no_segments, segments_are, three_counts, three_stored}
use Rattle.sheet.proofs.SheetTables.read_tables.Goals as goal

pub returns-in_err-points : goal.returns-in_err-points
returns-in_err-points c =
    let s = c.args.text in
    let e = no_points s c.in_err-points.ensures.read in
    record { counts = rw c.from_residual.ensures (no_counts s e); tables = not_stored s e _ }

pub returns-in_err-curves : goal.returns-in_err-curves
returns-in_err-curves c =
    let s = c.args.text in
    let p = c.in_ok-points in
    let e = no_curves s p.points p.rest p.ensures.read c.in_err-curves.ensures.read in
    record { counts = rw c.from_residual-in_err-curves.ensures (no_counts s e); tables = not_stored s e _ }

pub returns-in_err-segments : goal.returns-in_err-segments
returns-in_err-segments c =
    let s = c.args.text in
    let p = c.in_ok-points in
    let q = c.in_ok-curves in
    let e = no_segments s p.points p.rest p.ensures.read q.curves q.rest q.ensures.read c.in_err-segments.ensures.read in
    record { counts = rw c.from_residual-in_err-segments.ensures (no_counts s e); tables = not_stored s e _ }

pub returns : goal.returns
returns c =
    let s = c.args.text in
    let t = c.args.self.now in
    let p = c.in_ok-points in
    let q = c.in_ok-curves in
    let r = c.in_ok-segments in
    let a = points_are s p.points p.rest p.ensures.read in
    let b = curves_are s p.points p.rest p.ensures.read q.curves q.rest q.ensures.read in
    let d = segments_are s p.points p.rest p.ensures.read q.curves q.rest q.ensures.read r.segments r.rest r.ensures.read in
    record {
      counts = three_counts s p.points p.rest p.ensures.read q.curves q.rest q.ensures.read r.segments r.rest r.ensures.read;
      tables =
          three_stored s p.points p.rest p.ensures.read q.curves q.rest q.ensures.read r.segments r.rest r.ensures.read _
          (stored_is a.read b.read d.read _ _ _ _ _
          (table_stored (flattened (floats_of (fields point_columns))) (float_of 0) (3 * sheet_points) _ a.read _ t.points _ (omega arith) a.is c.points.ensures.floats)
          (table_stored (flattened (wholes_of (fields curve_columns))) 0 (3 * sheet_curves) _ b.read _ t.curves _ (omega arith) b.is c.curves.ensures.wholes)
          (table_stored (flattened (floats_of (fields curve_columns))) (float_of 0) (2 * sheet_curves) _ b.read _ t.reals _ (omega arith) b.is c.curves.ensures.floats)
          (table_stored (flattened (wholes_of (fields segment_columns))) 0 (2 * sheet_segments) _ d.read _ t.parts _ (omega arith) d.is c.segments.ensures.wholes)
          (table_stored (flattened (floats_of (fields segment_columns))) (float_of 0) (2 * sheet_segments) _ d.read _ t.ranges _ (omega arith) d.is c.segments.ensures.floats));
    }
