-- `sheet::SheetTables::try_read` meets its contract. Assumes nothing.
use Rattle.sheet.proofs.Parts.{refused_answer, refused_stored, too_long, no_tables, no_ends, not_all, sheet_answer, sheet_stored}
use Rattle.sheet.proofs.SheetTables.try_read.Goals as goal

pub returns-then-text-gt-SIZE : goal.returns-then-text-gt-SIZE
returns-then-text-gt-SIZE c =
    let s = c.args.text.now in
    let e = too_long s c.if-text-gt-SIZE.true in
    record { sheet = refused_answer s e; tables = refused_stored s e _ }

pub returns-in_err-points : goal.returns-in_err-points
returns-in_err-points c =
    let s = c.args.text.now in
    let e = no_tables s c.if-text-gt-SIZE.false (rw (← c.new.ensures) c.in_err-points.ensures.counts) in
    record { sheet = rw c.from_residual.ensures (refused_answer s e); tables = refused_stored s e _ }

pub returns-in_err-edge : goal.returns-in_err-edge
returns-in_err-edge c =
    let s = c.args.text.now in
    let p = c.in_ok-points in
    let e = no_ends s c.if-text-gt-SIZE.false (p.points, p.curves, p.segments) c.into_bytes.result.now (rw (c.into_bytes.ensures, ← c.new.ensures) p.ensures.counts) c.in_err-edge.ensures in
    record { sheet = rw c.from_residual-in_err-edge.ensures (refused_answer s e); tables = refused_stored s e _ }

pub returns-then-not-is_empty : goal.returns-then-not-is_empty
returns-then-not-is_empty c =
    let s = c.args.text.now in
    let p = c.in_ok-points in
    let q = c.in_ok-edge in
    let e = not_all s c.if-text-gt-SIZE.false (p.points, p.curves, p.segments) c.into_bytes.result.now (rw (c.into_bytes.ensures, ← c.new.ensures) p.ensures.counts) (q.edge, q.options) q.rest.now q.ensures c.if-not-is_empty.ensures in
    record { sheet = refused_answer s e; tables = refused_stored s e _ }

pub returns : goal.returns
returns c =
    let s = c.args.text.now in
    let p = c.in_ok-points in
    let q = c.in_ok-edge in
    record {
      sheet =
          rw (c.edge_from.ensures, c.options_from.ensures)
          (sheet_answer s c.if-text-gt-SIZE.false (p.points, p.curves, p.segments) c.into_bytes.result.now (rw (c.into_bytes.ensures, ← c.new.ensures) p.ensures.counts) (q.edge, q.options) q.rest.now q.ensures c.if-not-is_empty.ensures);
      tables =
          sheet_stored s c.if-text-gt-SIZE.false (p.points, p.curves, p.segments) c.into_bytes.result.now (rw (c.into_bytes.ensures, ← c.new.ensures) p.ensures.counts) (q.edge, q.options) q.rest.now q.ensures c.if-not-is_empty.ensures _
          (rw (← c.new.ensures) c.read_tables.ensures.tables);
    }
