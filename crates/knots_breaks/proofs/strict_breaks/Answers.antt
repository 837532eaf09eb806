-- `knots_breaks::strict_breaks` meets its contract. Assumes nothing.
use Rattle.std.proofs.Common.{length, arith}
use Rattle.brep.specs.Rows.{lent}
use Rattle.brep.specs.Tree.{tree}
use Rattle.options.specs.declared.Mode.TheVariants.{Strict}
use Rattle.knots.proofs.Answers.{answer_exceeds, after_exceeds}
use Rattle.knots_breaks.specs.Breaks.{breaks_in}
use Rattle.knots_breaks.proofs.Answers.{meeting, strict_count, strict_buffer}
use Rattle.knots_breaks.proofs.strict_breaks.Goals as goal

pub returns-then-out-n-clause-answer : goal.returns-then-out-n-clause-answer
returns-then-out-n-clause-answer c =
    let a = c.args in
    let curve = tree (lent a.tables.now) a.row in
    answer_exceeds curve (length a.out.now) (breaks_in Strict curve a.range.lo a.range.hi) (omega (arith, c.knot_count-n.ensures, c.if-out-n.true))

pub returns-then-out-n-clause-buffer : goal.returns-then-out-n-clause-buffer
returns-then-out-n-clause-buffer c =
    let a = c.args in
    let curve = tree (lent a.tables.now) a.row in
    after_exceeds curve a.out.now (breaks_in Strict curve a.range.lo a.range.hi) (omega (arith, c.knot_count-n.ensures, c.if-out-n.true))

pub returns-clause-answer : goal.returns-clause-answer
returns-clause-answer c =
    let a = c.args in
    let n = c.knot_count-n in
    let w = c.store_wholes in
    let p = c.passing-k in
    strict_count (meeting a.out.now (tree (lent a.tables.now) a.row) n.result c.saturating_sub-meetings.result n.ensures c.if-out-n.false c.saturating_sub-meetings.ensures)
    a.range.lo a.range.hi w.new.out w.ensures p.new.knots p.result p.auto.knots p.ensures.within p.ensures.kept

pub returns-clause-buffer : goal.returns-clause-buffer
returns-clause-buffer c =
    let a = c.args in
    let n = c.knot_count-n in
    let w = c.store_wholes in
    let p = c.passing-k in
    strict_buffer (meeting a.out.now (tree (lent a.tables.now) a.row) n.result c.saturating_sub-meetings.result n.ensures c.if-out-n.false c.saturating_sub-meetings.ensures)
    a.range.lo a.range.hi w.new.out w.ensures p.new.knots p.result p.auto.knots p.ensures.within p.ensures.kept _ c.clear_from.ensures
