-- `sheet_layout::line` meets its contract. Assumes nothing.
use mathlib.Core.Path.{refl, ap, ◌∙◌}
use native.Mathlib.Omega.{arith}
use lib.ListN.{length-set}
use Rattle.text_format.specs.Own.Answers.{as_read}
use Rattle.std.specs.Prelude.{Some}
use Rattle.sheet_layout.specs.declared.Column.TheVariants.{Float}
use Rattle.sheet_layout.specs.Own.Columns.{parsed_row}
use Rattle.sheet_layout.proofs.Onto.{onto_nothing}
use Rattle.sheet_layout.proofs.Columns.{cells_none, cells_on, cells_end, zeros_on}
use Rattle.sheet_layout.proofs.line.Goals as goal

pub loop-i-init : goal.loop-i-init
loop-i-init c = record { room = refl; left = onto_nothing _; zeros = refl }

pub returns-in_err-v : goal.returns-in_err-v
returns-in_err-v c =
    let l = c.loop-i in
    let none = cells_none c.args.shape.now _ c.args.s.now l.rest.now l.numbers l.i l.invariant.left (omega arith) _ c.end_of.ensures c.in_err-v.ensures in
    ap as_read c.from_residual.ensures ∙ ap parsed_row none

pub loop-i-preserved : goal.loop-i-preserved
loop-i-preserved c =
    let l = c.loop-i in
    let n = l.invariant.room in record {
      room = simp length-set (omega arith);
      left = cells_on c.args.shape.now _ c.args.s.now l.rest.now l.numbers l.i l.invariant.left (omega arith) _ c.in_ok-v.v _ c.end_of.ensures (omega arith) c.in_ok-v.ensures;
      zeros = zeros_on l.numbers l.i c.in_ok-v.v n (omega arith) l.invariant.zeros;
    }

pub returns : goal.returns
returns c =
    let l = c.loop-i in
    let end = cells_end c.args.shape.now Float c.args.s.now l.rest.now l.numbers l.i l.invariant.left (omega arith) in
    ap (λ n. Some (n, l.rest.now)) l.invariant.zeros ∙ ap parsed_row end
