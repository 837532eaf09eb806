-- `curve_asks::may_ask` meets its contract. Assumes nothing.
use Rattle.std.proofs.Common.{arith, sym, ◌∙◌}
use Rattle.brep.specs.Rows.{tables}
use Rattle.brep.specs.declared.Kind.TheVariants.{Composite, Hyperbola}
use Rattle.brep.proofs.ByKind.{first_read, count_read}
use Rattle.brep.proofs.Numbered.{is_kind, is_numbered, not_numbered}
use Rattle.curve_asks.proofs.Laws.{may_run, may_other}
use Rattle.curve_asks.proofs.Never.{never_far}
use Rattle.curve_asks.proofs.may_ask.Goals as goal

pub returns-then-eq : goal.returns-then-eq
returns-then-eq c points reals =
    let a = c.args in
    let T = tables points a.curves.now reals a.parts.now a.ranges.now in
    let seven = is_numbered Composite c.kind_at-kind.ensures c.eq.ensures c.if-eq.true in
    let m = c.run_may_ask.ensures ∙ may_run T a.row c.under_trims-r.ensures seven (first_read c.run_at.ensures) (count_read c.run_at.ensures) in
    (m, λ h. never_far T (λ i. omega (arith, c.type_inv.curves i)) a.row (sym m ∙ h))

pub returns : goal.returns
returns c points reals =
    let a = c.args in
    let T = tables points a.curves.now reals a.parts.now a.ranges.now in
    let seven = not_numbered Composite c.kind_at-kind.ensures c.eq.ensures c.if-eq.false in
    let m = c.eq-2.ensures ∙ rw c.kind_at-kind.ensures (is_kind _ Hyperbola) ∙ may_other T a.row c.under_trims-r.ensures seven in
    (m, λ h. never_far T (λ i. omega (arith, c.type_inv.curves i)) a.row (sym m ∙ h))
