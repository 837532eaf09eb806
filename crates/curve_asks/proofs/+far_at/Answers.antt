-- `curve_asks::far_at` meets its contract. Assumes nothing.
use Rattle.std.proofs.Common.{rules, ◌∙◌}
use borrow.Author.Tests.{eq-eqb, ne_eqb, lt-ltb, le-ltb}
use Rattle.brep.specs.Rows.{tables}
use Rattle.brep.specs.declared.Kind.TheVariants.{Composite, Hyperbola}
use Rattle.brep.proofs.ByKind.{first_read, count_read}
use Rattle.brep.proofs.Numbered.{is_numbered, not_numbered}
use Rattle.curve_parameter.proofs.Under.{under_low}
use Rattle.curve_asks.proofs.Laws.{far_none, far_some, far_other}
use Rattle.curve_asks.proofs.+far_at.Goals as goal

pub far_at-requires : goal.far_at-requires
far_at-requires t c =
    let a = c.args in
    let l = under_low a.curves.now a.row a.row in
    let e = c.under_trims-r.ensures in
    search rules

pub returns-in_default : goal.returns-in_default
returns-in_default t c points reals =
    let a = c.args in
    let T = tables points a.curves.now reals a.parts.now a.ranges.now in
    let seven = is_numbered Composite c.kind_at-kind.ensures c.eq.ensures c.if-eq.true in
    far_none T a.row a.t c.under_trims-r.ensures seven (first_read c.run_at-run.ensures) (count_read c.run_at-run.ensures) c.in_default.ensures

pub returns-then-base-r : goal.returns-then-base-r
returns-then-base-r t c points reals =
    let a = c.args in
    let T = tables points a.curves.now reals a.parts.now a.ranges.now in
    let seven = is_numbered Composite c.kind_at-kind.ensures c.eq.ensures c.if-eq.true in
    let found = far_some T a.row a.t c.under_trims-r.ensures seven (first_read c.run_at-run.ensures) (count_read c.run_at-run.ensures) c.in-Some.ensures in
    c.far_at.ensures points reals ∙ rw (lt-ltb _ _ c.if-base-r.true) at found

pub returns-else-base-r : goal.returns-else-base-r
returns-else-base-r t c points reals =
    let a = c.args in
    let T = tables points a.curves.now reals a.parts.now a.ranges.now in
    let seven = is_numbered Composite c.kind_at-kind.ensures c.eq.ensures c.if-eq.true in
    let found = far_some T a.row a.t c.under_trims-r.ensures seven (first_read c.run_at-run.ensures) (count_read c.run_at-run.ensures) c.in-Some.ensures in
    rw (le-ltb _ _ c.if-base-r.false) (rw (le-ltb _ _ c.if-base-r.false) at found)

pub returns-then-eq-2 : goal.returns-then-eq-2
returns-then-eq-2 t c points reals =
    let a = c.args in
    let T = tables points a.curves.now reals a.parts.now a.ranges.now in
    let seven = not_numbered Composite c.kind_at-kind.ensures c.eq.ensures c.if-eq.false in
    let eight = is_numbered Hyperbola c.kind_at-kind.ensures c.eq-2.ensures c.if-eq-2.true in
    c.is_far.ensures ∙ rw (eq-eqb _ 8 eight) at (far_other T a.row a.t c.under_trims-r.ensures seven)

pub returns-else-eq-2 : goal.returns-else-eq-2
returns-else-eq-2 t c points reals =
    let a = c.args in
    let T = tables points a.curves.now reals a.parts.now a.ranges.now in
    let seven = not_numbered Composite c.kind_at-kind.ensures c.eq.ensures c.if-eq.false in
    let eight = not_numbered Hyperbola c.kind_at-kind.ensures c.eq-2.ensures c.if-eq-2.false in
    c.if-eq-2.false ∙ rw (ne_eqb _ 8 eight) at (far_other T a.row a.t c.under_trims-r.ensures seven)
