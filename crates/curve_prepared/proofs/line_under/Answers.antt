-- `curve_prepared::line_under` meets its contract. Assumes nothing.
use mathlib.Core.Path.{◌∙◌}
use mathlib.Core.List.{List}
use Prim.Native.Nat.{ℕ}
use lib.Ieee.{Float}
use Rattle.brep.specs.Rows.{tables}
use Rattle.brep.specs.declared.Kind.TheVariants as kinds
use Rattle.brep.proofs.Numbered.{is_numbered, not_numbered}
use Rattle.curve_prepared.proofs.Laws.{is_line, no_line}
use Rattle.curve_prepared.proofs.line_under.Goals as goal

pub returns-then-eq : goal.returns-then-eq
returns-then-eq c = λ (reals : List Float) (parts : List ℕ) (ranges : List Float).
    let a = c.args in
    c.line_of.ensures ∙ is_line (tables a.points.now a.curves.now reals parts ranges) a.row c.under_trims-r.ensures (is_numbered kinds.Line c.kind_at.ensures c.eq.ensures c.if-eq.true) c.int_at.ensures

pub returns-else-eq : goal.returns-else-eq
returns-else-eq c = λ (reals : List Float) (parts : List ℕ) (ranges : List Float).
    let a = c.args in
    no_line (tables a.points.now a.curves.now reals parts ranges) a.row c.under_trims-r.ensures (not_numbered kinds.Line c.kind_at.ensures c.eq.ensures c.if-eq.false)
