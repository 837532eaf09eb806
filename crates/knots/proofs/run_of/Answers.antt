-- `knots::run_of` meets its contract: only a composite, under any trims, has knots. Assumes nothing.
use Rattle.std.proofs.Common.{[], refl, sym, ◌∙◌}
use Rattle.brep.specs.declared.Kind.TheVariants.{Composite}
use Rattle.brep.specs.Rows.{tables}
use Rattle.brep.proofs.ByKind.{at_composite, first_read, count_read}
use Rattle.brep.proofs.Numbered.{is_numbered, not_numbered}
use Rattle.curve.proofs.Under.{under_same, under_none}
use Rattle.knots.specs.Knots.{curve_knots}
use Rattle.knots.specs.Own.Gathered.{run_knots}
use Rattle.knots.proofs.Laws.{run_knots_lem}
use Rattle.knots.proofs.run_of.Goals as goal

pub returns-then-eq : goal.returns-then-eq
unfolding curve_knots
returns-then-eq c points reals parts ranges =
    let T = tables points c.args.curves.now reals parts ranges in
    sym (run_knots_lem T _ _ _) ∙ at_composite curve_knots T _ refl (is_numbered Composite c.kind_at.ensures c.eq.ensures c.if-eq.true) (first_read c.run_at.ensures) (count_read c.run_at.ensures)
    ∙ under_same curve_knots (λ b r. refl) T c.args.row c.under_trims-r.ensures

pub returns : goal.returns
unfolding curve_knots run_knots
returns c points reals parts ranges =
    under_none curve_knots (λ b r. refl) (tables points c.args.curves.now reals parts ranges) [] (λ c. refl) (λ ps. refl) c.args.row c.under_trims-r.ensures
    refl (not_numbered Composite c.kind_at.ensures c.eq.ensures c.if-eq.false)
