-- `edge_asks::is_near_hyperbola` meets its contract. Assumes nothing.
use Rattle.std.proofs.Common.{◌≡◌, true, false, sym, refl, ◌∙◌, rules}
use Rattle.brep.specs.Rows.{tables}
use Rattle.brep.specs.Tree.{tree}
use Rattle.brep.specs.declared.Kind.TheVariants.{Hyperbola}
use Rattle.brep.proofs.Numbered.{is_kind}
use Rattle.curve_asks.specs.Own.Risk.{in_reach, is_hyperbola}
use Rattle.curve_asks.proofs.Laws.{hyperbola_by_kind}
use Rattle.edge_asks.proofs.is_near_hyperbola.Goals as goal

pub returns-then-in_reach : goal.returns-then-in_reach
returns-then-in_reach c =
    let a = c.args in
    record {
      ends = (search rules, search rules);
      near = λ points reals parts ranges.
          let T = tables points a.curves.now reals parts ranges in
          let hyperbola : true ≡ is_hyperbola (tree T a.row) =
          sym c.if-eq.true ∙ c.eq.ensures ∙ rw c.kind_at.ensures (is_kind _ Hyperbola) ∙ hyperbola_by_kind T a.row c.under_trims-r.ensures refl in
          let near : true ≡ in_reach a.range.lo = sym c.if-in_reach.true ∙ c.in_reach.ensures in
          rw (← hyperbola, ← near) c.in_reach-then-in_reach.ensures;
    }

pub returns-else-eq : goal.returns-else-eq
returns-else-eq c =
    let a = c.args in
    record {
      ends = (search rules, search rules);
      near = λ points reals parts ranges.
          let T = tables points a.curves.now reals parts ranges in
          let other : false ≡ is_hyperbola (tree T a.row) =
          sym c.if-eq.false ∙ c.eq.ensures ∙ rw c.kind_at.ensures (is_kind _ Hyperbola) ∙ hyperbola_by_kind T a.row c.under_trims-r.ensures refl in
          c.if-eq.false ∙ rw (← other);
    }
