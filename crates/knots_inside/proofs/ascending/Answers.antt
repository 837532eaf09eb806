-- `knots_inside::ascending` meets its contract: what passes, sorted and merged, is the definition's list, and zeros stand after it. Assumes nothing.
use Rattle.std.proofs.Common.{sym, ap, ◌∙◌, subst, arith, length-take-le}
use Rattle.base_lists.specs.All.{All}
use Rattle.knots_sort.specs.Own.Sortable.{Number}
use Rattle.knots_inside.specs.Breaks.{deduped}
use Rattle.knots_inside.proofs.Kept.{passing_numbers}
use Rattle.knots_inside.proofs.Steps.{cleared}
use Rattle.knots_inside.proofs.ascending.Goals as goal

pub sort-requires : goal.sort-requires
sort-requires c =
    let p = c.passing_upward-n in
    (omega (arith, c.requires, p.ensures.within, p.auto.knots, length-take-le p.result p.new.knots (omega (arith, p.ensures.within, p.auto.knots))), subst (All Number) (sym p.ensures.kept) (passing_numbers c.args.knots.now c.args.lo c.args.hi))

pub returns : goal.returns
returns c =
    let a = c.args in
    let p = c.passing_upward-n in
    let d = c.dedup-m in
    cleared a.knots.now a.lo a.hi p.new.knots p.result p.auto.knots p.ensures.within p.ensures.kept
    d.new.a d.result (d.auto.a ∙ c.sort.auto.a) (omega (arith, d.ensures.within, d.auto.a)) (d.ensures.kept ∙ ap (deduped _) c.sort.ensures) _ c.clear_from.ensures
