-- `locate` meets its contract. The loop's invariant: the chain holds the curve's points at the first i parameters. Assumes nothing.
use mathlib.Core.Path.{refl, ap, ◌∙◌}
use native.Mathlib.Omega.{arith}
use lib.Seq.{sets}
use Rattle.brep.specs.Tree.{CurveTree}
use Rattle.curve_prepared.specs.Own.PreparedCurve.{curve_of}
use Rattle.edge_record.specs.Chain.{flat}
use Rattle.edge_closed_form.proofs.Located.{written_none, written_more, written_all}
use Rattle.draw_spec.specs.Edge.{located}
use Rattle.edge_place.proofs.Laws.{of_row}
use Rattle.edge_place.proofs.locate.Goals as goal

pub loop-i-init : goal.loop-i-init
loop-i-init c =
    let a = c.args in
    (omega arith, refl, written_none (curve_of c.new-curve.result) a.chain.now a.params.now a.chain.now refl)

pub put-requires : goal.put-requires
put-requires c = omega (arith, c.loop-i-test.true, c.loop-i.invariant.1, c.requires)

pub loop-i-preserved : goal.loop-i-preserved
loop-i-preserved c =
    let a = c.args in
    let l = c.loop-i in (
      omega arith,
      c.put.auto.chain ∙ l.invariant.1,
      written_more (curve_of c.new-curve.result) a.chain.now a.params.now l.chain _ l.i _ _ c.loop-i-test.true l.invariant.2
          c.point-point.ensures refl c.put.ensures,
    )

pub shape_of-chain : goal.shape_of-chain
shape_of-chain c = c.loop-i.invariant.1

pub returns : goal.returns
returns c =
    let a = c.args in
    let l = c.loop-i in
    let n = c.new-curve in
    written_all (curve_of n.result) a.chain.now a.params.now l.chain l.i c.loop-i-test.false l.invariant.2
    ∙ ap (λ (k : CurveTree). sets a.chain.now 0 (flat (located k a.params.now))) (of_row n.result n.ensures.tables n.ensures.row)
