-- `edge_count::span_far` meets its contract. Assumes nothing.
use Rattle.std.proofs.Common.{◌∙◌, rules}
use Rattle.std.proofs.lemmas.Iterator.{YieldsList-from_slice}
use Rattle.std.proofs.lemmas.Iterator.Search.{any_from_yields_List}
use Rattle.brep.specs.Rows.{tables}
use Rattle.brep.specs.Tree.{tree}
use Rattle.curve_asks.specs.Asks.{asks_far}
use Rattle.edge_count.proofs.Thinning.{five}
use Rattle.edge_count.proofs.span_far.Goals as goal

pub returns : goal.returns
returns c points reals =
    let far = asks_far (tree (tables points c.args.curves.now reals c.args.parts.now c.args.ranges.now) c.args.row) in
    any_from_yields_List far _ _ c.any.result c.any.ensures.ran (YieldsList-from_slice _ c.iter.ensures.rest) (λ x b q called. search rules) ∙ five far c.args.a c.args.b
