-- `thin_sampled` meets its contract: `thin` with a floor that says as much as the segments, or nothing done. Assumes nothing.
use Rattle.std.proofs.Common.{◌/◌, length, arith}
use Rattle.edge_record.specs.Chain.{width}
use Rattle.edge_discretise.proofs.Thinning.{passed_thinned, passed_over}
use Rattle.edge_discretise.proofs.thin_sampled.Goals as goal

pub returns-then-is_sampled : goal.returns-then-is_sampled
returns-then-is_sampled c =
    let a = c.args in
    passed_thinned a.sampling.now.options a.chain.now (length a.chain.now / width) _ _ c.is_sampled.ensures _ _ _
    c.if-is_sampled.true (omega arith) c.min-floor.ensures
    c.thin.ensures

pub returns : goal.returns
returns c = let a = c.args in passed_over a.sampling.now.options a.chain.now (length a.chain.now / width) _ _ c.is_sampled.ensures c.if-is_sampled.false
