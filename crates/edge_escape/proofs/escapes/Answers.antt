-- `edge_escape::escapes` meets its contract, record by record. Assumes nothing.
use Rattle.std.proofs.Common.{rules, ◌/◌, length, arith, [], ◌∙◌}
use Rattle.edge_record.specs.Chain.{width}
use Rattle.edge_record.specs.Own.Stored.{record_point}
use Rattle.causes_bounds.proofs.Laws.{some_of_run}
use Rattle.math.specs.Math.{v_length}
use Rattle.edge_record.proofs.Chunks.{chunk_point}
use Rattle.edge_escape.proofs.Search.{beyond, escapes_whole}
use Rattle.edge_escape.proofs.escapes.Goals as goal

pub returns-then-is_near : goal.returns-then-is_near
returns-then-is_near c = c.is_near.ensures c.if-is_near.true

pub returns : goal.returns
unfolding v_length
returns c =
    let a = c.args in
    let any = c.any.ensures.runs in
    let chunks = (rw (any.1, c.chunks_exact.ensures.size, c.chunks_exact.ensures.rest) at (c.chunks_exact.ensures.runs any.0 any.0.seen)) (omega arith) in
    some_of_run any.0 (λ k. beyond c.new-limit.result c.centre-centre.result (record_point a.chain.now k)) (length a.chain.now / width) (record { ref_ptr = (0, 0); now = [] }) c.any.result any.2 (search rules) (search rules)
    chunks.2 (λ k x b part called. (omega arith, rw (← chunk_point x.now a.chain.now k part.2.2) (search rules)))
    ∙ escapes_whole a.chain.now a.r _ _ a.reference (rw (c.new-limit.ensures, c.diagonal.ensures)) c.centre-centre.ensures
