-- `causes_form::malformed_segments` meets its contract, chunk by chunk. Assumes nothing.
use Rattle.std.proofs.Common.{rules, arith, [], add-zero}
use Rattle.std.proofs.lemmas.Bool.Decides.{nat_tests}
use Rattle.causes_bounds.proofs.Laws.{some_of_run}
use Rattle.causes_form.proofs.malformed_segments.Goals as goal

pub returns : goal.returns
returns c =
    let any = c.any.ensures.runs in
    let chunks = (rw (any.1, c.chunks_exact.ensures.size, c.chunks_exact.ensures.rest) at (c.chunks_exact.ensures.runs any.0 any.0.seen)) (omega arith) in
    some_of_run any.0 _ _ (record { ref_ptr = (0, 0); now = [] }) c.any.result any.2 (search rules) (search rules)
    chunks.2 (λ k x b part called.
    let curve = rw add-zero at (part.2.2 0 0 (omega arith)) in
    let sense = part.2.2 1 0 (omega arith) in
    (omega arith, grind (arith, nat_tests)))
