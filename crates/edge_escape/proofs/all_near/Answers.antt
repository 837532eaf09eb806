-- `edge_escape::all_near` meets its contract, record by record: where the square's root is within a limit, so are those below it. Assumes nothing.
use Rattle.std.proofs.Common.{◌≡◌, rules, arith, refl, sym, true, false, [], ◌/◌, length, ◌∙◌}
use Rattle.std.specs.Float.Ieee.{le}
use Rattle.causes_bounds.proofs.Laws.{none_from}
use Rattle.arith_root_limit.proofs.Roots.{not_above}
use Rattle.math.specs.Math.{v_length, v_length_squared, v_sub}
use Rattle.edge_record.specs.Chain.{width}
use Rattle.edge_record.specs.Own.Stored.{record_point}
use Rattle.draw_spec.specs.Repair.{escape_limit}
use Rattle.edge_record.proofs.Chunks.{chunk_point}
use Rattle.edge_escape.proofs.Search.{beyond, escapes_whole, all_of_run}
use Rattle.edge_escape.proofs.all_near.Goals as goal

pub returns : goal.returns
unfolding v_length
returns c = λ e.
    let a = c.args in
    let all = c.all.ensures.runs in
    let chunks = (rw (all.1, c.chunks_exact.ensures.size, c.chunks_exact.ensures.rest) at (c.chunks_exact.ensures.runs all.0 all.0.seen)) (omega arith) in
    let limit = escape_limit a.reference a.r in
    let z = c.centre-centre.result in
    let near = all_of_run all.0 (λ k. beyond limit z (record_point a.chain.now k) ≡ false) (length a.chain.now / width) (record { ref_ptr = (0, 0); now = [] }) c.all.result all.2 e (search rules) (search rules)
    chunks.2 (λ k x part called.
    let within : le (v_length_squared (v_sub (record_point x.now 0) z)) a.square ≡ true = search rules in
    rw (← chunk_point x.now a.chain.now k part.2.2) (sym (not_above _ a.square limit (search rules) (search rules) c.requires within))) in
    sym (none_from (λ k. beyond limit z (record_point a.chain.now k)) (length a.chain.now / width) near) ∙ escapes_whole a.chain.now a.r limit z a.reference refl c.centre-centre.ensures
