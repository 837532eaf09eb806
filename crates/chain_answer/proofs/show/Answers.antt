-- `chain_answer::show` meets its contract: the listing of the part that holds the chain. Assumes nothing.
use Rattle.std.proofs.Common.{ap, cond, ◌*◌, length, arith}
use Rattle.edge_record.specs.Chain.{width}
use Rattle.draw_spec.specs.Draw.{in_first, chain_floats}
use Rattle.chain_answer.proofs.Laws.{show_refusal, show_chain, taken_few}
use Rattle.chain_answer.proofs.show.Goals as goal

pub write_chain-requires : goal.write_chain-requires
write_chain-requires c =
    let a = c.args in
    let chain = c.in-Ok.chain in
    let few = taken_few (width * chain.count) (cond (in_first chain.way) a.first.now a.second.now) in
    omega (arith, few, ap length c.chain_of.ensures.0, ap chain_floats c.in-Ok.is, c.requires)

pub returns-in-Ok : goal.returns-in-Ok
returns-in-Ok c =
    let a = c.args in
    show_chain a.lo a.hi a.drawn a.first.now a.second.now _ _ _ c.in-Ok.chain _ _ c.in-Ok.is (c.requires.0, c.requires.1) c.chain_of.ensures.0 c.last_bits.ensures c.write_chain.ensures

pub returns-in-Err : goal.returns-in-Err
returns-in-Err c = let a = c.args in show_refusal a.lo a.hi a.drawn a.first.now a.second.now _ _ _ _ c.in-Err.is (rw c.number.ensures at c.write_refusal.ensures)
