-- `chain_answer::print` meets its contract: there is room for every listing, and what is left of the input changes nothing.
-- Assumes nothing.
use native.Mathlib.Omega.{arith}
use Rattle.draw_spec.specs.Draw.{room_of}
use Rattle.chain_answer.proofs.Laws.{put_for_all}
use Rattle.chain_answer.proofs.print.Goals as goal

pub answer-requires : goal.answer-requires
unfolding room_of
answer-requires c = omega arith

pub returns : goal.returns
returns c =
    let st = c in
    let p = c.answer.ensures.put in
    (p.fits, λ input read. put_for_all _ st.requires.0 _ input read p)
