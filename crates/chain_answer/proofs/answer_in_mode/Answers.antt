-- `chain_answer::answer_in_mode` meets its contract: a refusal, or a drawing and its listing. Assumes nothing.
use Rattle.sheet.specs.Sheet.{written}
use Rattle.sheet.proofs.Laws.{sheet_read, sheet_refused}
use Rattle.chain_answer.proofs.Laws.{held_in_room, no_sheet, sheet_drawn}
use Rattle.chain_answer.proofs.answer_in_mode.Goals as goal

pub show-requires : goal.show-requires
show-requires c = let a = c.args in held_in_room _ _ _ _ a.first.now a.second.now _ _ _ c.draw_sheet-drawn.ensures _ c.requires

pub returns-in-Ok : goal.returns-in-Ok
returns-in-Ok c =
    let a = c.args in
    let k = c.in-Ok in
    let read = sheet_read a.text.now k.sheet (written c.read.new.self) k.ensures.sheet k.ensures.tables in
    sheet_drawn a.mode a.text.now a.first.now a.second.now a.out.now _ _ k.sheet _ read _ _ _ c.draw_sheet-drawn.ensures c.show.ensures

pub returns-in-Err : goal.returns-in-Err
returns-in-Err c =
    let a = c.args in
    let k = c.in-Err in
    no_sheet a.mode a.text.now a.first.now a.second.now a.out.now _ _ k.cause (sheet_refused a.text.now k.cause k.ensures.sheet) (rw c.number.ensures at c.write_refusal.ensures)
