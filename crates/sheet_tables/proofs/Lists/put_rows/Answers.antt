-- `sheet_tables::Lists::put_rows` meets its contract. Assumes nothing.
use Rattle.std.proofs.Common.{◌∙◌, arith}
use Rattle.sheet_tables.proofs.Turns.{no_rows, rows_none, rows_count, left_fits, w_fits, f_fits, nothing_holds, wholes_hold, floats_hold, next_row, same_lists}
use Rattle.sheet_tables.proofs.Lists.put_rows.Goals as goal

pub loop-line-init : goal.loop-line-init
loop-line-init c = record {
  same = same_lists _;
  rows = rw c.text.view_is (no_rows _ _ _ _ (rw (← c.text.view_is) c.text.invariant));
}

pub put_wholes-w-requires : goal.put_wholes-w-requires
put_wholes-w-requires c = let x = next_row c.requires c.loop-line.invariant.rows c.in-Some.line.0 c.in-Some.line.1.now c.in-Some.ensures in (x.wholes_fit, x.narrow)

pub put_floats-f-requires : goal.put_floats-f-requires
put_floats-f-requires c = (next_row c.requires c.loop-line.invariant.rows c.in-Some.line.0 c.in-Some.line.1.now c.in-Some.ensures).floats_fit

pub loop-line-smaller : goal.loop-line-smaller
loop-line-smaller c = (next_row c.requires c.loop-line.invariant.rows c.in-Some.line.0 c.in-Some.line.1.now c.in-Some.ensures).later

pub loop-line-preserved : goal.loop-line-preserved
loop-line-preserved c =
    let i = c.loop-line.invariant in
    let x = next_row c.requires i.rows c.in-Some.line.0 c.in-Some.line.1.now c.in-Some.ensures in
    record {
      same = record {
        wholes = i.same.wholes;
        floats = i.same.floats;
        whole_room = c.put_wholes-w.auto.out ∙ i.same.whole_room;
        float_room = c.put_floats-f.auto.out ∙ i.same.float_room;
      };
      rows = x.turn _ _ _ _ c.put_wholes-w.ensures.0 c.put_wholes-w.ensures.1 c.put_floats-f.ensures.0 c.put_floats-f.ensures.1;
    }

pub returns-in_default-byte-clause-read : goal.returns-in_default-byte-clause-read
returns-in_default-byte-clause-read c = rows_none c.requires c.loop-line.invariant.rows c.in_default.ensures c.in_default-byte.ensures

pub returns-in_default-byte-clause-holds : goal.returns-in_default-byte-clause-holds
returns-in_default-byte-clause-holds c =
    let none = rows_none c.requires c.loop-line.invariant.rows c.in_default.ensures c.in_default-byte.ensures in
    let s = c.loop-line.invariant.same in
    nothing_holds _ _ _ _ none s c.clear_from.ensures.wholes c.clear_from.ensures.floats

pub clear_from-requires-2-clause-wholes : goal.clear_from-requires-2-clause-wholes
clear_from-requires-2-clause-wholes c =
    let h = w_fits c.requires c.loop-line.invariant.rows c.in-Some-byte.rows c.in-Some-byte.bytes.now c.in-Some-byte.ensures in
    let s = c.loop-line.invariant.same.whole_room in
    omega arith

pub clear_from-requires-2-clause-floats : goal.clear_from-requires-2-clause-floats
clear_from-requires-2-clause-floats c =
    let h = f_fits c.requires c.loop-line.invariant.rows c.in-Some-byte.rows c.in-Some-byte.bytes.now c.in-Some-byte.ensures in
    let s = c.loop-line.invariant.same.float_room in
    omega arith

pub invariant_of-result : goal.invariant_of-result
invariant_of-result c = left_fits c.requires c.loop-line.invariant.rows c.in-Some-byte.rows c.in-Some-byte.bytes.now c.in-Some-byte.ensures

pub returns-clause-read : goal.returns-clause-read
returns-clause-read c = rows_count c.requires c.loop-line.invariant.rows c.in-Some-byte.rows c.in-Some-byte.bytes.now c.in-Some-byte.ensures

pub returns-clause-holds : goal.returns-clause-holds
returns-clause-holds c = record {
  wholes = wholes_hold c.requires c.loop-line.invariant.rows c.in-Some-byte.rows c.in-Some-byte.bytes.now c.in-Some-byte.ensures _ c.clear_from-2.ensures.wholes;
  floats = floats_hold c.requires c.loop-line.invariant.rows c.in-Some-byte.rows c.in-Some-byte.bytes.now c.in-Some-byte.ensures _ c.clear_from-2.ensures.floats;
}
