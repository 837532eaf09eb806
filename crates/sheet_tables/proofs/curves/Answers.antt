-- `sheet_tables::curves` meets its contract. Assumes nothing.
use Rattle.std.proofs.Common.{◌≡◌, length, rules}
use Rattle.std.specs.Float.{binary64}
use Rattle.std.specs.Float.Ieee.{of_bits}
use Rattle.base_lists.specs.Room.{padded}
use Rattle.text_format.specs.Bytes.{bytes}
use Rattle.text_format.specs.Table.{fields, end_byte, names, table}
use Rattle.sheet_layout.specs.Layout.{curve_columns}
use Rattle.sheet_row.specs.Rows.{floats_of, wholes_of}
use Rattle.sheet_tables.specs.Flattened.{flattened}
use Rattle.sheet_tables.specs.Own.Answers.{numbers_of}
use Rattle.sheet_tables.proofs.Tables.{curves_room}
use Rattle.sheet_tables.proofs.curves.Goals as goal

pub put_table-requires : goal.put_table-requires
put_table-requires c = curves_room _ _ c.requires.wholes c.requires.floats

pub returns-clause-read : goal.returns-clause-read
unfolding bytes fields end_byte names
returns-clause-read c = c.put_table.ensures.read

pub returns-clause-wholes : goal.returns-clause-wholes
unfolding bytes fields end_byte names
returns-clause-wholes c =
    let same = c.put_table.ensures.same.wholes in
    let holds : c.put_table.new.self.wholes.now ≡ padded (length c.args.wholes.now) 0 (numbers_of (flattened (wholes_of (fields curve_columns))) ((table curve_columns).read c.args.text)) = c.put_table.ensures.holds.wholes in
    search rules

pub returns-clause-floats : goal.returns-clause-floats
unfolding bytes fields end_byte names
returns-clause-floats c =
    let same = c.put_table.ensures.same.floats in
    let holds : c.put_table.new.self.floats.now ≡ padded (length c.args.floats.now) (of_bits binary64 0) (numbers_of (flattened (floats_of (fields curve_columns))) ((table curve_columns).read c.args.text)) = c.put_table.ensures.holds.floats in
    search rules
