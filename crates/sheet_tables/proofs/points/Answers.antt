-- `sheet_tables::points` meets its contract. Assumes nothing.
use Rattle.std.proofs.Common.{rules}
use Rattle.text_format.specs.Bytes.{bytes}
use Rattle.text_format.specs.Table.{fields, end_byte, names}
use Rattle.sheet_tables.proofs.Tables.{points_room}
use Rattle.sheet_tables.proofs.points.Goals as goal

pub put_table-requires : goal.put_table-requires
put_table-requires c = points_room _ _ c.requires

pub returns-clause-read : goal.returns-clause-read
unfolding bytes fields end_byte names
returns-clause-read c = c.put_table.ensures.read

pub returns-clause-floats : goal.returns-clause-floats
unfolding bytes fields end_byte names
returns-clause-floats c = let same = c.put_table.ensures.same.floats in let holds = c.put_table.ensures.holds.floats in search rules
