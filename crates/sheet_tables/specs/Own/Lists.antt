-- What a table's reader does to the lists that it was lent.
use Rattle.std.specs.Prelude.{◌≡◌, List, ℕ, length}
use Rattle.std.specs.Float.{binary64}
use Rattle.std.specs.Float.Ieee.{of_bits}
use Rattle.base_lists.specs.Room.{padded}
use Rattle.text_format.specs.Format.{Parsed}
use Rattle.text_format.specs.Table.{Field}
use Rattle.sheet_row.specs.Rows.{floats_of, wholes_of}
use Rattle.sheet_tables.specs.Flattened.{flattened}
use Rattle.sheet_tables.specs.Own.Answers.{numbers_of}
use Rattle.sheet_tables.specs.declared.Lists.{Lists}

-- the same places, as many of them
pub record SameLists (old new : Lists) : Type 0 where
  pub wholes : new.wholes.ghost_name ≡ old.wholes.ghost_name
  pub floats : new.floats.ghost_name ≡ old.floats.ghost_name
  pub whole_room : length new.wholes.now ≡ length old.wholes.now
  pub float_room : length new.floats.now ≡ length old.floats.now

-- they hold the numbers of the rows that were read, zeros behind them
pub record Holds (fs : List Field) (q : Parsed (List (List ℕ))) (old new : Lists) : Type 0 where
  pub wholes : new.wholes.now ≡ padded (length old.wholes.now) 0 (numbers_of (flattened (wholes_of fs)) q)
  pub floats : new.floats.now ≡ padded (length old.floats.now) (of_bits binary64 0) (numbers_of (flattened (floats_of fs)) q)
