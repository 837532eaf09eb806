-- What is printed for a sheet, byte by byte, and what both chain buffers hold afterwards. Definitions only.
use Rattle.std.specs.Prelude.{◌≡◌, false, List, ℕ, ◌<◌, length, take, Float, Err, Ok}
use Rattle.options.specs.declared.Mode.{Mode}
use Rattle.options.specs.declared.Mode.TheVariants.{Reference}
use Rattle.causes.specs.Causes.{oversize}
use Rattle.sheet_layout.specs.Layout.{RawSheet, size, read_sheet, Follows}
use Rattle.sheet_row.specs.Rows.{raw_edge_of, raw_options_of}
use Rattle.sheet.specs.Sheet.{edge_from, options_from, tables_of}
use Rattle.text_listing.specs.Listing.{listing, refusal, Put}
use Rattle.draw_spec.specs.declared.Way.{Way}
use Rattle.draw_spec.specs.declared.Way.TheVariants.{AsDrawn, Chord, Complement, ShortArc, Runaway}
use Rattle.draw_spec.specs.Repair.{Got}
use Rattle.draw_spec.specs.Draw.{program_floats, drawn, first_after, second_after}
use Rattle.refusal.specs.Answer.{Answer}
use Rattle.refusal.specs.Refusal.{number_of}

-- ---- what is printed
-- the bits of a chain's last parameter if it is NaN: a copy of hi; the runaway chord has lo twice
abbrev pub last_bits : Way → ℕ → ℕ → ℕ
last_bits AsDrawn lo hi = hi
last_bits Chord lo hi = hi
last_bits Complement lo hi = hi
last_bits ShortArc lo hi = hi
last_bits Runaway lo hi = lo

-- for what drawing gives
unfoldable pub printed_drawn : ℕ → ℕ → Answer Got → List ℕ
printed_drawn lo hi (Err cause) = refusal (number_of cause)
printed_drawn lo hi (Ok g) = listing lo (last_bits g.way lo hi) g.chain

-- what drawing the edge of a sheet gives, in a mode and in buffers of so many floats
abbrev pub drawn_of : Mode → RawSheet → ℕ → ℕ → Answer Got
drawn_of mode raw first second = drawn mode (tables_of raw) (edge_from (raw_edge_of raw.edge)) (options_from (raw_options_of raw.options)) first second

-- for what reading gives
unfoldable pub printed_read : Mode → ℕ → ℕ → Answer RawSheet → List ℕ
printed_read mode first second (Err cause) = refusal (number_of cause)
printed_read mode first second (Ok raw) =
    printed_drawn (raw_edge_of raw.edge).lo (raw_edge_of raw.edge).hi (drawn_of mode raw first second)

-- THE BYTES for a text, in a mode: the chain of the sheet that it stands for, or the refusal
abbrev pub printed : Mode → List ℕ → ℕ → ℕ → List ℕ
printed mode text first second = printed_read mode first second (read_sheet text)

-- ---- the program
-- THE BYTES that the program prints for an input: it knows no mode but the one that is equal to the Rust
abbrev pub program_prints : List ℕ → List ℕ
program_prints input = printed Reference input program_floats program_floats

-- whoever reads more than `size` bytes of an input prints what is printed for all of it (`read_enough` in proofs/Laws.antt)
abbrev pub ReadEnough : Type 0
ReadEnough = (mode : Mode) (n : ℕ) → size < n → (input : List ℕ) (first second : ℕ) → printed mode (take n input) first second ≡ printed mode input first second

-- no sheet has a table above its size, so that cause 1 cannot come from one (`never_oversize` in proofs/Laws.antt)
abbrev pub NeverOversize : Type 0
NeverOversize = (text : List ℕ) (raw : RawSheet) → Follows text raw → oversize (tables_of raw) ≡ false

-- ---- the chain buffers afterwards: as before where there is no sheet
unfoldable pub first_after_sheet : Mode → List Float → ℕ → Answer RawSheet → List Float
first_after_sheet mode first second (Err cause) = first
first_after_sheet mode first second (Ok raw) = first_after first (drawn_of mode raw (length first) second)

unfoldable pub second_after_sheet : Mode → ℕ → List Float → Answer RawSheet → List Float
second_after_sheet mode first second (Err cause) = second
second_after_sheet mode first second (Ok raw) = second_after second (drawn_of mode raw first (length second))

-- ---- the whole answer: the bytes at the start of `out`, and both buffers
pub record Prints (mode : Mode) (text : List ℕ) (first second : List Float) (out : List ℕ) (n : ℕ) (first' second' : List Float) (out' : List ℕ) : Type 0 where
  pub put : Put (printed mode text (length first) (length second)) out n out'
  pub first_holds : first' ≡ first_after_sheet mode first (length second) (read_sheet text)
  pub second_holds : second' ≡ second_after_sheet mode (length first) second (read_sheet text)
