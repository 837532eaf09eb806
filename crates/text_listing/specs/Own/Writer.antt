-- A writer into a lent buffer. Definitions only.
use Rattle.std.specs.Prelude.{◌≡◌, ℕ, List, ◌+◌, ◌≤◌, length}
use Rattle.std.proofs.lemmas.List.Edits.{sets}
use Rattle.text_listing.specs.declared.Writer.{Writer}

-- there is room for so many bytes more
abbrev pub HasRoom : ℕ → Writer → Type 0
HasRoom n w = w.at + n ≤ length w.out.now

-- the text was written behind what had been, into the same buffer
pub record Writes (text : List ℕ) (old new : Writer) : Type 0 where
  pub same : new.out.ghost_name ≡ old.out.ghost_name
  pub count : new.at ≡ old.at + length text
  pub length_is : length new.out.now ≡ length old.out.now
  pub bytes : new.out.now ≡ sets old.out.now old.at text
