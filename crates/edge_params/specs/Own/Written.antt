-- A list of parameters in a buffer, whose length is the room: what the code that writes it answers. Definitions only.
use Rattle.std.specs.Prelude.{◌≡◌, ℕ, List, ◌++◌, length, take, Float, Option, Some, None, Err, Ok}
use Rattle.std.proofs.lemmas.List.Edits.{sets}
use Rattle.edge_params.specs.Own.InRoom.{fitting}
use Rattle.refusal.specs.Answer.{Answer, each}
use Rattle.refusal.specs.declared.Refusal.TheVariants.{NoRoom}

-- the answer that the code's stands for
abbrev pub said : Option ℕ → Answer ℕ
said (Some n) = Ok n
said None = Err NoRoom

-- l written from the start of the buffer out: the answer is l's length, or 8 where l is longer than out; the buffer then holds
-- l, or as much of it as out has room for, and the rest of it is as before
pub record ListWritten (out l : List Float) (r : Option ℕ) (after : List Float) : Type 0 where
  pub answer : said r ≡ each length (fitting (length out) l)
  pub buffer : after ≡ sets out 0 l

-- l written behind the first k floats of out, which are kept
abbrev pub ListAppended : List Float → ℕ → List Float → Option ℕ → List Float → Type 0
ListAppended out k l r after = ListWritten out (take k out ++ l) r after
