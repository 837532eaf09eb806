-- What a pass over a chain answers and leaves in its buffer. Definitions only.
use Rattle.std.specs.Prelude.{◌≡◌, List, ℕ, ◌+◌, ◌*◌, ◌≤◌, length, Float, Err, Ok}
use Rattle.std.proofs.lemmas.List.Edits.{sets}
use Rattle.math.specs.declared.Vec3.{Vec3}
use Rattle.edge_record.specs.declared.Sample.{Sample}
use Rattle.edge_record.specs.Chain.{width, flat, sample_at}
use Rattle.refusal.specs.Answer.{Answer}

-- a buffer has a record i
abbrev pub HasRecord : List Float → ℕ → Type 0
HasRecord c i = width * i + width ≤ length c

-- the point of a buffer's record i
abbrev pub record_point : List Float → ℕ → Vec3
record_point c i = (sample_at c i).point

-- what a pass over a chain leaves: its samples stand at the buffer's start, what lies behind them stays, and their number is the answer
pub record ChainStored (entry exit : List Float) (answer : ℕ) (l : List Sample) : Type 0 where
  pub count : answer ≡ length l
  pub floats : exit ≡ sets entry 0 (flat l)

-- what a pass that may refuse answers: the refusal, or how many samples the chain has
abbrev pub counted_of : Answer (List Sample) → Answer ℕ
counted_of (Err n) = Err n
counted_of (Ok l) = Ok (length l)

-- what it leaves: after a refusal the buffer as it was, else the samples at its start
abbrev pub after : List Float → Answer (List Sample) → List Float
after entry (Err n) = entry
after entry (Ok l) = sets entry 0 (flat l)
