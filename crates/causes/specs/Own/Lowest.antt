-- The lower of two verdicts. Definitions only.
use Rattle.std.specs.Prelude.{cond, ltb, ⊤, Ok, Err}
use Rattle.refusal.specs.Answer.{Answer}
use Rattle.refusal.specs.Refusal.{number_of}

-- the refusal of the lower number of two; accepted where both are
unfoldable pub lowest_of : Answer ⊤ → Answer ⊤ → Answer ⊤
lowest_of (Ok t) v = v
lowest_of (Err m) (Ok t) = Err m
lowest_of (Err m) (Err n) = Err (cond (ltb (number_of n) (number_of m)) n m)
