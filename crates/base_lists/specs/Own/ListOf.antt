-- An answer's list. Definitions only.
use Rattle.std.specs.Prelude.{List, [], Ok, Err}
use Rattle.refusal.specs.Answer.{Answer}

-- the list that was got; none of a refusal
abbrev pub list_of : {A : Type 0} → Answer (List A) → List A
list_of (Err n) = []
list_of (Ok l) = l
