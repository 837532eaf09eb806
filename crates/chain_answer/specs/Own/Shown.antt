-- What is printed of an answer and its chain. Definitions only.
use Rattle.std.specs.Prelude.{List, ℕ, Ok, Err}
use Rattle.edge_record.specs.declared.Sample.{Sample}
use Rattle.text_listing.specs.Listing.{listing, refusal}
use Rattle.chain_answer.specs.Printed.{last_bits}
use Rattle.draw_spec.specs.declared.Drawn.{Drawn}
use Rattle.refusal.specs.Answer.{Answer}
use Rattle.refusal.specs.Refusal.{number_of}

-- for an answer and its chain, where the edge's range has the bits lo and hi
unfoldable pub shown : ℕ → ℕ → Answer Drawn → List Sample → List ℕ
shown lo hi (Err cause) chain = refusal (number_of cause)
shown lo hi (Ok drawn) chain = listing lo (last_bits drawn.way lo hi) chain
