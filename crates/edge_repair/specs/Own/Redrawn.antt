-- A repair's answer and what the chain buffers hold of it. Definitions only.
use Rattle.std.specs.Prelude.{◌≡◌, false, List, [], ℕ, ◌<◌, length, Float, Ok, Err}
use Rattle.base_lists.specs.Own.ListOf.{list_of}
use Rattle.base_lists.specs.Room.{filled}
use Rattle.edge_params.specs.Work.{Work, within}
use Rattle.edge_record.specs.declared.Sample.{Sample}
use Rattle.edge_record.specs.Own.Stored.{counted_of}
use Rattle.edge_record.specs.Chain.{flat}
use Rattle.draw_spec.specs.Repair.{Got}
use Rattle.draw_spec.specs.Draw.{answer_of, in_first, first_after, second_after}
use Rattle.draw_spec.specs.declared.Drawn.{Drawn}
use Rattle.edge_repair.specs.declared.buffers.Buffers.{Buffers}
use Rattle.edge_repair.specs.Own.Buffers.{room_in, SameBuffers}
use Rattle.refusal.specs.Answer.{Answer}
use Rattle.refusal.specs.declared.Refusal.{Refusal}
use Rattle.refusal.specs.Refusal.{number_of}

-- a chain X that is drawn into the second buffer, with the first as scratch; no refusal is below 8
pub record RedrawnChain (X : Answer (List Sample)) (old : Buffers) (answer : Answer ℕ) (new : Buffers) : Type 0 where
  pub same : SameBuffers old new
  pub answered : answer ≡ counted_of X
  pub first_holds : new.first.now ≡ filled (length old.first.now) []
  pub second_holds : new.second.now ≡ filled (length old.second.now) (flat (list_of X))
  pub late : (n : Refusal) → answer ≡ Err n → 7 < number_of n

-- an answer and both buffers by the definition
pub record DrawnInto (D : Answer Got) (first second : List Float) (answer : Answer Drawn) (first' second' : List Float) : Type 0 where
  pub answered : answer ≡ answer_of D
  pub first_holds : first' ≡ first_after first D
  pub second_holds : second' ≡ second_after second D

-- the same, with both buffers lent together
pub record DrawnIn (D : Answer Got) (old : Buffers) (answer : Answer Drawn) (new : Buffers) : Type 0 where
  pub same : SameBuffers old new
  pub drawn : DrawnInto D old.first.now old.second.now answer new.first.now new.second.now

-- those of a repair in the room of both buffers; no refusal is below 8, so that none leaves the buffers as before
pub record RedrawnInto (D : Work Got) (old : Buffers) (answer : Answer Drawn) (new : Buffers) : Type 0 where
  pub same : SameBuffers old new
  pub drawn : DrawnInto (within (room_in old) D) old.first.now old.second.now answer new.first.now new.second.now
  pub late : (n : Refusal) → answer ≡ Err n → 7 < number_of n

-- a chain that a buffer of n floats, the second, holds, with +0.0 behind it
pub record InSecond (g : Got) (n : ℕ) (answer : Answer Drawn) (second : List Float) : Type 0 where
  pub answered : answer ≡ answer_of (Ok g)
  pub holds : second ≡ filled n (flat g.chain)
  pub there : in_first g.way ≡ false
