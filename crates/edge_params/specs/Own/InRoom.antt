-- sample_params in a room, list by list, as the code goes. Definitions only.
use Rattle.std.specs.Prelude.{ℕ, ◌-◌, true, false, List, length, nat_le, nat_lt, Float, None, Some, Err, Ok}
use Rattle.math.specs.declared.Interval.{Interval}
use Rattle.edge_params.specs.Params.{Sampler, evenly}
use Rattle.edge_params.specs.Own.Bisected.{bisected}
use Rattle.refusal.specs.Answer.{Answer, bind}
use Rattle.refusal.specs.declared.Refusal.TheVariants.{NoRoom}

-- a list that fits the room; 8 where a parameter more than that would join it
unfoldable pub fitting : ℕ → List Float → Answer (List Float)
fitting room l =
    elim (nat_le (length l) room) [
      | true ↦ Ok l
      | false ↦ Err NoRoom
    ]

-- the segment floor
unfoldable pub floored_in : ℕ → Sampler → Interval → List Float → Answer (List Float)
floored_in room s range out =
    elim (nat_lt (length out - 1) s.least) [
      | true ↦ fitting room (evenly range s.least)
      | false ↦ Ok out
    ]

-- bisection, and the segment floor
unfoldable pub refined_in : ℕ → Sampler → Interval → Answer (List Float)
refined_in room s range = bind (fitting room (bisected s range)) (floored_in room s range)

-- sample_params: the parameters, or refusal 8 at the first list that is longer than the room
unfoldable pub sample_params_in : ℕ → Sampler → Interval → Answer (List Float)
sample_params_in room s range =
    elim s.closed [
      | None ↦ refined_in room s range
      | Some n ↦ bind (fitting room (evenly range n)) (λ l. elim (s.meets l) [ true ↦ Ok l | false ↦ refined_in room s range ])
    ]
