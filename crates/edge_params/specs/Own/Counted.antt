-- How long a list gets by the moves of bisection, without the list. Definitions only.
use Rattle.std.specs.Prelude.{ℕ, suc, Bool, true, false, List, [], ◌∷◌, nat_lt, Float, Err, Ok}
use Rattle.edge_params.specs.Params.{Move, asks, adds}
use Rattle.refusal.specs.Answer.{Answer}
use Rattle.refusal.specs.declared.Refusal.TheVariants.{TooFar, NoRoom}

-- how many parameters a list has after these moves, where it had k before: 8 at one for which there is no room, 11 at one asked for that
-- is too far, whichever comes first
unfoldable pub counted : (Float → Bool) → ℕ → ℕ → List Move → Answer ℕ
counted far room k [] = Ok k
counted far room k (asks t ∷ moves) =
    elim (far t) [
      | true ↦ Err TooFar
      | false ↦ counted far room k moves
    ]
counted far room k (adds t ∷ moves) =
    elim (nat_lt k room) [
      | true ↦ counted far room (suc k) moves
      | false ↦ Err NoRoom
    ]
