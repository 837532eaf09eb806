-- Whether something holds of one of many numbers. Definitions only.
use Rattle.std.specs.Prelude.{Bool, false, ◌||◌, ℕ, zero, suc}

-- P of some number below n
unfoldable pub some_below : ℕ → (ℕ → Bool) → Bool
some_below zero P = false
some_below (suc n) P = some_below n P || P n
