-- Keep flags, as the walk over them looks for the next. Definitions only.
use Rattle.std.specs.Prelude.{Bool, true, false, List, ◌≡◌, ℕ, ◌≤◌, ◌<◌, length, get_or}

-- r is the first index from `from` on whose flag is set, or the number of flags
pub record FirstKept (keep : List Bool) (from r : ℕ) : Type 0 where
  pub after : from ≤ r
  pub within : r ≤ length keep
  pub clear : (j : ℕ) → j < r → from ≤ j → get_or keep j false ≡ false
  pub here : r < length keep → get_or keep r false ≡ true
