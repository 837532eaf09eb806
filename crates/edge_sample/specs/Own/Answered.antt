-- What the code of sample_params answers, and what it leaves in the buffer. Definitions only.
use Rattle.std.specs.Prelude.{◌≡◌, true, false, Bool, List, [], ◌∷◌, ◌++◌, reverse, ℕ, length, Float, Option, None, Some}
use Rattle.std.specs.Float.Ieee.{lt}
use Rattle.std.specs.Option.{unwrap_or}
use Rattle.base_lists.specs.Room.{filled}
use Rattle.math.specs.declared.Interval.{Interval}
use Rattle.brep.specs.Tree.{CurveTree}
use Rattle.options.specs.declared.Mode.{Mode}
use Rattle.options.specs.declared.Resolved.{Resolved}
use Rattle.edge_params.specs.Own.Written.{said}
use Rattle.edge_params.specs.Own.InRoom.{sample_params_in}
use Rattle.base_lists.specs.Own.ListOf.{list_of}
use Rattle.edge_sample.specs.declared.Sampled.{Sampled}
use Rattle.edge_sample.specs.Sample.{sampler}
use Rattle.refusal.specs.Answer.{Answer, each}

-- sample_params in a room, list by list
unfoldable pub sampled_in : ℕ → Mode → CurveTree → Interval → Resolved → Answer (List Float)
sampled_in room mode c range r = sample_params_in room (sampler mode c range r) range

-- the length of the list, or the refusal; in a buffer of so many floats the list, and +0.0 behind it
abbrev pub SampledInto : ℕ → Answer (List Float) → Option ℕ → List Float → Type 0
SampledInto room s w after = (said w ≡ each length s) × (after ≡ filled room (list_of s))

-- how many floats of the buffer an answer keeps
abbrev pub kept_floats : Option ℕ → ℕ
kept_floats w = unwrap_or w 0

-- what is answered of a list, and of what the chain holds
abbrev pub sampled_as : Option ℕ → Bool → Option Sampled
sampled_as None known = None
sampled_as (Some n) known = Some (record { count = n; known = known })

-- how many parameters were answered
abbrev pub count_of : Option Sampled → Option ℕ
count_of None = None
count_of (Some s) = Some s.count

-- whether the chain holds the records of what was answered: not where nothing was
abbrev pub known_of : Option Sampled → Bool
known_of None = false
known_of (Some s) = s.known

-- where the walk stops: the breaks, the range's own way round, and range.hi
unfoldable pub stops : Interval → List Float → List Float
stops range breaks =
    elim (lt range.hi range.lo) [
      | true ↦ reverse breaks
      | false ↦ breaks
    ] ++ (range.hi ∷ [])
