-- What is told of a range before it is sampled. Definitions only.
use Rattle.std.specs.Prelude.{Bool, true, false, List, [], Float, Option, ⊤, Ok, Err}
use Rattle.draw_spec.specs.Draw.{probes}
use Rattle.math.specs.declared.Interval.{Interval}
use Rattle.refusal.specs.Answer.{Answer}

-- what is asked for before a range is sampled: edge_extent's probes before an edge is first drawn, else nothing
abbrev pub asked_first : Bool → Option Interval → List Float
asked_first true used = probes used
asked_first false used = []

-- the list that sampling makes where nothing is too far, or the refusal that comes first
abbrev pub told_of : Answer ⊤ → Answer (List Float) → Answer (List Float)
told_of (Ok t) list = list
told_of (Err n) list = Err n
