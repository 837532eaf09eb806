-- What `discretise` and its parts make of a chain. Definitions only.
use Rattle.std.specs.Prelude.{◌≡◌, Bool, List, [], ℕ, ◌*◌, ◌≤◌, length, take, Float}
use Rattle.base_lists.specs.Own.ListOf.{list_of}
use Rattle.base_lists.specs.Room.{filled}
use Rattle.brep.specs.declared.Edge.{Edge}
use Rattle.brep.specs.Rows.{Tables}
use Rattle.options.specs.declared.Mode.{Mode}
use Rattle.options.specs.declared.Resolved.{Resolved}
use Rattle.curve_asks.specs.Asks.{asks_far}
use Rattle.edge_params.specs.Work.{Work, asking, within}
use Rattle.edge_range.specs.Usable.{usable_range}
use Rattle.edge_record.specs.declared.Sample.{Sample}
use Rattle.edge_record.specs.Own.Stored.{counted_of}
use Rattle.edge_record.specs.Chain.{width, flat}
use Rattle.draw_spec.specs.Edge.{edge_curve, discretised}
use Rattle.draw_spec.specs.Draw.{room_of}
use Rattle.edge_asks.specs.Own.Told.{asked_first}
use Rattle.refusal.specs.Answer.{Answer}

-- what is answered of D, and what a chain buffer of n floats then holds: its chain, if any, and +0.0 behind it
pub record ChainInto (n : ℕ) (D : Answer (List Sample)) (answer : Answer ℕ) (chain : List Float) : Type 0 where
  pub answered : answer ≡ counted_of D
  pub holds : chain ≡ filled n (flat (list_of D))

-- what is answered of D, and that a chain buffer then has its chain, if any, at its start
pub record ChainLeads (D : Answer (List Sample)) (answer : Answer ℕ) (chain : List Float) : Type 0 where
  pub answered : answer ≡ counted_of D
  pub fits : width * length (list_of D) ≤ length chain
  pub holds : take (width * length (list_of D)) chain ≡ flat (list_of D)

-- discretise, before which edge_extent's probes are asked for or not
abbrev pub asked_discretised : Bool → Mode → Tables → Edge → Resolved → Work (List Sample)
asked_discretised probes_first mode T e r =
    asking (asks_far (edge_curve T e)) (asked_first probes_first (usable_range (edge_curve T e) e.range)) (discretised mode T e r)

-- of a work D in the room of both buffers, with +0.0 in all of scratch
pub record DiscretisedInto (D : Work (List Sample)) (chain scratch : List Float) (answer : Answer ℕ) (chain' scratch' : List Float) : Type 0 where
  pub drawn : ChainInto (length chain) (within (room_of (length chain) (length scratch)) D) answer chain'
  pub cleared : scratch' ≡ filled (length scratch) []
