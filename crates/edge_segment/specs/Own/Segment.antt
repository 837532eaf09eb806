-- A line's edge drawn in one segment. Definitions only.
use Rattle.std.specs.Prelude.{◌≡◌, Bool, true, false, List, ℕ, ◌≤◌, length, Float, Ok}
use Rattle.base_lists.specs.Room.{filled}
use Rattle.math.specs.declared.Interval.{Interval}
use Rattle.brep.specs.declared.Edge.{Edge}
use Rattle.brep.specs.Rows.{Tables}
use Rattle.options.specs.declared.Mode.{Mode}
use Rattle.options.specs.declared.Resolved.{Resolved}
use Rattle.edge_params.specs.Work.{within}
use Rattle.edge_params.specs.Params.{evenly}
use Rattle.edge_record.specs.Chain.{flat}
use Rattle.draw_spec.specs.Edge.{placed, over_range}

-- what `draw_segment` answers of an edge over a range, and what a chain buffer, which was `entry`, then holds
pub record SegmentInto (T : Tables) (e : Edge) (r : Resolved) (range : Interval) (entry : List Float) (drawn : Bool) (exit : List Float) : Type 0 where
  -- drawn: in either mode and in any room for two, the edge's chain over the range is that of one even step
  pub chain : drawn ≡ true → (mode : Mode) (room : ℕ) → 2 ≤ room → within room (over_range mode T e r range) ≡ Ok (placed T e (evenly range 1))
  -- it stands in the buffer, with +0.0 behind it
  pub holds : drawn ≡ true → exit ≡ filled (length entry) (flat (placed T e (evenly range 1)))
  -- not drawn: the buffer is as it was
  pub kept : drawn ≡ false → exit ≡ entry
