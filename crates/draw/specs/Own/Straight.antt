-- A line's edge drawn at once. Definitions only.
use Rattle.std.specs.Prelude.{◌≡◌, Bool, true, false}
use Rattle.draw_spec.specs.Draw.{drawn_as}
use Rattle.draw_spec.specs.declared.Way.TheVariants.{AsDrawn}
use Rattle.draw_spec.specs.Repair.{Got}
use Rattle.edge_repair.specs.declared.buffers.Buffers.{Buffers}
use Rattle.edge_repair.specs.Own.Buffers.{SameBuffers}
use Rattle.edge_repair.specs.Own.Redrawn.{DrawnInto}
use Rattle.refusal.specs.Answer.{Answer}

-- what `draw_straight` answers of what drawing gives, and what both buffers then hold
pub record StraightInto (D : Answer Got) (old : Buffers) (drawn : Bool) (new : Buffers) : Type 0 where
  pub same : SameBuffers old new
  -- drawn: the chain of two points that was kept as first drawn
  pub chain : drawn ≡ true → DrawnInto D old.first.now old.second.now (drawn_as AsDrawn 2) new.first.now new.second.now
  -- not drawn: the buffers are as they were
  pub kept_first : drawn ≡ false → new.first.now ≡ old.first.now
  pub kept_second : drawn ≡ false → new.second.now ≡ old.second.now
