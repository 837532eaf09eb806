-- Both chain buffers, lent together. Definitions only.
use Rattle.std.specs.Prelude.{◌≡◌, ℕ, length}
use Rattle.draw_spec.specs.Draw.{room_of}
use Rattle.edge_repair.specs.declared.buffers.Buffers.{Buffers}

-- the room that a chain has in both
abbrev pub room_in : Buffers → ℕ
room_in b = room_of (length b.first.now) (length b.second.now)

-- the same two buffers, as long as they were
pub record SameBuffers (old new : Buffers) : Type 0 where
  pub first : new.first.ghost_name ≡ old.first.ghost_name
  pub second : new.second.ghost_name ≡ old.second.ghost_name
  pub first_room : length new.first.now ≡ length old.first.now
  pub second_room : length new.second.now ≡ length old.second.now
