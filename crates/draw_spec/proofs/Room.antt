-- The room only refuses: a chain that drawing answers with is the same with longer buffers. Assumes nothing.
use Rattle.std.specs.Prelude.{Ok}
use mathlib.Core.Path.{◌≡◌}
use mathlib.Core.Bool.{false}
use Prim.Native.Nat.{ℕ, ◌≤◌}
use native.Mathlib.Omega.{arith}
use lib.Dec.{ltb}
use borrow.Author.Tests.{ltb-false, le-ltb}
use Rattle.brep.specs.declared.Edge.{Edge}
use Rattle.brep.specs.Rows.{Tables}
use Rattle.options.specs.declared.Mode.{Mode}
use Rattle.options.specs.declared.Options.{Options}
use Rattle.std.proofs.lemmas.Bool.{or_parts}
use Rattle.edge_params.proofs.Work.{within_roomier}
use Rattle.draw_spec.specs.Repair.{Got}
use Rattle.draw_spec.specs.Draw.{local_options, referenced, room_of, too_short, drawn}
use Rattle.draw_spec.proofs.Accepted.{accepts, accepted_so}

module _ (first second first' second' : ℕ) (h : first ≤ first') (k : second ≤ second') where
  room_grows : room_of first second ≤ room_of first' second'
  unfolding room_of
  room_grows = omega arith

  still_long : too_short first second ≡ false → too_short first' second' ≡ false
  still_long q =
      let s = or_parts (ltb first 8) (ltb second 8) q in
      let p = ltb-false first 8 s.0 in
      let w = ltb-false second 8 s.1 in
      rw (le-ltb first' 8 (omega arith), le-ltb second' 8 (omega arith))

  -- a chain answered with two buffers is answered with any two that are no shorter
  pub roomier : (mode : Mode) (t : Tables) (e : Edge) (o : Options) (g : Got) → drawn mode t e o first second ≡ Ok g → drawn mode t e o first' second' ≡ Ok g
  roomier mode t e o g q =
      let a = accepts mode t e o first second g q in
      accepted_so mode t e o first' second' g (record {
        accepted = a.accepted;
        long = still_long a.long;
        made = within_roomier (room_of first second) (room_of first' second') room_grows (referenced mode t e (local_options t e o)) g a.made;
      })
