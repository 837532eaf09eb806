-- `replay_text::Waiting::put_byte` meets its contract. Assumes nothing.
use Rattle.std.proofs.Common.{◌≡◌, ap, sym, ◌∙◌, ◌<◌, length, arith, length-take-le}
use Rattle.replay_text.proofs.Puts.{put_room, put_alone}
use Rattle.replay_text.proofs.Waiting.put_byte.Goals as goal
use Rattle.replay_text.proofs.Waiting.put_byte.Goals.{then-self-eq-ROOM, else-self-eq-ROOM}

pub returns : goal.returns
returns c =
    let s = c.self in
    let t = c.self-2 in
    let full : length c.args.self.now ≡ s.inside.len = sym (ap length s.view_is) ∙ length-take-le s.inside.len s.inside.bytes (omega arith) in
    let here : length c.if-self-eq-ROOM.self ≡ t.inside.len = sym (ap length t.view_is) ∙ length-take-le t.inside.len t.inside.bytes (omega arith) in
    elim c.if-self-eq-ROOM.branch [
      | then-self-eq-ROOM w ↦
          let e = w.self-is ∙ w.flush.ensures in
          let none = ap length e in
          put_alone c.args.b t.inside.len t.inside.bytes _ t.view_is (omega arith) c.args.self.now e (omega arith)
      | else-self-eq-ROOM w ↦
          let same = ap length w.self-is in
          let few : t.inside.len < 4096 = omega (arith, s.invariant) in
          rw w.self-is at (put_room c.args.b t.inside.len t.inside.bytes _ t.view_is (omega arith) few)
    ]
