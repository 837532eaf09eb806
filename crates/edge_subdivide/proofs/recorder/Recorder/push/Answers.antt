-- `edge_subdivide::Recorder::push` meets its contract. Assumes nothing.
use Rattle.std.specs.Prelude.{refl, Some, None}
use Rattle.edge_subdivide.proofs.Recorded.{one_as, one_full, one_fits, one_room}
use Rattle.edge_subdivide.proofs.recorder.Recorder.push.Goals as goal

pub returns-in_err-n : goal.returns-in_err-n
returns-in_err-n c =
    let room = c.args.self.now.room in
    let e = c.in_err-n.was in
    let h = c.push.ensures in
    rw c.from_residual.ensures record {
      same = record { params = refl; chain = refl };
      listed = one_as room c.args.end.t _ h None e;
      records = one_full room c.args.end.t _ h e _;
    }

pub put-requires : goal.put-requires
put-requires c = one_fits c.args.self.now.room c.args.end.t _ c.push.ensures _ c.in_ok-n.was

pub invariant_of-self-2 : goal.invariant_of-self-2
invariant_of-self-2 c =
    let end = c.args.end in
    record { room = one_room c.args.self.now.room end.t _ c.push.ensures _ c.in_ok-n.was (record { point = end.point; param = end.t }) c.put.ensures }

pub returns : goal.returns
returns c = record {
  same = record { params = refl; chain = refl };
  listed = one_as c.args.self.now.room c.args.end.t _ c.push.ensures (Some _) c.in_ok-n.was;
  records = c.put.ensures;
}
