-- `orient` meets its contract. Assumes nothing.
use mathlib.Core.Path.{refl, sym}
use native.Mathlib.Omega.{arith}
use Prim.Native.Nat.{◌/◌}
use lib.ListN.{length}
use Rattle.brep.specs.Rows.{Tables}
use Rattle.edge_record.specs.Chain.{width}
use Rattle.edge_place.proofs.Laws.{runs_back, runs_on}
use Rattle.edge_place.proofs.orient.Goals as goal

pub returns-then-runs_back : goal.returns-then-runs_back
returns-then-runs_back c = λ (T : Tables) s e.
    let st = c in
    let a = st.args in
    runs_back T a.edge a.records.now (length a.records.now / width) (omega (arith, st.requires))
    (rw (sym st.record_point-head.ensures, sym st.record_point-tail.ensures) (c.runs_back.ensures T s e)) c.if-runs_back.true c.turn.ensures

pub returns-else-runs_back : goal.returns-else-runs_back
returns-else-runs_back c = λ (T : Tables) s e.
    let st = c in
    let a = st.args in
    runs_on T a.edge a.records.now (length a.records.now / width) (omega (arith, st.requires))
    (rw (sym st.record_point-head.ensures, sym st.record_point-tail.ensures) (c.runs_back.ensures T s e)) c.if-runs_back.false refl
