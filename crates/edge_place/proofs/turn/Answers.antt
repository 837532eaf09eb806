-- `turn` meets its contract. The loop's invariant: the first i records and the last i are exchanged. Assumes nothing.
use mathlib.Core.Path.{refl, ap, ◌∙◌}
use mathlib.Core.List.{List}
use Prim.Native.Nat.{◌-◌, ◌/◌}
use native.Mathlib.Omega.{arith}
use lib.ListN.{length, get_or, set}
use lib.Seq.{sets}
use Rattle.edge_record.specs.declared.Sample.{Sample}
use Rattle.edge_record.specs.Chain.{width, flat, sample_at}
use Rattle.edge_record.proofs.Laws.{samples_from-length}
use Rattle.edge_record.specs.Own.Records.{records_of}
use Rattle.edge_place.proofs.Records.{own_samples, exchanged}
use Rattle.edge_place.proofs.Turned.{turned_none, turned_more, turned_all}
use Rattle.edge_place.proofs.turn.Goals as goal

pub loop-i-init : goal.loop-i-init
loop-i-init c = let a = c.args in (omega arith, refl, (records_of a.records.now, own_samples a.records.now (length a.records.now / width), turned_none _ _))

pub overflow_sub-n : goal.overflow_sub-n
overflow_sub-n c = omega arith

pub overflow_sub-n-in-loop-i : goal.overflow_sub-n-in-loop-i
overflow_sub-n-in-loop-i c = omega arith

pub swap-requires : goal.swap-requires
swap-requires c = (omega arith, omega arith)

pub loop-i-preserved : goal.loop-i-preserved
loop-i-preserved c =
    let st = c in
    let a = st.args in
    let l = c.loop-i in
    let t = l.invariant.2.2 in
    let n = samples_from-length a.records.now 0 (length a.records.now / width) in
    let d = sample_at a.records.now 0 in
    let m = l.invariant.2.0 in
    let j = length a.records.now / width - 1 - l.i in (
      omega arith,
      c.swap.auto.chain ∙ l.invariant.1,
      (
        set (set m l.i (get_or m j d)) j (get_or m l.i d),
        exchanged a.records.now l.records _ m l.i j d (omega (arith, t.same, n)) (omega (arith, t.same, n)) (omega (arith, t.same, n)) l.invariant.2.1 c.swap.ensures,
        turned_more t j (omega arith) (omega (arith, n)),
      ),
    )

pub returns : goal.returns
returns c =
    let a = c.args in
    let l = c.loop-i in
    l.invariant.2.1 ∙ ap (λ (k : List Sample). sets a.records.now 0 (flat k)) (turned_all l.invariant.2.2 (omega (arith, samples_from-length a.records.now 0 (length a.records.now / width))))
