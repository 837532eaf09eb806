-- A list of parameters and the curve's records at them, put together from their parts. Assumes nothing.
use Rattle.std.specs.Prelude.{Option, ℕ, Some, None}
use mathlib.Core.Path.{◌≡◌, refl, sym, ap, subst, ◌∙◌}
use mathlib.Core.List.{List, [], ◌∷◌, ◌++◌}
use Prim.Native.Nat.{ℕ, ◌+◌, ◌*◌, ◌≤◌}
use native.Mathlib.Omega.{arith}
use lib.ListN.{length}
use lib.Seq.{sets, length-sets}
use lib.Ieee.{Float}
use Rattle.base_lists.proofs.Stores.{sets_append}
use Rattle.brep.specs.Tree.{CurveTree}
use Rattle.edge_params.specs.Own.Written.{ListAppended}
use Rattle.edge_params.proofs.Written.{sets_out, written_length, behind_none, behind_room, behind_count, behind_full, behind_refused, behind_then}
use Rattle.edge_record.specs.declared.Sample.{Sample}
use Rattle.edge_record.specs.Chain.{width, row, flat}
use Rattle.edge_record.proofs.Laws.{flat_append, length_flat}
use Rattle.edge_closed_form.specs.Located.{located}
use Rattle.edge_closed_form.proofs.Located.{located_length, located_append}
use Rattle.edge_subdivide.specs.declared.End.{End}
use Rattle.edge_subdivide.specs.Bisect.{end_at}
use Rattle.edge_subdivide.specs.declared.recorder.Recorder.{Recorder}
use Rattle.edge_subdivide.specs.Own.Recorded.{Room}
use Rattle.edge_subdivide.specs.Own.Recorder.{count_if, Pushes, Records}

-- ---- one end, as push leaves it
module _ {out chain : List Float} {k : ℕ} (room : Room out chain k) (x : Float) {w : Option ℕ} (out' : List Float) (h : ListAppended out k (x ∷ []) w out') where
  pub one_as : (v : Option ℕ) → w ≡ v → ListAppended out k (x ∷ []) v out'
  one_as v e = subst (λ (q : Option ℕ). ListAppended out k (x ∷ []) q out') e h

  pub one_full : w ≡ None → (s : Sample) → chain ≡ sets chain (width * k) (row s)
  one_full e s = sym (sets_out chain (width * k) (row s) (omega (arith, room.wide, behind_full out k (x ∷ []) out' h room.taken e)))

  pub one_fits : (n : ℕ) → w ≡ Some n → width * k + width ≤ length chain
  one_fits n e =
      omega (arith, room.wide, behind_room out k (x ∷ []) out' h n e, written_length h, behind_count out k (x ∷ []) out' h room.taken n e)

  pub one_room : (n : ℕ) → w ≡ Some n → (s : Sample) {chain' : List Float} → chain' ≡ sets chain (width * k) (row s) → Room out' chain' n
  one_room n e s same = record {
    taken = behind_room out k (x ∷ []) out' h n e;
    wide = ap length same ∙ length-sets chain (width * k) (row s) ∙ room.wide ∙ ap (λ (j : ℕ). width * j) (sym (written_length h));
  }

module _ (c : CurveTree) where
  pub records_none : (to : Recorder) → Records c [] (Some tt) to to
  unfolding located flat
  records_none to = record {
    same = record { params = refl; chain = refl };
    recorded = record { listed = behind_none to.params.now to.len to.room.taken; records = refl };
  }

  pub records_one : (m : End) → m ≡ end_at c m.t → {w : Option (Unit {0})} {old new : Recorder} → Pushes m w old new → Records c (m.t ∷ []) w old new
  unfolding located flat end_at
  records_one m own {old = old} p = record {
    same = p.same;
    recorded = record {
      listed = p.listed;
      records = p.records ∙ ap (λ (n : End). sets old.chain.now (width * old.len) (row (record { point = n.point; param = m.t }))) own;
    };
  }

  module _ {a : List Float} {w : Option (Unit {0})} {old mid : Recorder} (h : Records c a w old mid) where
    -- a front, and what is stored behind it
    records_more : (b : List Float) → sets old.chain.now (width * old.len) (flat (located c (a ++ b))) ≡ sets mid.chain.now (width * (old.len + length a)) (flat (located c b))
    records_more b =
        let n : width * old.len + length (flat (located c a)) ≡ width * (old.len + length a) = omega (arith, length_flat (located c a), located_length c a) in
        ap (λ (l : List Sample). sets old.chain.now (width * old.len) (flat l)) (located_append c a b)
        ∙ ap (sets old.chain.now (width * old.len)) (flat_append (located c a) (located c b))
        ∙ sets_append old.chain.now (width * old.len) (flat (located c a)) (flat (located c b))
        ∙ ap (λ (l : List Float). sets l (width * old.len + length (flat (located c a))) (flat (located c b))) (sym h.recorded.records)
        ∙ ap (λ (i : ℕ). sets mid.chain.now i (flat (located c b))) n

    counts : (v : Option (Unit {0})) → w ≡ v → count_if w mid.len ≡ count_if v mid.len
    counts v e = ap (λ (u : Option (Unit {0})). count_if u mid.len) e

    pub records_refused : w ≡ None → (b : List Float) → Records c (a ++ b) None old mid
    records_refused e b = record {
      same = h.same;
      recorded = record {
        listed = behind_refused old.params.now old.len a mid.params.now h.recorded.listed (counts None e) b;
        records =
            let full = behind_full old.params.now old.len a mid.params.now h.recorded.listed old.room.taken (counts None e) in
            sym (records_more b ∙ sets_out mid.chain.now (width * (old.len + length a)) (flat (located c b)) (omega (arith, full, mid.room.wide, written_length h.recorded.listed)));
      };
    }

    pub records_then : w ≡ Some tt → (b : List Float) {v : Option (Unit {0})} {new : Recorder} → Records c b v mid new → Records c (a ++ b) v old new
    records_then e b g = record {
      same = record { params = g.same.params ∙ h.same.params; chain = g.same.chain ∙ h.same.chain };
      recorded = record {
        listed = behind_then old.params.now old.len a mid.params.now h.recorded.listed mid.len (counts (Some tt) e) b g.recorded.listed;
        records =
            g.recorded.records
            ∙ ap (λ (i : ℕ). sets mid.chain.now (width * i) (flat (located c b))) (behind_count old.params.now old.len a mid.params.now h.recorded.listed old.room.taken mid.len (counts (Some tt) e))
            ∙ sym (records_more b);
      };
    }

  -- a list, one more, and another list: the ways in which code that puts the three one after the other comes out
  module _ (front : List Float) (x : Float) (back : List Float) {whole : List Float} (all : front ++ x ∷ back ≡ whole)
      {w₁ : Option (Unit {0})} {old first : Recorder} (h : Records c front w₁ old first) where
    pub front_refused : w₁ ≡ None → Records c whole None old first
    front_refused z = subst (λ (l : List Float). Records c l None old first) all (records_refused h z (x ∷ back))

    module _ (N : w₁ ≡ Some tt) {w₂ : Option (Unit {0})} {second : Recorder} (g : Records c (x ∷ []) w₂ first second) where
      joined : {w : Option (Unit {0})} {new : Recorder} → Records c (x ∷ back) w first new → Records c whole w old new
      joined {w} {new} f = subst (λ (l : List Float). Records c l w old new) all (records_then h N (x ∷ back) f)

      pub one_refused : w₂ ≡ None → Records c whole None old second
      one_refused z = joined (records_refused g z back)

      pub all_three : w₂ ≡ Some tt → {w : Option (Unit {0})} {new : Recorder} → Records c back w second new → Records c whole w old new
      all_three M f = joined (records_then g M back f)
