-- What is put into a recorder. Definitions only.
use Rattle.std.specs.Prelude.{◌≡◌, ℕ, ◌*◌, List, [], ◌∷◌, Float, Option, Some, None}
use Rattle.std.proofs.lemmas.List.Edits.{sets}
use Rattle.brep.specs.Tree.{CurveTree}
use Rattle.edge_params.specs.Own.Written.{ListAppended}
use Rattle.edge_record.specs.Chain.{width, row}
use Rattle.edge_subdivide.specs.declared.End.{End}
use Rattle.edge_subdivide.specs.declared.recorder.Recorder.{Recorder}
use Rattle.edge_subdivide.specs.Own.Recorded.{ListRecorded}

-- how many there are, where they had room
abbrev pub count_if : Option (Unit {0}) → ℕ → Option ℕ
count_if None n = None
count_if (Some u) n = Some n

-- the same two buffers
pub record SameBuffers (old new : Recorder) : Type 0 where
  pub params : new.params.ghost_name ≡ old.params.ghost_name
  pub chain : new.chain.ghost_name ≡ old.chain.ghost_name

-- an end's parameter and its record were put behind what had been
pub record Pushes (end : End) (w : Option (Unit {0})) (old new : Recorder) : Type 0 where
  pub same : SameBuffers old new
  pub listed : ListAppended old.params.now old.len (end.t ∷ []) (count_if w new.len) new.params.now
  pub records : new.chain.now ≡ sets old.chain.now (width * old.len) (row (record { point = end.point; param = end.t }))

-- the parameters l and the curve's records at them were put behind what had been
pub record Records (c : CurveTree) (l : List Float) (w : Option (Unit {0})) (old new : Recorder) : Type 0 where
  pub same : SameBuffers old new
  pub recorded : ListRecorded c old.params.now old.chain.now old.len l (count_if w new.len) new.params.now new.chain.now
