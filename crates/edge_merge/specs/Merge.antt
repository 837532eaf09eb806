-- The merge block of `discretise`: a point that is no further than the floor from the last one kept goes, the ends never. Definitions only.
use Rattle.std.specs.Prelude.{cond, ◌&&◌, length, T, ltb, Float}
use mathlib.Core.List.{List, [], ◌∷◌, ◌++◌, drop_last}
use Rattle.std.specs.Float.Ieee.{lt, le}
use Rattle.arith.specs.Notation.{◌⊗◌, plus_zero, half}
use Rattle.arith.specs.Constants.{four}
use Rattle.arith.specs.Pick.{min_of, max_of}
use Rattle.math.specs.declared.Vec3.{Vec3}
use Rattle.math.specs.Math.{distance}
use Rattle.edge_record.specs.declared.Sample.{Sample}
use Rattle.edge_record.specs.Chain.{last_of}

-- MERGE_TOLERANCES, MERGE_SAG
abbrev pub merge_tolerances : Float
merge_tolerances = four

abbrev pub merge_sag : Float
merge_sag = half

-- the merge floor
unfoldable pub merge_floor : Float → Float → Float
merge_floor tolerance sag = min_of (max_of tolerance plus_zero ⊗ merge_tolerances) (sag ⊗ merge_sag)

-- the loop over the points between the ends: those further than the floor from the last one kept, which is `last` at first
unfoldable pub spaced : Float → Vec3 → List Sample → List Sample
spaced floor last [] = []
spaced floor last (p ∷ l) =
    cond (lt floor (distance p.point last)) (p ∷ spaced floor p.point l) (spaced floor last l)

-- after the loop: where the end is too close to the last one kept, that one goes, unless it is the only one
unfoldable pub with_end : Float → Sample → List Sample → Sample → List Sample
with_end floor first kept end =
    cond (le (distance end.point (last_of first kept).point) floor && ltb 1 (length kept)) (drop_last kept) kept
    ++ (end ∷ [])

-- the whole block
unfoldable pub merged : Float → List Sample → List Sample
merged floor [] = []
merged floor (first ∷ l) =
    cond (lt plus_zero floor && ltb 2 (length (first ∷ l)))
    (with_end floor first (first ∷ spaced floor first.point (drop_last l)) (last_of first l))
    (first ∷ l)

-- the clause of the merge floor: each point further than the floor from the one before it
pub data Apart (floor : Float) : List Sample → Type 0 where
  none : Apart floor []
  one : {p : Sample} → Apart floor (p ∷ [])
  next : {p q : Sample} {l : List Sample} → T (lt floor (distance q.point p.point)) → Apart floor (q ∷ l) → Apart floor (p ∷ q ∷ l)
