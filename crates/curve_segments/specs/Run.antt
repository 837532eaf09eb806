-- The composite of a run of segment records, and that it is the same over flat numbers.
use Rattle.std.specs.Prelude.{◌≡◌, ℕ, zero, suc, List, [], ◌∷◌}
use Rattle.brep.specs.declared.Run.{Run}
use Rattle.brep.specs.declared.Segment.{Segment}
use Rattle.brep.specs.declared.Curve.TheVariants.{Composite}
use Rattle.brep.specs.Rows.{Tables}
use Rattle.brep.specs.Tree.{CurveTree, composite, Segments, none, segment, segment_in, row_in, below, tree}

-- a run of records as segments; f gives the curve of a row
unfoldable pub segments_of : (ℕ → CurveTree) → List Segment → Segments
segments_of f [] = none
segments_of f (s ∷ run) = segment (f s.curve) s.range s.same_sense (segments_of f run)

-- THE READING: the composite of a run of records that row refers to
abbrev pub composite_of : Tables → ℕ → List Segment → CurveTree
composite_of T row run = composite (segments_of (below T row) run)

-- the records of the tables' own segments, n of them from number first on
unfoldable pub records_in : Tables → ℕ → ℕ → List Segment
records_in T first zero = []
records_in T first (suc n) = segment_in T first ∷ records_in T (suc first) n

-- THE SAME OVER FLAT NUMBERS: where row is a composite of the tables, a run of its segments' records is read as the curve of that row
pub record SameOverFlat (T : Tables) (row : ℕ) (run : List Segment) : Type 0 where
  pub same : (own : Run) → row_in T row ≡ Composite own → run ≡ records_in T own.first own.count → composite_of T row run ≡ tree T row
