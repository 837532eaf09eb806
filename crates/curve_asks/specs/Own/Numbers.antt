-- Which segments of a run may ask, by the rows' numbers alone; that this is what `may_ask` says of the curves is shown in proofs/Laws.antt.
-- Definitions only.
use Rattle.std.specs.Prelude.{Bool, not, ◌&&◌, ◌||◌, List, ℕ, ◌*◌, get_or, Float}
use Rattle.std.specs.List.{list_any, range_with_len}
use Rattle.brep.specs.Rows.{segment_of}
use Rattle.curve_nests.specs.Own.Numbers.{refers_to, some_refers}
use Rattle.curve_asks.specs.Own.Risk.{is_calm, some_hyperbola}

-- segment i, which row refers to, is a hyperbola over a range that is not calm
abbrev pub is_risky : List ℕ → List ℕ → List Float → ℕ → ℕ → Bool
is_risky curves parts ranges row i =
    refers_to 8 curves row (get_or parts (i * 2) 0) && not (is_calm (segment_of parts ranges i).range)

-- one of n segments from number first on is; or one of them is a composite, where some row is a hyperbola's
abbrev pub run_may_ask : List ℕ → List ℕ → List Float → ℕ → ℕ → ℕ → Bool
run_may_ask curves parts ranges row first n =
    list_any (is_risky curves parts ranges row) (range_with_len first n)
    || (some_refers curves parts row first n && some_hyperbola curves)
