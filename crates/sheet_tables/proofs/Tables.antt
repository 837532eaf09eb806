-- The room of the three tables. Assumes nothing.
use mathlib.Core.Path.{refl}
use mathlib.Core.List.{[], ◌∷◌}
use Prim.Native.Nat.{ℕ, ◌*◌, ◌≤◌}
use native.Mathlib.Omega.{arith}
use Rattle.sheet_layout.specs.Layout.{sheet_points, sheet_curves, sheet_segments}
use Rattle.sheet_layout.specs.declared.Column.TheVariants.{Float, Word, Kind}
use Rattle.sheet_row.specs.Rows.{is_float}
use Rattle.sheet_tables.specs.Own.Room.{least, column_count, short, Roomy}

-- a text of at most `size` bytes has no more rows than these
pub points_room : (w f : ℕ) → 3 * sheet_points ≤ f → Roomy (Float ∷ Float ∷ Float ∷ []) w f
unfolding is_float least column_count short
points_room w f h = record { some = omega arith; few = omega arith; slim = refl; wholes = λ n g. omega arith; floats = λ n g. omega arith }

pub curves_room : (w f : ℕ) → 3 * sheet_curves ≤ w → 2 * sheet_curves ≤ f → Roomy (Kind ∷ Word ∷ Word ∷ Float ∷ Float ∷ []) w f
unfolding is_float least column_count short
curves_room w f h i = record { some = omega arith; few = omega arith; slim = refl; wholes = λ n g. omega arith; floats = λ n g. omega arith }

pub segments_room : (w f : ℕ) → 2 * sheet_segments ≤ w → 2 * sheet_segments ≤ f → Roomy (Word ∷ Float ∷ Float ∷ Word ∷ []) w f
unfolding is_float least column_count short
segments_room w f h i = record { some = omega arith; few = omega arith; slim = refl; wholes = λ n g. omega arith; floats = λ n g. omega arith }
