-- The row that a row's trims lead down to. No definition of what a curve is, or of what is computed of it, cites this:
-- proofs/Under.antt shows that what looks through trims has the same value at both rows.
use Rattle.std.specs.Prelude.{cond, ◌&&◌, List, ℕ, zero, suc, ◌+◌, ◌*◌, get_or, eqb, ltb, Option, Some, None}

-- the base of a trim, where it lies lower
abbrev pub lower_base : List ℕ → ℕ → Option ℕ
lower_base curves row =
    let base = get_or curves (row * 3 + 1) 0 in
    cond (eqb (get_or curves (row * 3) 0) 6 && ltb base row) (Some base) None

-- at most n trims down
unfoldable pub down_by : ℕ → List ℕ → ℕ → ℕ
down_by zero curves row = row
down_by (suc n) curves row = elim (lower_base curves row) [ Some base ↦ down_by n curves base | None ↦ row ]

-- as far as the trims go: each step falls, so that there are no more of them than the row's number
abbrev pub under : List ℕ → ℕ → ℕ
under curves row = down_by row curves row
