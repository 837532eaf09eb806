-- The run that a row's two numbers name. Definitions only.
use Rattle.std.specs.Prelude.{List, ℕ, ◌+◌, ◌*◌, get_or}
use Rattle.brep.specs.declared.Run.{Run}

-- of curve row i: its points, or its segments
abbrev pub run_at : List ℕ → ℕ → Run
run_at curves i = record { first = get_or curves (i * 3 + 1) 0; count = get_or curves (i * 3 + 2) 0 }
