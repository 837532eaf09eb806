-- Which rows are composites', by the rows' numbers alone; that this is what `nests` says of the curves is shown in proofs/Laws.antt. Definitions only.
use Rattle.std.specs.Prelude.{Bool, cond, ◌&&◌, List, ℕ, ◌*◌, get_or, eqb, ltb, Option, None}
use Rattle.std.specs.List.{list_any, range_with_len}
use Rattle.brep.specs.declared.Kind.{Kind}
use Rattle.brep.specs.Kind.{kind_at}
use Rattle.curve_parameter.specs.Own.Under.{under}

-- a row is a composite's, under any trims
abbrev pub composite_row : List ℕ → ℕ → Bool
composite_row curves row = eqb (get_or curves (under curves row * 3) 0) 7

-- the kind, under its trims, of what row refers to; none for a reference that does not fall
abbrev pub kind_below : List ℕ → ℕ → ℕ → Option Kind
kind_below curves row base = cond (ltb base row) (kind_at curves (under curves base)) None

-- what row refers to is of the kind with this number; a reference that does not fall is of none
abbrev pub refers_to : ℕ → List ℕ → ℕ → ℕ → Bool
refers_to kind curves row base = ltb base row && eqb (get_or curves (under curves base * 3) 0) kind

-- the curve of some of n segments from number first on is a composite
abbrev pub some_refers : List ℕ → List ℕ → ℕ → ℕ → ℕ → Bool
some_refers curves parts row first n =
    list_any (λ i. refers_to 7 curves row (get_or parts (i * 2) 0)) (range_with_len first n)
