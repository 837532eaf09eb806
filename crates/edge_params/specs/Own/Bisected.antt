-- The list that bisection comes to where nothing that it asks for is too far. Definitions only.
use Rattle.std.specs.Prelude.{◌≡◌, ℕ, zero, suc, Bool, true, false, List, [], ◌∷◌, ◌++◌, Float}
use Rattle.math.specs.declared.Interval.{Interval}
use Rattle.edge_params.specs.Work.{some_far}
use Rattle.edge_params.specs.Params.{midpoint, Move, asks, adds, asked, Sampler, breaks_along, unless_hi, bisecting}

-- the parameters that moves add
unfoldable pub added : List Move → List Float
added [] = []
added (asks t ∷ moves) = added moves
added (adds t ∷ moves) = t ∷ added moves

-- what `subdividing` adds between a and b
unfoldable pub subdivided : (Float → Float → Bool) → ℕ → Float → Float → List Float
subdivided within zero a b = []
subdivided within (suc depth) a b =
    elim (within a b) [
      | true ↦ []
      | false ↦ subdivided within depth a (midpoint a b) ++ midpoint a b ∷ subdivided within depth (midpoint a b) b
    ]

-- what `walking` adds from left on
unfoldable pub walked : Sampler → Interval → Float → List Float → List Float
walked s range left [] = []
walked s range left (b ∷ bs) = subdivided s.within s.depth left b ++ (unless_hi range b ++ walked s range b bs)

-- range.lo, what the loop adds, range.hi
unfoldable pub through : Sampler → Interval → List Float → List Float
through s range breaks = range.lo ∷ (walked s range range.lo (breaks ++ (range.hi ∷ [])) ++ (range.hi ∷ []))

-- what `bisecting` adds
abbrev pub bisected : Sampler → Interval → List Float
bisected s range = through s range (breaks_along s range)

-- nothing that sampling without a closed form asks for is too far: neither in thinning the breaks, nor in bisection
abbrev pub NothingFar : Sampler → Interval → Type 0
NothingFar s range = (some_far s.far s.break_asks ≡ false) × (some_far s.far (asked (bisecting s range)) ≡ false)
