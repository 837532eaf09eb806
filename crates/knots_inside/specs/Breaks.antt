-- The breaks inside a range: `inside` of knots.rs. Definitions only.
use Rattle.std.specs.Prelude.{◌≡◌, Bool, true, false, cond, ◌&&◌, List, [], ◌∷◌, filter, Float}
use Rattle.std.specs.Float.Ieee.{lt, le}
use Rattle.std.specs.Float.Ieee.Scale.{finite}
use Rattle.arith.specs.Notation.{◌⊕◌, ◌⊖◌, ◌⊗◌, plus_zero}
use Rattle.arith.specs.Constants.{billionth}
use Rattle.arith.specs.Pick.{abs_of}
use Rattle.knots_sort.specs.Sort.{sorted}

-- k.is_finite() && *k > above && *k < below
abbrev pub is_strict : Float → Float → Float → Bool
is_strict above below k = finite k && (lt above k && lt k below)

-- retain: the knots strictly between two bounds
unfoldable pub retained_knots : Float → Float → List Float → List Float
retained_knots above below knots = filter (is_strict above below) knots

-- (a - b).abs() <= epsilon
abbrev pub is_near : Float → Float → Float → Bool
is_near epsilon a b = le (abs_of (a ⊖ b)) epsilon

-- dedup_by: those that are not near the last one kept
unfoldable pub apart : Float → Float → List Float → List Float
apart epsilon last [] = []
apart epsilon last (k ∷ l) =
    elim (is_near epsilon k last) [ true ↦ apart epsilon last l | false ↦ k ∷ apart epsilon k l ]

-- dedup_by: the first is kept
unfoldable pub deduped : Float → List Float → List Float
deduped epsilon [] = []
deduped epsilon (k ∷ l) = k ∷ apart epsilon k l

-- the knots that pass the test of `inside` for lying between lo and hi, lo being the smaller, in their own order, none merged
unfoldable pub passing_upward : List Float → Float → Float → List Float
passing_upward knots lo hi =
    let width = hi ⊖ lo in
    let epsilon = width ⊗ billionth in
    cond (lt plus_zero width) (retained_knots (lo ⊕ epsilon) (hi ⊖ epsilon) knots) []

-- the same of a range that may run backwards
unfoldable pub passing_knots : List Float → Float → Float → List Float
passing_knots knots lo hi = cond (le lo hi) (passing_upward knots lo hi) (passing_upward knots hi lo)

-- inside, where lo is at most hi
unfoldable pub inside_upward : List Float → Float → Float → List Float
inside_upward knots lo hi =
    let width = hi ⊖ lo in
    let epsilon = width ⊗ billionth in
    cond (lt plus_zero width) (deduped epsilon (sorted (retained_knots (lo ⊕ epsilon) (hi ⊖ epsilon) knots))) []

-- inside: the distinct knots strictly between lo and hi, in order
unfoldable pub inside_of : List Float → Float → Float → List Float
inside_of knots lo hi = cond (le lo hi) (inside_upward knots lo hi) (inside_upward knots hi lo)

-- the test is that of `inside`: what it sorts and merges is what passes (`inside_passing` in proofs/Kept.antt)
abbrev pub InsidePassing : Type 0
InsidePassing =
    (knots : List Float) (lo hi : Float) → inside_upward knots lo hi ≡ deduped ((hi ⊖ lo) ⊗ billionth) (sorted (passing_upward knots lo hi))
