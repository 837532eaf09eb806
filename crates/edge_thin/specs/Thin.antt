-- `thin`: the flags of the spans, the segment floor, and the samples that are kept. Definitions only.
use Rattle.std.specs.Prelude.{Bool, true, false, cond, not, ◌||◌, List, [], ◌∷◌, ◌++◌, ℕ, zero, suc, count_by, ◌-◌, ◌*◌, ◌/◌, min, max, length, ltb, Float, Ok}
use Rattle.std.specs.Float.Ieee.{lt}
use Rattle.arith.specs.Notation.{plus_zero}
use Rattle.edge_record.specs.declared.Sample.{Sample}
use Rattle.edge_record.specs.Chain.{sample_point}
use Rattle.edge_thin_mark.specs.Spans.{marks, flagged}
use Rattle.refusal.specs.Answer.{Answer, each}

-- how many flags are set
unfoldable pub flag_count : List Bool → ℕ
flag_count keep = count_by (λ kept. kept) keep

-- the i-th of `want` indexes at even steps over n points
abbrev pub even_at : ℕ → ℕ → ℕ → ℕ
even_at n want i = i * (n - 1) / max (want - 1) 1

-- the first i indexes at even steps
unfoldable pub evens : ℕ → ℕ → ℕ → List ℕ
evens n want zero = []
evens n want (suc i) = evens n want i ++ (even_at n want i ∷ [])

-- the segment floor: where fewer flags than `want` are set, those at even steps are set too
unfoldable pub restored : ℕ → List Bool → List Bool
restored want keep = cond (ltb (flag_count keep) want) (marks keep (evens (length keep) want want)) keep

-- the segment floor of `floor` flags, or of all where there are fewer
abbrev pub with_floor : ℕ → List Bool → List Bool
with_floor floor keep = restored (min floor (length keep)) keep

-- retain: the samples whose flags are set
unfoldable pub retained_by : List Bool → List Sample → List Sample
retained_by [] l = []
retained_by (b ∷ keep) [] = []
retained_by (true ∷ keep) (s ∷ l) = s ∷ retained_by keep l
retained_by (false ∷ keep) (s ∷ l) = retained_by keep l

-- thin: every sample of a chain of under three, or for a tolerance that is not above zero; else those whose flags are set, or refusal 9
unfoldable pub thinned : Float → Float → ℕ → List Sample → Answer (List Sample)
thinned tolerance angle floor l =
    cond (ltb (length l) 3 || not (lt plus_zero tolerance)) (Ok l)
    (each (λ keep. retained_by (with_floor floor keep) l) (flagged (sample_point l) tolerance angle (length l)))
