-- The spans of `thin`: which points of a chain are kept, or refusal 9. Definitions only.
use Rattle.std.specs.Prelude.{Bool, true, false, List, [], ◌∷◌, ◌++◌, ℕ, zero, suc, ◌-◌, set, replicate, Float, Option, Some, None, Err, Ok}
use Rattle.math.specs.declared.Vec3.{Vec3}
use Rattle.edge_thin_span.specs.Span.{decision}
use Rattle.refusal.specs.Answer.{Answer, each, both}

-- what follows of a decision about a span: nothing where it is left, what a split at an index gives, or the refusal
abbrev pub by_split : Answer (Option ℕ) → (ℕ → Answer (List ℕ)) → Answer (List ℕ)
by_split (Ok None) f = Ok []
by_split (Ok (Some w)) f = f w
by_split (Err n) f = Err n

-- the indexes kept between a and b, a span of at most n segments: where it is split, that index, then those of its two parts
unfoldable pub kept_in : (ℕ → ℕ → Answer (Option ℕ)) → ℕ → ℕ → ℕ → Answer (List ℕ)
kept_in decide zero a b = Ok []
kept_in decide (suc n) a b =
    by_split (decide a b) (λ w. both (λ l r. w ∷ l ++ r) (kept_in decide n a w) (kept_in decide n w b))

-- the indexes kept between a and b
abbrev pub kept : (ℕ → ℕ → Answer (Option ℕ)) → ℕ → ℕ → Answer (List ℕ)
kept decide a b = kept_in decide (b - a) a b

-- the flags of a list of indexes set
abbrev pub marks : List Bool → List ℕ → List Bool
marks keep [] = keep
marks keep (i ∷ l) = marks (set keep i true) l

-- keep: a flag for each of n points, set for the first, the last and those that the spans keep
unfoldable pub flagged : (ℕ → Vec3) → Float → Float → ℕ → Answer (List Bool)
flagged points tolerance angle n =
    each (marks (set (set (replicate n false) 0 true) (n - 1) true)) (kept (decision points tolerance angle) 0 (n - 1))
