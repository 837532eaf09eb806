-- The parameters of an edge: sample_params and subdivide of edge.rs, over what they ask of the curve. Definitions only.
use Rattle.std.specs.Prelude.{ℕ, zero, suc, ◌-◌, Bool, true, false, List, [], ◌∷◌, ◌++◌, map, reverse, length, nat_lt, Float, Option, None, Some, Err}
use Rattle.std.specs.Float.Ieee.{lt, ne}
use Rattle.arith.specs.Notation.{◌⊕◌, ◌⊗◌, ◌⊘◌, count, half}
use Rattle.math.specs.declared.Interval.{Interval}
use Rattle.math.specs.Math.{at}
use Rattle.edge_params.specs.Work.{Work, joins, ends, done, forms, and_then, asking}
use Rattle.refusal.specs.Answer.{each}
use Rattle.refusal.specs.declared.Refusal.TheVariants.{TooFar}

-- ---- subdivide of edge.rs
-- 0.5 * (a + b)
abbrev pub midpoint : Float → Float → Float
midpoint a b = half ⊗ (a ⊕ b)

-- what bisection does, a move at a time
pub data Move : Type 0 where
  -- it asks for the curve's point or derivative at a parameter
  asks : Float → Move
  -- a parameter joins its list
  adds : Float → Move

-- the parameters that moves ask for
unfoldable pub asked : List Move → List Float
asked [] = []
asked (asks t ∷ moves) = t ∷ asked moves
asked (adds t ∷ moves) = asked moves

-- subdivide between a and b, over the test that a span is within budget. (The tangents at a and b ask for nothing new.)
unfoldable pub subdividing : (Float → Float → Bool) → ℕ → Float → Float → List Move
subdividing within zero a b = []
subdividing within (suc depth) a b =
    asks a ∷ asks b ∷ asks (midpoint a b) ∷
    elim (within a b) [
      | true ↦ []
      | false ↦ subdividing within depth a (midpoint a b) ++ adds (midpoint a b) ∷ subdividing within depth (midpoint a b) b
    ]

-- the list that such moves form, behind the first k of it; the work ends with 11 at a parameter that is too far
unfoldable pub forming : (Float → Bool) → ℕ → List Move → Work (List Float)
forming far k [] = done []
forming far k (asks t ∷ moves) =
    elim (far t) [
      | true ↦ ends (Err TooFar)
      | false ↦ forming far k moves
    ]
forming far k (adds t ∷ moves) =
    let w = forming far (suc k) moves in
    record { acts = joins (suc k) t ∷ w.acts; end = each (λ l. t ∷ l) w.end }

-- ---- sample_params of edge.rs
-- what it asks of the curve and the options
pub record Sampler : Type 0 where
  -- analytic_segments
  pub closed : Option ℕ
  -- worst <= options.sag, of the closed form's list
  pub meets : List Float → Bool
  -- deviation <= options.sag && turn <= options.angle, of a span
  pub within : Float → Float → Bool
  -- options.max_depth
  pub depth : ℕ
  -- options.min_edge_segments
  pub least : ℕ
  -- thin_breaks of the curve's breaks
  pub breaks : List Float
  -- the parameters at which thin_breaks asks for the curve's points
  pub break_asks : List Float
  -- the curve may not be asked for this parameter: it would ask a hyperbola for one beyond 100 in magnitude
  pub far : Float → Bool

-- range.at(i as f64 / n as f64)
abbrev pub step_at : Interval → ℕ → ℕ → Float
step_at range n i = at range (count i ⊘ count n)

-- range.at(i as f64 / n as f64), for each i below k
unfoldable pub steps : Interval → ℕ → ℕ → List Float
steps range n zero = []
steps range n (suc k) = steps range n k ++ (step_at range n k ∷ [])

-- (0..=n).map(|i| range.at(i as f64 / n as f64))
abbrev pub evenly : Interval → ℕ → List Float
evenly range n = steps range n (suc n)

-- the breaks, the range's own way round
unfoldable pub breaks_along : Sampler → Interval → List Float
breaks_along s range =
    elim (lt range.hi range.lo) [
      | true ↦ reverse s.breaks
      | false ↦ s.breaks
    ]

-- `if b != range.hi { out.push(b) }`
unfoldable pub unless_hi : Interval → Float → List Float
unless_hi range b =
    elim (ne b range.hi) [
      | true ↦ b ∷ []
      | false ↦ []
    ]

-- the loop over the breaks and range.hi, from left on
unfoldable pub walking : Sampler → Interval → Float → List Float → List Move
walking s range left [] = []
walking s range left (b ∷ bs) =
    subdividing s.within s.depth left b ++ (map adds (unless_hi range b) ++ walking s range b bs)

-- bisection between the breaks: range.lo, the loop, range.hi
unfoldable pub bisecting : Sampler → Interval → List Move
bisecting s range =
    adds range.lo ∷ (walking s range range.lo (breaks_along s range ++ (range.hi ∷ [])) ++ (adds range.hi ∷ []))

-- the segment floor: even steps where a list has fewer segments
unfoldable pub floored : Sampler → Interval → List Float → Work (List Float)
floored s range out =
    elim (nat_lt (length out - 1) s.least) [
      | true ↦ forms (evenly range s.least)
      | false ↦ done out
    ]

-- the way of a curve that has no closed form, or whose closed form leaves the curve by more than the sag
unfoldable pub refined : Sampler → Interval → Work (List Float)
refined s range = asking s.far s.break_asks (and_then (forming s.far 0 (bisecting s range)) (floored s range))

-- sample_params: the lists that it forms, and the parameters that it comes to. (A curve that has a closed form asks no hyperbola for anything:
-- `ClosedNeverFar` in crates/edge_sample/specs/Claims.antt. So what the check of that form asks for is left out.)
unfoldable pub sample_params : Sampler → Interval → Work (List Float)
sample_params s range =
    elim s.closed [
      | None ↦ refined s range
      | Some n ↦ and_then (forms (evenly range n)) (λ l. elim (s.meets l) [ true ↦ done l | false ↦ refined s range ])
    ]
