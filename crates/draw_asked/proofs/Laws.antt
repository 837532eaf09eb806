-- The statements of specs/Asked.antt. Assumes nothing.
use Rattle.std.specs.Prelude.{Some, None}
use mathlib.Core.Path.{◌≡◌, refl, sym, ap, ◌∙◌}
use mathlib.Core.Bool.{Bool, true, false, cond}
use mathlib.Core.List.{List, [], ◌∷◌, ◌++◌, map}
use mathlib.Core.Logic.{◌⊎◌, inl, inr}
use Prim.Native.Nat.{ℕ, zero, suc, ◌<◌}
use native.Mathlib.Nat.{eq-or-lt_of_le}
use native.Mathlib.Omega.{arith}
use lib.ListN.{get_or, get_or-append}
use lib.Seq.{get_or_at}
use lib.Ieee.{Float, nan, lt}
use Rattle.base_lists.specs.All.{All, none as nothing, more}
use Rattle.base_lists.proofs.Joined.{all_left, all_right}
use Rattle.arith.specs.Notation.{◌⊘◌, count, plus_zero}
use Rattle.arith.proofs.Constants.{constants}
use Rattle.arith_exp.specs.Exp.{cosh_of, sinh_of}
use Rattle.math.specs.declared.Vec3.{Vec3}
use Rattle.math.specs.declared.Aabb.{Aabb}
use Rattle.math.specs.declared.Interval.{Interval}
use Rattle.math.specs.Math.{v_finite, add_point, distance, at as along}
use Rattle.options.specs.declared.Mode.{Mode}
use Rattle.options.specs.declared.Resolved.{Resolved}
use Rattle.brep.specs.Tree.{CurveTree, analytic, line, circle, ellipse, parabola, hyperbola, polyline, trimmed, composite, Segments, none, segment}
use Rattle.curve.specs.Eval.{point_at, segment_point, natural_range}
use Rattle.curve_tangent.specs.Derivative.{derivative_at, segment_derivative}
use Rattle.curve_asks.specs.Asks.{asks_far, segment_asks_far}
use Rattle.knots_inside.specs.Thinned.{next_of, thinned_from, thin_breaks}
use Rattle.knots.specs.Knots.{deviation}
use Rattle.knots_breaks.specs.Breaks.{breaks_in}
use Rattle.knots_thin.specs.Thin.{deviation_asks, thin_asks, break_asks, thinning_asks}
use Rattle.edge_params.specs.Params.{Move, asks, adds, asked, midpoint, subdividing, step_at, steps}
use Rattle.edge_params.specs.Work.{some_far}
use Rattle.edge_params.proofs.Asks.{asked_append, some_far-first, asking_answers, forming_kept}
use Rattle.edge_params.proofs.Lists.{steps_length}
use Rattle.edge_record.specs.declared.Sample.{Sample}
use Rattle.edge_subdivide.specs.Bisect.{end_at, is_within, within_budget}
use Rattle.draw_spec.specs.Edge.{located, probed, extent_box}
use Rattle.draw_spec.specs.Repair.{sweep_at, nearest_of}
use Rattle.draw_spec.specs.Draw.{probes}
use Rattle.draw_asked.specs.Asked.{point_with, segment_point_with, derivative_with, segment_derivative_with, AnsweredNear, AgreeNear, NeedsNone, box_over, ProbesAsked, nearest_from, nearest_among, SweepAsked, worst_over, BreaksAsked, within_over, BisectionAsked}

-- ---- what is recorded
all_near : (far : Float → Bool) (ts : List Float) → some_far far ts ≡ false → All (λ t. far t ≡ false) ts
all_near far [] h = nothing
all_near far (t ∷ ts) h = let n = some_far-first far t ts h in more n.0 (all_near far ts n.1)

pub answered_near : AnsweredNear
answered_near = record {
  listed = λ far ts w a e. all_near far ts (asking_answers far ts w a e);
  moved = λ far k moves l e. all_near far (asked moves) (forming_kept far k moves l e);
}

-- ---- cosh and sinh
module _ (cosh sinh : Float → Float) (C : AgreeNear cosh cosh_of) (S : AgreeNear sinh sinh_of) where
  mutual
    unfolding point_with point_at asks_far

    point_same : (c : CurveTree) (t : Float) → asks_far c t ≡ false → point_with cosh sinh c t ≡ point_at c t
    point_same (analytic (line o d)) t h = refl
    point_same (analytic (circle f r)) t h = refl
    point_same (analytic (ellipse f a b)) t h = refl
    point_same (analytic (parabola f d)) t h = refl
    point_same (analytic (hyperbola f a b)) t h = rw (C t h, S t h)
    point_same (polyline ps) t h = refl
    point_same (trimmed base range) t h = point_same base t h
    point_same (composite ss) t h = segment_point_same ss _ _ h

    segment_point_same : (ss : Segments) (i : ℕ) (q : Float) → segment_asks_far ss i q ≡ false → segment_point_with cosh sinh ss i q ≡ segment_point ss i q
    segment_point_same none i q h = refl
    segment_point_same (segment c range same rest) zero q h = point_same c _ h
    segment_point_same (segment c range same rest) (suc i) q h = segment_point_same rest i q h

  mutual
    unfolding derivative_with derivative_at asks_far

    derivative_same : (c : CurveTree) (t : Float) → asks_far c t ≡ false → derivative_with cosh sinh c t ≡ derivative_at c t
    derivative_same (analytic (line o d)) t h = refl
    derivative_same (analytic (circle f r)) t h = refl
    derivative_same (analytic (ellipse f a b)) t h = refl
    derivative_same (analytic (parabola f d)) t h = refl
    derivative_same (analytic (hyperbola f a b)) t h = rw (C t h, S t h)
    derivative_same (polyline ps) t h = refl
    derivative_same (trimmed base range) t h = derivative_same base t h
    derivative_same (composite ss) t h = segment_derivative_same ss _ _ h

    segment_derivative_same : (ss : Segments) (i : ℕ) (q : Float) → segment_asks_far ss i q ≡ false
        → segment_derivative_with cosh sinh ss i q ≡ segment_derivative ss i q
    segment_derivative_same none i q h = refl
    segment_derivative_same (segment c range same rest) zero q h = rw (derivative_same c _ h)
    segment_derivative_same (segment c range same rest) (suc i) q h = segment_derivative_same rest i q h

pub needs_none : NeedsNone
needs_none = record { point = point_same; derivative = derivative_same }

-- ---- the probes
module _ (c : CurveTree) where
  -- one more parameter
  box_snoc : (b : Aabb) (l : List Float) (t : Float) →
      let p = point_at c t in let box = box_over b (map (point_at c) l) in box_over b (map (point_at c) (l ++ (t ∷ []))) ≡ cond (v_finite p) (add_point box p) box
  unfolding box_over
  box_snoc b [] t = refl
  box_snoc b (u ∷ l) t = box_snoc (cond (v_finite (point_at c u)) (add_point b (point_at c u)) b) l t

  probed_over : (range : Interval) (b : Aabb) (n : ℕ) → probed c range b n ≡ box_over b (map (point_at c) (steps range 8 n))
  unfolding probed box_over steps
  probed_over range b zero = refl
  probed_over range b (suc n) = rw (constants.is_eight, probed_over range b n, box_snoc b (steps range 8 n) (step_at range 8 n))

pub probes_asked : ProbesAsked
unfolding extent_box box_over probes
probes_asked = record {
  probed = λ c range b. probed_over c range b 9;
  box = λ c usable b. elim usable as (λ k. extent_box c k b ≡ box_over b (map (point_at c) (probes k))) [ Some range ↦ probed_over c range b 9 | None ↦ refl ];
}

-- ---- the sweep
steps_at : (range : Interval) (n k i : ℕ) → i < k → get_or (steps range n k) i nan ≡ step_at range n i
unfolding steps
steps_at range n zero i l = absurd (omega arith)
steps_at range n (suc k) i l = go (λ m. steps_at range n k i m) (eq-or-lt_of_le {n = i} {m = k} (omega arith))
  where
    go : (i < k → get_or (steps range n k) i nan ≡ step_at range n i) → (i ≡ k) ⊎ (i < k) → get_or (steps range n k ++ (step_at range n k ∷ [])) i nan ≡ step_at range n i
    go f (inl e) = get_or_at (steps range n k) (step_at range n k) [] nan i (steps_length range n k ∙ sym e) ∙ ap (step_at range n) (sym e)
    go f (inr m) = get_or-append (steps range n k) (step_at range n k ∷ []) nan i (rw (steps_length range n k) m) ∙ f m

sweep_step : (natural : Interval) (i : ℕ) → sweep_at natural i ≡ step_at natural 512 i
sweep_step natural i = ap (λ (x : Float). along natural (count i ⊘ x)) constants.is_five_twelve

-- the steps behind the first
module _ (range : Interval) (n : ℕ) where
  behind : ℕ → List Float
  behind zero = []
  behind (suc k) = behind k ++ (step_at range n (suc k) ∷ [])

  steps_behind : (k : ℕ) → steps range n (suc k) ≡ step_at range n 0 ∷ behind k
  unfolding steps behind
  steps_behind zero = refl
  steps_behind (suc k) = rw (steps_behind k)

module _ (c : CurveTree) (target : Vec3) where
  abbrev sample_at : Float → Sample
  sample_at t = record { point = point_at c t; param = t }

  abbrev nearer : Float → Float → Bool
  nearer t best = lt (distance (point_at c t) target) (distance (point_at c best) target)

  nearest_snoc : (best : Float) (l : List Float) (t : Float) →
      let b = nearest_from target (sample_at best) (located c l) in nearest_from target (sample_at best) (located c (l ++ (t ∷ []))) ≡ cond (nearer t b) t b
  unfolding nearest_from located
  nearest_snoc best [] t = go (nearer t best)
    where
      go : (v : Bool) → (cond v (sample_at t) (sample_at best)).param ≡ cond v t best
      go true = refl
      go false = refl
  nearest_snoc best (u ∷ l) t = go (nearest_snoc u l t) (nearest_snoc best l t) (nearer u best)
    where
      law : Sample → Type 0
      law s = let b = nearest_from target s (located c l) in nearest_from target s (located c (l ++ (t ∷ []))) ≡ cond (nearer t b) t b

      go : law (sample_at u) → law (sample_at best) → (v : Bool) → law (cond v (sample_at u) (sample_at best))
      go x y true = x
      go x y false = y

  nearest_over : (natural : Interval) (n : ℕ) → nearest_of c natural target n ≡ nearest_from target (sample_at (step_at natural 512 0)) (located c (behind natural 512 n))
  unfolding nearest_of nearest_from located behind
  nearest_over natural zero = sweep_step natural 0
  nearest_over natural (suc n) =
      rw (sweep_step natural (suc n), nearest_over natural n, nearest_snoc (step_at natural 512 0) (behind natural 512 n) (step_at natural 512 (suc n)))

  nearest_among_lem : (natural : Interval) (n : ℕ) → nearest_of c natural target n ≡ nearest_among target (located c (steps natural 512 (suc n)))
  unfolding nearest_among located
  nearest_among_lem natural n = nearest_over natural n ∙ ap (λ (l : List Float). nearest_among target (located c l)) (sym (steps_behind natural 512 n))

pub sweep_asked : SweepAsked
sweep_asked = record {
  step = λ natural i l. sweep_step natural i ∙ sym (steps_at natural 512 513 i (omega arith));
  nearest = λ c target. nearest_among_lem c target (natural_range c) 512;
}

-- ---- thin_breaks
span_over : (at : Float → Vec3) (a b : Float) → deviation at a b ≡ worst_over (map at (deviation_asks a b))
unfolding deviation worst_over
span_over at a b = refl

module _ (at real : Float → Vec3) where
  map_same : (l : List Float) → All (λ t. at t ≡ real t) l → map at l ≡ map real l
  map_same [] nothing = refl
  map_same (t ∷ l) (more e h) = rw (e, map_same l h)

  span_same : (a b : Float) → All (λ t. at t ≡ real t) (deviation_asks a b) → deviation at a b ≡ deviation real a b
  span_same a b h = span_over at a b ∙ ap worst_over (map_same (deviation_asks a b) h) ∙ sym (span_over real a b)

  module _ (sag hi : Float) where
    abbrev Same : Float → List Float → Type 0
    Same start bs = thinned_from (deviation at) sag hi start bs ≡ thinned_from (deviation real) sag hi start bs

    abbrev Asked : Float → List Float → Type 0
    Asked start bs = All (λ t. at t ≡ real t) (thin_asks (deviation real) sag hi start bs)

    -- a break stays, or not
    abbrev kept : (Float → Vec3) → Float → Float → List Float → Bool → List Float
    kept p start b bs v = elim v [ true ↦ b ∷ thinned_from (deviation p) sag hi b bs | false ↦ thinned_from (deviation p) sag hi start bs ]

    thinned_same : (start : Float) (bs : List Float) → Asked start bs → Same start bs
    unfolding thinned_from thin_asks
    thinned_same start [] h = refl
    thinned_same start (b ∷ bs) h =
        let next = next_of hi bs in
        ap (λ (x : Float). kept at start b bs (lt sag x)) (span_same start next (all_left (deviation_asks start next) _ h))
        ∙ go (thinned_same b bs) (thinned_same start bs) (lt sag (deviation real start next)) (all_right (deviation_asks start next) _ h)
      where
        go : (Asked b bs → Same b bs) → (Asked start bs → Same start bs) → (v : Bool)
            → All (λ t. at t ≡ real t) (elim v [ true ↦ thin_asks (deviation real) sag hi b bs | false ↦ thin_asks (deviation real) sag hi start bs ])
            → kept at start b bs v ≡ kept real start b bs v
        go f g true l = rw (f l)
        go f g false l = g l

breaks_same : (mode : Mode) (c : CurveTree) (at : Float → Vec3) (lo hi sag : Float) → All (λ t. at t ≡ point_at c t) (break_asks mode c lo hi sag)
    → thin_breaks (breaks_in mode c lo hi) lo hi sag (deviation at) ≡ thin_breaks (breaks_in mode c lo hi) lo hi sag (deviation (point_at c))
unfolding thin_breaks thinning_asks
breaks_same mode c at lo hi sag = go (lt plus_zero sag)
  where
    bs : List Float
    bs = breaks_in mode c lo hi

    thinned : (Float → Vec3) → Bool → List Float
    thinned p v = elim v [ true ↦ thinned_from (deviation p) sag hi lo bs | false ↦ bs ]

    go : (v : Bool) → All (λ t. at t ≡ point_at c t) (elim v [ true ↦ thin_asks (deviation (point_at c)) sag hi lo bs | false ↦ [] ])
        → thinned at v ≡ thinned (point_at c) v
    go true h = thinned_same at (point_at c) sag hi lo bs h
    go false h = refl

pub breaks_asked : BreaksAsked
breaks_asked = record { span = span_over; breaks = breaks_same }

-- ---- subdivide
within_over_lem : (c : CurveTree) (r : Resolved) (a b : Float) → within_budget c r a b ≡ within_over (point_at c) (derivative_at c) r a b
unfolding within_budget is_within end_at within_over
within_over_lem c r a b = refl

module _ (c : CurveTree) (at derivative : Float → Vec3) (r : Resolved) where
  abbrev Alike : Float → Type 0
  Alike t = (at t ≡ point_at c t) × (derivative t ≡ derivative_at c t)

  within_same : (a b : Float) → Alike a → Alike b → Alike (midpoint a b) → within_over at derivative r a b ≡ within_budget c r a b
  unfolding within_over within_budget is_within end_at
  within_same a b p q m = rw (p.0, p.1, q.0, q.1, m.0)

  -- what follows a span's test
  abbrev halves : (Float → Float → Bool) → ℕ → Float → Float → Bool → List Move
  halves within depth a b v = elim v [
    | true ↦ []
    | false ↦ subdividing within depth a (midpoint a b) ++ adds (midpoint a b) ∷ subdividing within depth (midpoint a b) b
  ]

  abbrev Asking : ℕ → Float → Float → Type 0
  Asking depth a b = All Alike (asked (subdividing (within_budget c r) depth a b))

  abbrev Moving : ℕ → Float → Float → Type 0
  Moving depth a b = subdividing (within_over at derivative r) depth a b ≡ subdividing (within_budget c r) depth a b

  moves_same : (depth : ℕ) (a b : Float) → Asking depth a b → Moving depth a b
  unfolding subdividing asked
  moves_same zero a b h = refl
  moves_same (suc depth) a b (more p (more q (more m h))) =
      ap (λ (v : Bool). asks a ∷ asks b ∷ asks (midpoint a b) ∷ halves (within_over at derivative r) depth a b v) (within_same a b p q m)
      ∙ ap (λ (l : List Move). asks a ∷ asks b ∷ asks (midpoint a b) ∷ l)
      (go (moves_same depth a (midpoint a b)) (moves_same depth (midpoint a b) b) (within_budget c r a b) h)
    where
      go : (Asking depth a (midpoint a b) → Moving depth a (midpoint a b)) → (Asking depth (midpoint a b) b → Moving depth (midpoint a b) b)
          → (v : Bool) → All Alike (asked (halves (within_budget c r) depth a b v))
          → halves (within_over at derivative r) depth a b v ≡ halves (within_budget c r) depth a b v
      go f g true l = refl
      go f g false l =
          let left = subdividing (within_budget c r) depth a (midpoint a b) in
          let right = subdividing (within_budget c r) depth (midpoint a b) b in
          let k = rw (asked_append left (adds (midpoint a b) ∷ right)) at l in
          rw (f (all_left (asked left) (asked right) k), g (all_right (asked left) (asked right) k))

pub bisection_asked : BisectionAsked
bisection_asked = record { span = within_over_lem; moves = moves_same }
