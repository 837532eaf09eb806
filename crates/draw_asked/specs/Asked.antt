-- The record of what a curve is asked for, which refusal 11 looks at, against what is evaluated. Each claim is proved in proofs/Laws.antt, as `needs_none` is.
-- Definitions only.
-- `AnsweredNear`: what comes to an answer has asked for nothing too far. `NeedsNone`: what asks for nothing too far needs no cosh and no sinh beyond 100.
-- The others tie each recorded list to what is evaluated: `probes`, `sweep`, `break_asks`, the `asks` of bisection. The chain's own points are `located`
-- of the list that `listed` asks for, and a closed form asks no hyperbola for anything (`ClosedNeverFar` in crates/edge_sample/specs/Claims.antt).
use Rattle.std.specs.Prelude.{◌≡◌, Bool, false, cond, ◌&&◌, List, [], ◌∷◌, map, ℕ, zero, suc, ◌≤◌, get_or, Float, Option, Ok}
use Rattle.std.specs.Float.{nan}
use Rattle.std.specs.Float.Ieee.{lt, le}
use Rattle.base_lists.specs.All.{All}
use Rattle.arith_trig.specs.Trig.{sin_of, cos_of}
use Rattle.arith_exp.specs.Exp.{cosh_of, sinh_of}
use Rattle.math.specs.declared.Vec3.{Vec3}
use Rattle.math.specs.declared.Aabb.{Aabb}
use Rattle.math.specs.declared.Interval.{Interval}
use Rattle.math.specs.Math.{v_zero, v_add, v_scale, y_dir, v_finite, add_point, distance, try_normalized}
use Rattle.options.specs.declared.Mode.{Mode}
use Rattle.options.specs.declared.Resolved.{Resolved}
use Rattle.brep.specs.Tree.{CurveTree, analytic, line, circle, ellipse, parabola, hyperbola, polyline, trimmed, composite, Segments, none, segment}
use Rattle.curve.specs.Eval.{run_length, segment_index, segment_local, own_parameter, polyline_point, axes_point, parabola_point, point_at, natural_range}
use Rattle.curve_tangent.specs.Derivative.{polyline_derivative, signed_span, ellipse_derivative, parabola_derivative, hyperbola_derivative, derivative_at}
use Rattle.curve_asks.specs.Asks.{is_far, asks_far}
use Rattle.knots_inside.specs.Thinned.{thin_breaks}
use Rattle.knots.specs.Knots.{worst_of_three, deviation}
use Rattle.knots_breaks.specs.Breaks.{breaks_in}
use Rattle.knots_thin.specs.Thin.{kept_breaks, deviation_asks, break_asks}
use Rattle.edge_params.specs.Work.{Work, asking}
use Rattle.edge_params.specs.Params.{Move, asked, midpoint, subdividing, forming, evenly}
use Rattle.edge_record.specs.declared.Sample.{Sample}
use Rattle.edge_subdivide.specs.Bisect.{sag_of, tangent_turn, within_budget}
use Rattle.draw_spec.specs.Edge.{located, probed, extent_box}
use Rattle.draw_spec.specs.Repair.{sweep_at, nearest}
use Rattle.draw_spec.specs.Draw.{probes}

-- ---- what is recorded
-- a work that comes to an answer has asked for nothing too far: neither among listed parameters, nor in moves that form a list
pub record AnsweredNear : Type 1 where
  pub listed : {A : Type 0} (far : Float → Bool) (ts : List Float) (w : Work A) (a : A) → (asking far ts w).end ≡ Ok a → All (λ t. far t ≡ false) ts
  pub moved : (far : Float → Bool) (k : ℕ) (moves : List Move) (l : List Float) → (forming far k moves).end ≡ Ok l → All (λ t. far t ≡ false) (asked moves)

-- ---- point_at and derivative_at with other functions for cosh and sinh
-- `point_at` but for the hyperbola's line
unfoldable mutual
  pub point_with : (Float → Float) → (Float → Float) → CurveTree → Float → Vec3
  point_with cosh sinh (analytic (line o d)) t = v_add o (v_scale d t)
  point_with cosh sinh (analytic (circle f r)) t = axes_point f.origin f.ref_dir (y_dir f) r r (cos_of t) (sin_of t)
  point_with cosh sinh (analytic (ellipse f a b)) t = axes_point f.origin f.ref_dir (y_dir f) a b (cos_of t) (sin_of t)
  point_with cosh sinh (analytic (parabola f d)) t = parabola_point f.origin f.ref_dir (y_dir f) d t
  point_with cosh sinh (analytic (hyperbola f a b)) t = axes_point f.origin f.ref_dir (y_dir f) a b (cosh t) (sinh t)
  point_with cosh sinh (polyline ps) t = polyline_point ps t
  point_with cosh sinh (trimmed base range) t = point_with cosh sinh base t
  point_with cosh sinh (composite ss) t = segment_point_with cosh sinh ss (segment_index (run_length ss) t) (segment_local (run_length ss) t)

  -- `segment_point` of it
  pub segment_point_with : (Float → Float) → (Float → Float) → Segments → ℕ → Float → Vec3
  segment_point_with cosh sinh none i local = v_zero
  segment_point_with cosh sinh (segment curve range same rest) zero local = point_with cosh sinh curve (own_parameter range same local)
  segment_point_with cosh sinh (segment curve range same rest) (suc i) local = segment_point_with cosh sinh rest i local

-- `derivative_at` but for the hyperbola's line
unfoldable mutual
  pub derivative_with : (Float → Float) → (Float → Float) → CurveTree → Float → Vec3
  derivative_with cosh sinh (analytic (line o d)) t = d
  derivative_with cosh sinh (analytic (circle f r)) t = ellipse_derivative f.ref_dir (y_dir f) r r (cos_of t) (sin_of t)
  derivative_with cosh sinh (analytic (ellipse f a b)) t = ellipse_derivative f.ref_dir (y_dir f) a b (cos_of t) (sin_of t)
  derivative_with cosh sinh (analytic (parabola f d)) t = parabola_derivative f.ref_dir (y_dir f) d t
  derivative_with cosh sinh (analytic (hyperbola f a b)) t = hyperbola_derivative f.ref_dir (y_dir f) a b (cosh t) (sinh t)
  derivative_with cosh sinh (polyline ps) t = polyline_derivative ps t
  derivative_with cosh sinh (trimmed base range) t = derivative_with cosh sinh base t
  derivative_with cosh sinh (composite ss) t =
      segment_derivative_with cosh sinh ss (segment_index (run_length ss) t) (segment_local (run_length ss) t)

  -- `segment_derivative` of it
  pub segment_derivative_with : (Float → Float) → (Float → Float) → Segments → ℕ → Float → Vec3
  segment_derivative_with cosh sinh none i local = v_zero
  segment_derivative_with cosh sinh (segment curve range same rest) zero local =
      v_scale (derivative_with cosh sinh curve (own_parameter range same local)) (signed_span range same)
  segment_derivative_with cosh sinh (segment curve range same rest) (suc i) local = segment_derivative_with cosh sinh rest i local

-- two functions agree wherever a parameter is not too far
abbrev pub AgreeNear : (Float → Float) → (Float → Float) → Type 0
AgreeNear f g = (u : Float) → is_far u ≡ false → f u ≡ g u

-- what asks nothing too far needs no cosh and no sinh beyond 100: any functions that agree with them up to there give the same point and derivative
pub record NeedsNone : Type 0 where
  pub point : (cosh sinh : Float → Float) → AgreeNear cosh cosh_of → AgreeNear sinh sinh_of
      → (c : CurveTree) (t : Float) → asks_far c t ≡ false → point_with cosh sinh c t ≡ point_at c t
  pub derivative : (cosh sinh : Float → Float) → AgreeNear cosh cosh_of → AgreeNear sinh sinh_of
      → (c : CurveTree) (t : Float) → asks_far c t ≡ false → derivative_with cosh sinh c t ≡ derivative_at c t

-- ---- edge_extent
-- a box with the points of a list, first to last, those that are finite
unfoldable pub box_over : Aabb → List Vec3 → Aabb
box_over b [] = b
box_over b (p ∷ ps) = box_over (cond (v_finite p) (add_point b p) b) ps

-- the extent's box is that of the curve's points at the recorded probes, and of no other of its points
pub record ProbesAsked : Type 0 where
  pub probed : (c : CurveTree) (range : Interval) (b : Aabb) → probed c range b 9 ≡ box_over b (map (point_at c) (evenly range 8))
  pub box : (c : CurveTree) (usable : Option Interval) (b : Aabb) → extent_box c usable b ≡ box_over b (map (point_at c) (probes usable))

-- ---- the short arc's sweep
-- the parameter of the sample nearest to the target: of `best` and those of a list, the first of equals
unfoldable pub nearest_from : Vec3 → Sample → List Sample → Float
nearest_from target best [] = best.param
nearest_from target best (s ∷ l) = nearest_from target (cond (lt (distance s.point target) (distance best.point target)) s best) l

-- of those of a list
unfoldable pub nearest_among : Vec3 → List Sample → Float
nearest_among target [] = nan
nearest_among target (s ∷ l) = nearest_from target s l

-- the sweep is over the recorded parameters: its i-th is theirs, and the nearest is that of the curve's points at them, and of no other of its points
pub record SweepAsked : Type 0 where
  pub step : (natural : Interval) (i : ℕ) → i ≤ 512 → sweep_at natural i ≡ get_or (evenly natural 512) i nan
  pub nearest : (c : CurveTree) (target : Vec3) → nearest c target ≡ nearest_among target (located c (evenly (natural_range c) 512))

-- ---- thin_breaks
-- worst_of_three of a list of five points
unfoldable pub worst_over : List Vec3 → Float
worst_over ps = worst_of_three (get_or ps 0 v_zero) (get_or ps 1 v_zero) (get_or ps 2 v_zero) (get_or ps 3 v_zero) (get_or ps 4 v_zero)

-- a span's deviation is that of the points at its five recorded parameters; and whatever agrees with the curve's points at all that are recorded
-- leaves the same breaks, in either mode
pub record BreaksAsked : Type 0 where
  pub span : (at : Float → Vec3) (a b : Float) → deviation at a b ≡ worst_over (map at (deviation_asks a b))
  pub breaks : (mode : Mode) (c : CurveTree) (at : Float → Vec3) (lo hi sag : Float) → All (λ t. at t ≡ point_at c t) (break_asks mode c lo hi sag)
      → thin_breaks (breaks_in mode c lo hi) lo hi sag (deviation at) ≡ kept_breaks mode c lo hi sag

-- ---- subdivide
-- `within_budget` of what is a curve's point and derivative at a parameter
unfoldable pub within_over : (Float → Vec3) → (Float → Vec3) → Resolved → Float → Float → Bool
within_over at derivative r a b =
    le (sag_of (at a) (at b) (at (midpoint a b))) r.sag
    && le (tangent_turn (try_normalized (derivative a)) (try_normalized (derivative b))) r.angle

-- a span's test takes the curve's points and derivatives at a, b and their midpoint alone; and whatever agrees with the curve's at all that are recorded
-- makes the same moves
pub record BisectionAsked : Type 0 where
  pub span : (c : CurveTree) (r : Resolved) (a b : Float) → within_budget c r a b ≡ within_over (point_at c) (derivative_at c) r a b
  pub moves : (c : CurveTree) (at derivative : Float → Vec3) (r : Resolved) (depth : ℕ) (a b : Float)
      → All (λ t. (at t ≡ point_at c t) × (derivative t ≡ derivative_at c t)) (asked (subdividing (within_budget c r) depth a b))
      → subdividing (within_over at derivative r) depth a b ≡ subdividing (within_budget c r) depth a b
