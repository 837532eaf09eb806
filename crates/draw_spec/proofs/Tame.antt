-- What is known of a curve of accepted tables: how far the ends of its own range and its period lie from 0, and that its knots
-- are binary64 floats. Assumes nothing.
use Rattle.std.specs.Prelude.{Some, None}
use mathlib.Core.Path.{◌≡◌, refl, subst}
use mathlib.Core.Bool.{Bool, true, false, cond, ◌&&◌}
use mathlib.Core.List.{List, [], ◌∷◌}
use Prim.Native.Nat.{ℕ, zero, suc, ◌+◌, ◌-◌, ◌*◌, ◌<◌, ◌≤◌}
use native.Mathlib.Omega.{arith}
use lib.IntN.{pos}
use lib.ListN.{length, get_or}
use lib.Dec.{T}
use lib.Ieee.{Float, nan, binary64, fits, le, lt, neg, of_bits, of_int}
use lib.Ieee.Scale.{finite}
use lib.Ieee.Fits.{of_int-fits}
use Rattle.arith_order.proofs.Laws.{le_trans, whole_le}
use Rattle.arith_order.proofs.Modest.{big}
use Rattle.arith.specs.Notation.{◌⊖◌, count, plus_zero}
use Rattle.arith.specs.Constants.{million, trillion}
use Rattle.math.specs.declared.Vec3.{Vec3}
use Rattle.math.specs.declared.Frame.{Frame}
use Rattle.math.specs.declared.Interval.{Interval}
use Rattle.math.specs.Math.{interval, span_of}
use Rattle.base_lists.specs.All.{All, none, more}
use Rattle.brep.specs.declared.Kind.{Kind}
use Rattle.brep.specs.declared.Kind.TheVariants as kinds
use Rattle.brep.specs.declared.Curve.{Curve}
use Rattle.brep.specs.declared.Run.{Run}
use Rattle.brep.specs.declared.Curve.TheVariants.{Line, Circle, Ellipse, Parabola, Polyline, Trimmed, Composite, Hyperbola}
use Rattle.brep.specs.declared.Edge.{Edge}
use Rattle.brep.specs.Rows.{Tables, segment_of, most_points, kind_of, curve_of}
use Rattle.brep.specs.Tree.{CurveTree, polyline, run, segments, row_in, grown, below, tree}
use Rattle.brep.proofs.Laws.{lower, length_run}
use Rattle.causes_bounds.specs.Bounds.{largest}
use Rattle.causes_form.specs.Forms.{curve_count, targets}
use Rattle.options.specs.declared.Options.{Options}
use Rattle.causes.proofs.Checked.{Bounded, Checked}
use Rattle.draw_spec.specs.Own.Binary.{AllBinary64}
use Rattle.curve.specs.Eval.{tau, natural_range, closes, every_span, period}
use Rattle.curve.proofs.Laws.{count_segments}
use Rattle.knots.specs.Knots.{segment_knots, curve_knots}
use Rattle.edge_params.proofs.Ends.{Size, size_grows, sub_size}

-- a slice that has no floats
pub binary64_none : (l : List Float) → length l ≡ 0 → AllBinary64 l
unfolding fits
binary64_none [] h i = tt
binary64_none (x ∷ l) h i = absurd (omega arith)

-- ---- sizes
record Facts : Type 0 where
  pub billion_low : T (le (big 30 true) (neg largest))
  pub billion_high : T (le largest (big 30 false))
  pub count_low : T (le (big 16 true) (count 0))
  pub count_high : T (le (count most_points) (big 16 false))
  pub turn_fits : T (fits binary64 tau)
  pub turn : Size 40 tau
  pub zero_fits : T (fits binary64 plus_zero)
  pub zero : Size 16 plus_zero

facts : Facts
unfolding le neg of_bits of_int fits
facts = record {
  billion_low = tt;
  billion_high = tt;
  count_low = tt;
  count_high = tt;
  turn_fits = tt;
  turn = (tt, tt);
  zero_fits = tt;
  zero = (tt, tt);
}

pub bounded_size : (x : Float) → Bounded x → Size 30 x
bounded_size x b = (
  le_trans (big 30 true) (neg largest) x facts.billion_low b.0,
  le_trans x largest (big 30 false) b.1 facts.billion_high,
)

count_size : (n : ℕ) → n ≤ most_points → Size 16 (count n)
count_size n h = (
  le_trans (big 16 true) (count 0) (count n) facts.count_low (whole_le binary64 0 n (omega arith)),
  le_trans (count n) (count most_points) (big 16 false) (whole_le binary64 n most_points h) facts.count_high,
)

-- ---- both ends of a range: binary64, and at most 2 ^ 40 from 0
pub record Reach (range : Interval) : Type 0 where
  pub low : Size 40 range.lo
  pub low_fits : T (fits binary64 range.lo)
  pub high : Size 40 range.hi
  pub high_fits : T (fits binary64 range.hi)

turn_reach : Reach (interval plus_zero tau)
turn_reach = record {
  low = size_grows 16 40 plus_zero (omega arith) facts.zero;
  low_fits = facts.zero_fits;
  high = facts.turn;
  high_fits = facts.turn_fits;
}

count_reach : (n : ℕ) → n ≤ most_points → Reach (interval plus_zero (count n))
count_reach n h = record {
  low = size_grows 16 40 plus_zero (omega arith) facts.zero;
  low_fits = facts.zero_fits;
  high = size_grows 16 40 (count n) (omega arith) (count_size n h);
  high_fits = of_int-fits binary64 (pos n);
}

line_reach : Reach (interval (neg trillion) trillion)
unfolding le neg of_bits fits
line_reach = record { low = (tt, tt); low_fits = tt; high = (tt, tt); high_fits = tt }

-- a hyperbola's too
parabola_reach : Reach (interval (neg million) million)
unfolding le neg of_bits fits
parabola_reach = record { low = (tt, tt); low_fits = tt; high = (tt, tt); high_fits = tt }

-- ---- what sampling and repair ask of a curve
pub record Tame (c : CurveTree) : Type 0 where
  pub own : Reach (natural_range c)
  pub every : (p : Float) → period c ≡ Some p → Size 40 p
  pub knots : All (λ k. T (fits binary64 k)) (curve_knots c)

no_period : (p : Float) → None ≡ Some p → Size 40 p
no_period p e = absurd (let z : ◌≡◌ {A = ℕ} 0 1 = cc in omega arith)

turn_period : (p : Float) → Some tau ≡ Some p → Size 40 p
turn_period p e = let q : tau ≡ p = cc in subst (Size 40) q facts.turn

span_period : (span p : Float) → Size 40 span → every_span span ≡ Some p → Size 40 p
unfolding every_span
span_period span p s = go (lt plus_zero span && finite span)
  where
    go : (b : Bool) → cond b (Some span) None ≡ Some p → Size 40 p
    go true e = let q : span ≡ p = cc in subst (Size 40) q s
    go false e = no_period p e

polyline_tame : (ps : List Vec3) → length ps - 1 ≤ most_points → Tame (polyline ps)
unfolding natural_range period curve_knots span_of
polyline_tame ps h = record { own = count_reach (length ps - 1) h; every = λ p. go p (closes ps); knots = none }
  where
    go : (p : Float) (b : Bool) → cond b (every_span (span_of (interval plus_zero (count (length ps - 1))))) None ≡ Some p → Size 40 p
    go p true e =
        span_period (count (length ps - 1) ⊖ plus_zero) p
        (size_grows 17 40 (count (length ps - 1) ⊖ plus_zero) (omega arith)
        (sub_size 16 (omega arith) (count (length ps - 1)) plus_zero (count_size (length ps - 1) h) facts.zero)) e
    go p false e = no_period p e

-- ---- a row of accepted tables
data Row : Curve → Type 0 where
  a_line : {o d : Vec3} → Row (Line o d)
  a_circle : {f : Frame} {r : Float} → Row (Circle f r)
  an_ellipse : {f : Frame} {a b : Float} → Row (Ellipse f a b)
  a_parabola : {f : Frame} {d : Float} → Row (Parabola f d)
  a_polyline : {own : Run} → own.count ≤ most_points → Row (Polyline own)
  a_trim : {base : ℕ} {range : Interval} → Reach range → Row (Trimmed base range)
  a_composite : {own : Run} → own.count ≤ most_points → Row (Composite own)
  a_hyperbola : {f : Frame} {a b : Float} → Row (Hyperbola f a b)

module _ (t : Tables) (e : Edge) (o : Options) (h : Checked t e o) (reals : AllBinary64 t.reals) (ranges : AllBinary64 t.ranges) where
  room_size : (kind : Kind) → targets t kind ≤ most_points
  room_size kinds.Trimmed = omega (arith, h.curves_at_most)
  room_size kinds.Composite = omega (arith, h.segments_at_most)
  room_size _ = h.points_at_most

  real_size : (i : ℕ) → i < length t.reals → Size 40 (get_or t.reals i nan)
  real_size i l = size_grows 30 40 (get_or t.reals i nan) (omega arith) (bounded_size (get_or t.reals i nan) (h.reals_bounded i l))

  row_is : (i : ℕ) → i < curve_count t → Row (row_in t i)
  unfolding curve_of kind_of
  row_is i l =
      let x = h.run_inside i l in
      let n : get_or t.curves (i * 3 + 2) 0 ≤ most_points = omega (arith, x.2, room_size x.0) in
      rw x.1 (go n x.0)
    where
      go : get_or t.curves (i * 3 + 2) 0 ≤ most_points → (kind : Kind)
          → Row (kind_of t.points (Some kind) (get_or t.curves (i * 3 + 1) 0) (get_or t.curves (i * 3 + 2) 0) (get_or t.reals (i * 2) nan) (get_or t.reals (i * 2 + 1) nan))
      go n kinds.Line = a_line
      go n kinds.Circle = a_circle
      go n kinds.Ellipse = an_ellipse
      go n kinds.Parabola = a_parabola
      go n kinds.Polyline = a_polyline n
      go n kinds.Trimmed =
          let m = h.reals_as_many in
          a_trim (record {
            low = real_size (i * 2) (omega arith);
            low_fits = reals (i * 2);
            high = real_size (i * 2 + 1) (omega arith);
            high_fits = reals (i * 2 + 1);
          })
      go n kinds.Composite = a_composite n
      go n kinds.Hyperbola = a_hyperbola

  knots_fit : (f : ℕ → CurveTree) (first n : ℕ) → All (λ k. T (fits binary64 k)) (segment_knots (segments t f first n))
  unfolding segment_knots segments segment_of
  knots_fit f first zero = none
  knots_fit f first (suc n) = more (ranges (first * 2)) (more (ranges (first * 2 + 1)) (knots_fit f (suc first) n))

  module _ (f : ℕ → CurveTree) where
    grown_tame : (k : Curve) → Row k → ((base : ℕ) (range : Interval) → k ≡ Trimmed base range → Tame (f base)) → Tame (grown t f k)
    unfolding grown natural_range period curve_knots
    grown_tame k a_line g = record { own = line_reach; every = no_period; knots = none }
    grown_tame k a_circle g = record { own = turn_reach; every = turn_period; knots = none }
    grown_tame k an_ellipse g = record { own = turn_reach; every = turn_period; knots = none }
    grown_tame k a_parabola g = record { own = parabola_reach; every = no_period; knots = none }
    grown_tame k (a_polyline {own = own} r) g =
        polyline_tame (run t.points own.first own.count) (omega (arith, length_run t.points own.first own.count))
    grown_tame k (a_trim {base = base} {range = range} r) g =
        let b = g base range refl in record { own = r; every = b.every; knots = b.knots }
    grown_tame k (a_composite {own = own} r) g =
        record { own = rw (count_segments t f own.first own.count) (count_reach own.count r); every = no_period; knots = knots_fit f own.first own.count }
    grown_tame k a_hyperbola g = record { own = parabola_reach; every = no_period; knots = none }

  rows_tame : (n i : ℕ) → i < n → i < curve_count t → Tame (tree t i)
  unfolding tree
  rows_tame zero i k l = absurd (omega arith)
  rows_tame (suc n) i k l =
      grown_tame (below t i) (row_in t i) (row_is i l)
      (λ base range q.
      let b = h.trim_falls i base range l q in
      rw (lower t i base b) (rows_tame n base (omega arith) (omega arith)))

  -- every curve of the tables
  pub tree_tame : (i : ℕ) → i < curve_count t → Tame (tree t i)
  tree_tame i l = rows_tame (suc i) i (omega arith) l
