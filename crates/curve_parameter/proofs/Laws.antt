-- What the evaluators' proofs use of runs: of segments, and of points. Assumes nothing.
use Rattle.std.specs.Prelude.{Some, None}
use mathlib.Core.Path.{◌≡◌, refl, sym, ap, ◌∙◌}
use mathlib.Core.Bool.{Bool, true, false, cond}
use mathlib.Core.List.{List}
use Prim.Native.Nat.{ℕ, zero, suc, ◌+◌, ◌-◌, ◌<◌, ◌≤◌}
use native.Mathlib.Nat.{add-zero, suc-add, add-suc, not-suc-le-zero, le_of_suc-le-suc}
use native.Mathlib.Omega.{arith}
use lib.Ieee.{Float, lt}
use lib.Dec.{eqb, ltb}
use lib.ListN.{length, get_or}
use borrow.Author.Tests.{eqb-true, eqb-false, ltb-true, ltb-false, le-ltb, lt-ltb}
use Rattle.arith.specs.Notation.{◌⊖◌, bits, count}
use Rattle.math.specs.declared.Vec3.{Vec3}
use Rattle.math.specs.declared.Interval.{Interval}
use Rattle.brep.specs.declared.Segment.{Segment}
use Rattle.math.specs.Math.{v_zero, v_sub, v_length_squared}
use Rattle.brep.specs.Rows.{Tables, point_of}
use Rattle.brep.specs.Tree.{CurveTree, Segments, segment, run, segments, segment_in}
use Rattle.brep.proofs.Laws.{length_run, get_d-run}
use Rattle.curve_parameter.specs.declared.OnLeg.{OnLeg}
use Rattle.curve_parameter.specs.declared.OnSegment.{OnSegment}
use Rattle.curve_parameter.specs.Own.Falls.{leg_from, leg_under, segment_under}
use Rattle.curve_parameter.specs.Run.{run_length, index_in, segment_index, segment_local, closes, own_parameter, parameter_of, polyline_parameter}

pub count_segments : (T : Tables) (f : ℕ → CurveTree) (first n : ℕ) → run_length (segments T f first n) ≡ n
unfolding run_length segments
count_segments T f first zero = refl
count_segments T f first (suc n) = ap suc (count_segments T f (suc first) n)

-- h is an evaluator of a run of segments by an index, and k what it makes of one segment at its curve's own parameter
module _ {A : Type 0} (h : Segments → ℕ → Float → A) (k : CurveTree → Interval → Bool → Float → A)
    (here : (c : CurveTree) (r : Interval) (b : Bool) (rest : Segments) (v : Float) → h (segment c r b rest) zero v ≡ k c r b (own_parameter r b v))
    (later : (c : CurveTree) (r : Interval) (b : Bool) (rest : Segments) (i : ℕ) (v : Float) → h (segment c r b rest) (suc i) v ≡ h rest i v) where
  nth : (T : Tables) (f : ℕ → CurveTree) (first n i : ℕ) (v : Float) → i < n → let s = segment_in T (first + i) in h (segments T f first n) i v ≡ k (f s.curve) s.range s.same_sense (own_parameter s.range s.same_sense v)
  unfolding segments
  nth T f first zero i v l = absurd (not-suc-le-zero l)
  nth T f first (suc n) zero v l = rw add-zero (here _ _ _ _ v)
  nth T f first (suc n) (suc i) v l = later _ _ _ _ i v ∙ rw (add-suc, ← suc-add) (nth T f (suc first) n i v (le_of_suc-le-suc l))

  -- what it makes of a composite whose parameter falls on a segment
  pub on_segment : (T : Tables) (f : ℕ → CurveTree) (first n : ℕ) (t : Float) {p : OnSegment} → Some p ≡ segment_under T.parts T.ranges first n t →
      k (f p.segment.curve) p.segment.range p.segment.same_sense p.t ≡ h (segments T f first n) (segment_index (run_length (segments T f first n)) t) (segment_local (run_length (segments T f first n)) t)
  unfolding segment_under
  on_segment T f first n t {p} e = go (eqb n 0) refl e
    where
      s : Segment
      s = segment_in T (first + segment_index n t)

      fallen : OnSegment
      fallen = record { segment = s; t = own_parameter s.range s.same_sense (segment_local n t) }

      go : (b : Bool) → eqb n 0 ≡ b → Some p ≡ cond b None (Some fallen) → k (f p.segment.curve) p.segment.range p.segment.same_sense p.t ≡ h (segments T f first n) (segment_index (run_length (segments T f first n)) t) (segment_local (run_length (segments T f first n)) t)
      go true z e = cc
      go false z e =
          let some : p ≡ fallen = cc in
          let few = eqb-false n 0 z in
          rw (count_segments T f first n, some) (sym (nth T f first n (segment_index n t) (segment_local n t) (omega arith)))

-- a parameter that falls on none is that of a composite without segments
pub no_segment : (parts : List ℕ) (ranges : List Float) (first n : ℕ) (t : Float) → None ≡ segment_under parts ranges first n t → n ≡ 0
unfolding segment_under
no_segment parts ranges first n t e = go (eqb n 0) _ refl e
  where
    go : (b : Bool) (x : OnSegment) → eqb n 0 ≡ b → None ≡ cond b None (Some x) → n ≡ 0
    go true x z e = eqb-true n 0 z
    go false x z e = cc

module _ (points : List Float) (first n : ℕ) where
  pub closes_few : n < 3 → false ≡ closes (run points first n)
  unfolding closes
  closes_few l = rw (length_run points first n, le-ltb 2 n (omega arith))

  pub closes_many : 3 ≤ n → lt (v_length_squared (v_sub (point_of points (first + 0)) (point_of points (first + (n - 1))))) (bits 0x3BC79CA10C924223) ≡ closes (run points first n)
  unfolding closes
  closes_many l = rw (length_run points first n, lt-ltb 2 n (omega arith), get_d-run points first n 0 v_zero (omega arith), get_d-run points first n (n - 1) v_zero (omega arith))

  -- the leg that a polyline's parameter falls on, by its points
  pub on_leg : {closed : Bool} → closed ≡ closes (run points first n) → (t : Float) {p : OnLeg} → Some p ≡ leg_under points first n closed t →
      let ps = run points first n in let u = polyline_parameter ps t in let i = index_in (length ps - 2) u in
      (2 ≤ length ps) × (p ≡ record { from = get_or ps i v_zero; to = get_or ps (i + 1) v_zero; local = u ⊖ count i })
  unfolding leg_under polyline_parameter
  on_leg {closed} c t {p} e = go (ltb n 2) refl e
    where
      ps : List Vec3
      ps = run points first n

      u : Float
      u = parameter_of n closed t

      go : (b : Bool) → ltb n 2 ≡ b → Some p ≡ cond b None (Some (leg_from points first (index_in (n - 2) u) u)) →
          (2 ≤ length ps) × (p ≡ record { from = get_or ps (index_in (length ps - 2) (parameter_of (length ps) (closes ps) t)) v_zero; to = get_or ps (index_in (length ps - 2) (parameter_of (length ps) (closes ps) t) + 1) v_zero; local = parameter_of (length ps) (closes ps) t ⊖ count (index_in (length ps - 2) (parameter_of (length ps) (closes ps) t)) })
      go true z e = cc
      go false z e =
          let many = ltb-false n 2 z in
          let i = index_in (n - 2) u in
          let next : i + 1 < n = omega arith in
          rw (length_run points first n, ← c, get_d-run points first n i v_zero (omega arith), get_d-run points first n (i + 1) v_zero next) (many, cc)

-- a polyline's parameter falls on no leg where there are fewer than two points
pub no_leg : (points : List Float) (first n : ℕ) (closed : Bool) (t : Float) → None ≡ leg_under points first n closed t → n < 2
unfolding leg_under
no_leg points first n closed t e = go (ltb n 2) _ refl e
  where
    go : (b : Bool) (x : OnLeg) → ltb n 2 ≡ b → None ≡ cond b None (Some x) → n < 2
    go true x z e = ltb-true n 2 z
    go false x z e = cc
