-- The sag by its square, the limits, a span by what split_of answers of its ends, and the ways out of subdivide. Assumes nothing.
use Rattle.std.specs.Prelude.{Option, Some, None}
use mathlib.Core.Path.{◌≡◌, refl, sym, ap, subst, ◌∙◌}
use mathlib.Core.Bool.{Bool, true, false, ◌&&◌}
use mathlib.Core.List.{List, [], ◌∷◌, ◌++◌}
use Prim.Native.Nat.{ℕ, ◌-◌}
use native.Mathlib.Omega.{arith}
use lib.Ieee.{Float, of_bits, le, eq, neg}
use Rattle.arith.specs.Notation.{plus_zero, one}
use Rattle.arith.specs.Pick.{clamp_of}
use Rattle.arith_root.specs.Root.{root_of}
use Rattle.arith_trig.specs.Trig.{acos_of}
use Rattle.math_chord.specs.declared.Chord.{Chord}
use Rattle.math_chord.specs.declared.Foot.{Foot}
use Rattle.math_chord.specs.Own.Made.{bisection_chord, chord_foot}
use Rattle.math_chord.proofs.Made.{bisection_from}
use Rattle.math.specs.declared.Vec3.{Vec3}
use Rattle.math.specs.Math.{v_dot, angle_between}
use Rattle.brep.specs.Tree.{CurveTree}
use Rattle.curve.specs.Eval.{point_at}
use Rattle.curve_tangent.specs.Derivative.{tangent_at}
use Rattle.options.specs.declared.Resolved.{Resolved}
use Rattle.edge_params.specs.Params.{midpoint}
use Rattle.edge_params.specs.Own.Bisected.{subdivided}
use Rattle.edge_params.proofs.Lists.{subdivided_zero, subdivided_within, subdivided_split}
use Rattle.edge_subdivide.specs.Own.Recorder.{Records}
use Rattle.edge_subdivide.proofs.Recorded.{records_none}
use Rattle.edge_subdivide.specs.declared.End.{End}
use Rattle.edge_subdivide.specs.declared.recorder.Recorder.{Recorder}
use Rattle.edge_subdivide.specs.Own.Split.{split_of}
use Rattle.edge_subdivide.specs.Bisect.{end_at, sag_of, tangent_turn, is_within, within_budget}

-- ---- the sag, by its square: what is_within works out and compares
pub sag_within : (pa pb pm : Vec3) (sag limit : Float) {c : Chord} {foot : Foot} → c ≡ bisection_chord pa pb → foot ≡ chord_foot c pm → limit ≡ sag
    → le (root_of foot.squared) limit ≡ le (sag_of pa pb pm) sag
unfolding sag_of
sag_within pa pb pm sag limit C F E = rw (F, bisection_from pa pb C pm, E)

-- ---- the turn, by the branches that the code takes
straight : acos_of one ≡ plus_zero
unfolding acos_of eq of_bits
straight = refl

module _ (a b : Option Vec3) where
  pub turn_no_first : a ≡ None → acos_of one ≡ tangent_turn a b
  unfolding tangent_turn
  turn_no_first e = straight ∙ rw e

  pub turn_no_second : (ta : Vec3) → a ≡ Some ta → b ≡ None → acos_of one ≡ tangent_turn a b
  unfolding tangent_turn
  turn_no_second ta e f = straight ∙ rw (e, f)

  pub turn_both : (ta tb : Vec3) → a ≡ Some ta → b ≡ Some tb → acos_of (clamp_of (v_dot ta tb) (neg one) one) ≡ tangent_turn a b
  unfolding tangent_turn angle_between
  turn_both ta tb e f = rw (e, f)

-- ---- the test of a span, by the branches that the code takes
module _ (r : Resolved) (a b : End) (pm : Vec3) where
  pub near_enough : le (sag_of a.point b.point pm) r.sag ≡ true → le (tangent_turn a.tangent b.tangent) r.angle ≡ is_within r a b pm
  unfolding is_within
  near_enough e = rw e

  pub too_sharp : le (tangent_turn a.tangent b.tangent) r.angle ≡ false → false ≡ is_within r a b pm
  unfolding is_within
  too_sharp e = rw e (go (le (sag_of a.point b.point pm) r.sag))
    where
      go : (x : Bool) → false ≡ (x && false)
      go true = refl
      go false = refl

  pub too_far : le (sag_of a.point b.point pm) r.sag ≡ false → false ≡ is_within r a b pm
  unfolding is_within
  too_far e = rw e

module _ (c : CurveTree) (r : Resolved) (a b : End) where
  -- ---- what split_of answers, by the test that it makes
  pub split_yes : is_within r a b (point_at c (midpoint a.t b.t)) ≡ true → None ≡ split_of c r a b
  unfolding split_of
  split_yes e = rw (e, split_of)

  pub split_no : (p : Vec3) (g : Option Vec3) → p ≡ point_at c (midpoint a.t b.t) → g ≡ tangent_at c (midpoint a.t b.t)
      → is_within r a b p ≡ false → Some (record { t = midpoint a.t b.t; point = p; tangent = g }) ≡ split_of c r a b
  unfolding split_of end_at
  split_no p g P G e = rw (P, G) (rw (rw P at e, split_of))

  -- ---- and back, of ends that are the curve's
  module _ (A : a ≡ end_at c a.t) (B : b ≡ end_at c b.t) where
    same : within_budget c r a.t b.t ≡ is_within r a b (point_at c (midpoint a.t b.t))
    unfolding within_budget
    same = cc

    pub was_within : None ≡ split_of c r a b → within_budget c r a.t b.t ≡ true
    unfolding split_of
    was_within e = same ∙ go (is_within r a b (point_at c (midpoint a.t b.t))) e
      where
        go : (t : Bool) → ◌≡◌ {A = Option End} None (elim t [ true ↦ None | false ↦ Some (end_at c (midpoint a.t b.t)) ]) → t ≡ true
        go true e = refl
        go false e = let z : ◌≡◌ {A = ℕ} 0 1 = cc in absurd (omega arith)

    pub record Was-split (m : End) : Type 0 where
      pub over : within_budget c r a.t b.t ≡ false
      pub middle : m ≡ end_at c (midpoint a.t b.t)

    pub was_split : (m : End) → Some m ≡ split_of c r a b → Was-split m
    unfolding split_of
    was_split m e = let g = go (is_within r a b (point_at c (midpoint a.t b.t))) e in record { over = same ∙ g.0; middle = g.1 }
      where
        go : (t : Bool) → ◌≡◌ {A = Option End} (Some m) (elim t [ true ↦ None | false ↦ Some (end_at c (midpoint a.t b.t)) ])
            → (t ≡ false) × (m ≡ end_at c (midpoint a.t b.t))
        go true e = let z : ◌≡◌ {A = ℕ} 0 1 = cc in absurd (omega arith)
        go false e = (refl, cc)

-- ---- the curve's own end at a parameter
module _ (c : CurveTree) (x : Float) (m : End) (e : m ≡ end_at c x) where
  pub end_t : m.t ≡ x
  unfolding end_at
  end_t = ap (λ (n : End). n.t) e

  pub end_own : m ≡ end_at c m.t
  end_own = e ∙ ap (end_at c) (sym end_t)

-- ---- the ways out of subdivide
module _ (c : CurveTree) (r : Resolved) (depth : ℕ) (a b : End) (A : a ≡ end_at c a.t) (B : b ≡ end_at c b.t) where
  -- nothing is pushed
  none : (to : Recorder) → subdivided (within_budget c r) depth a.t b.t ≡ []
      → Records c (subdivided (within_budget c r) depth a.t b.t) (Some tt) to to
  none to e = subst (λ (l : List Float). Records c l (Some tt) to to) (sym e) (records_none c to)

  pub none_deep : (to : Recorder) → depth ≡ 0 → Records c (subdivided (within_budget c r) depth a.t b.t) (Some tt) to to
  none_deep to e = none to (subdivided_zero (within_budget c r) depth a.t b.t e)

  module _ (deep : depth ≡ 0 → ⊥) (s : Option End) (S : s ≡ split_of c r a b) where
    pub none_within : (to : Recorder) → s ≡ None → Records c (subdivided (within_budget c r) depth a.t b.t) (Some tt) to to
    none_within to e = none to (subdivided_within (within_budget c r) depth a.t b.t deep (was_within c r a b A B (sym e ∙ S)))

    -- the middle is the curve's, and the list that of the two halves
    pub record Halved (m : End) : Type 0 where
      pub own : m ≡ end_at c m.t
      pub both : subdivided (within_budget c r) (depth - 1) a.t m.t ++ m.t ∷ subdivided (within_budget c r) (depth - 1) m.t b.t
          ≡ subdivided (within_budget c r) depth a.t b.t

    pub halved : (m : End) → s ≡ Some m → Halved m
    halved m M =
        let w = was_split c r a b A B m (sym M ∙ S) in
        record {
          own = end_own c (midpoint a.t b.t) m w.middle;
          both =
              ap (λ (x : Float). subdivided (within_budget c r) (depth - 1) a.t x ++ x ∷ subdivided (within_budget c r) (depth - 1) x b.t)
              (end_t c (midpoint a.t b.t) m w.middle)
              ∙ sym (subdivided_split (within_budget c r) depth a.t b.t deep w.over);
        }
