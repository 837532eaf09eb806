-- The sweep for the parameters nearest to the vertices, in the example whose edge runs away. Assumes nothing.
use mathlib.Core.Path.{◌≡◌, refl, ap, ◌∙◌}
use mathlib.Core.Bool.{Bool, true, false, cond, ◌&&◌}
use Prim.Native.Nat.{ℕ, zero, suc, ◌+◌}
use native.Mathlib.Omega.{arith}
use lib.Ieee.{Float, add, sub, mul, div, neg, lt, le, eq, of_bits, of_int}
use Rattle.arith.specs.Notation.{bits, plus_zero}
use Rattle.math.specs.declared.Vec3.{Vec3}
use Rattle.math.specs.declared.Interval.{Interval}
use Rattle.math.specs.Math.{distance, at, span_of, v_add, v_sub, v_scale, v_dot, v_length}
use Rattle.brep.specs.Kind.{kind_numbered}
use Rattle.brep.specs.Rows.{point_of, kind_of, curve_of}
use Rattle.brep.specs.Tree.{CurveTree, tree, below, grown}
use Rattle.curve.specs.Eval.{point_at, natural_range}
use Rattle.curve_asks.specs.Asks.{asks_far}
use Rattle.options.specs.declared.Mode.{Mode}
use Rattle.options.specs.declared.Resolved.{Resolved}
use Rattle.edge_params.specs.Work.{Work, done}
use Rattle.draw_spec.specs.Edge.{edge_curve, edge_start, edge_end}
use Rattle.draw_spec.specs.Repair.{Got, nearest_of, sweep_at, ordered_interval, is_swept, short_arc_tried, by_short_arc, runaway}
use Rattle.draw_spec.proofs.Listed.{short_arc_never}
use Rattle.arith_root.specs.Root.{root_of, root_units, near_root, isqrt}
use Rattle.draw_examples.specs.Examples.{boxed, escaping}

-- the sweep after index k, where the best so far is known
unfoldable swept : CurveTree → Interval → Vec3 → ℕ → Float → ℕ → Float
swept c natural target k best zero = best
swept c natural target k best (suc n) =
    let b = swept c natural target k best n in
    let next = sweep_at natural (suc (k + n)) in
    cond (lt (distance (point_at c next) target) (distance (point_at c b) target)) next b

onward : (c : CurveTree) (natural : Interval) (target : Vec3) (k n : ℕ)
    → nearest_of c natural target (k + n) ≡ swept c natural target k (nearest_of c natural target k) n
unfolding nearest_of swept
onward c natural target k zero = let e : k + 0 ≡ k = omega arith in ap (nearest_of c natural target) e
onward c natural target k (suc n) =
    let e : k + suc n ≡ suc (k + n) = omega arith in
    ap (nearest_of c natural target) e ∙ rw (onward c natural target k n)

-- four parts of the sweep, where the second finds 0
quarters : (c : CurveTree) (natural : Interval) (target : Vec3) (quarter : Float)
    → nearest_of c natural target 128 ≡ quarter
    → swept c natural target 128 quarter 128 ≡ plus_zero
    → swept c natural target 256 plus_zero 128 ≡ plus_zero
    → swept c natural target 384 plus_zero 128 ≡ plus_zero
    → nearest_of c natural target 512 ≡ plus_zero
quarters c natural target quarter e f g h = to 384 (to 256 (to 128 e ∙ f) ∙ g) ∙ h
  where
    to : (k : ℕ) {best : Float} → nearest_of c natural target k ≡ best → nearest_of c natural target (k + 128) ≡ swept c natural target k best 128
    to k e = onward c natural target k 128 ∙ ap (λ (best : Float). swept c natural target k best 128) e

-- ---- this line's sweep to either vertex, part by part; 0 is its index 256
first : (nearest_of (edge_curve boxed escaping) (natural_range (edge_curve boxed escaping)) (edge_start boxed escaping) 128 ≡ bits 0xC25D1A94A2000000)
    × (nearest_of (edge_curve boxed escaping) (natural_range (edge_curve boxed escaping)) (edge_end boxed escaping) 128 ≡ bits 0xC25D1A94A2000000)
unfolding nearest_of point_at natural_range at v_add v_sub v_scale v_dot v_length root_of root_units near_root isqrt tree below grown curve_of kind_of kind_numbered point_of add sub mul div neg lt le eq of_bits of_int
first = (refl, refl)

second : (swept (edge_curve boxed escaping) (natural_range (edge_curve boxed escaping)) (edge_start boxed escaping) 128 (bits 0xC25D1A94A2000000) 128 ≡ plus_zero)
    × (swept (edge_curve boxed escaping) (natural_range (edge_curve boxed escaping)) (edge_end boxed escaping) 128 (bits 0xC25D1A94A2000000) 128 ≡ plus_zero)
unfolding swept point_at natural_range at v_add v_sub v_scale v_dot v_length root_of root_units near_root isqrt tree below grown curve_of kind_of kind_numbered point_of add sub mul div neg lt le eq of_bits of_int
second = (refl, refl)

third : (swept (edge_curve boxed escaping) (natural_range (edge_curve boxed escaping)) (edge_start boxed escaping) 256 plus_zero 128 ≡ plus_zero)
    × (swept (edge_curve boxed escaping) (natural_range (edge_curve boxed escaping)) (edge_end boxed escaping) 256 plus_zero 128 ≡ plus_zero)
unfolding swept point_at natural_range at v_add v_sub v_scale v_dot v_length root_of root_units near_root isqrt tree below grown curve_of kind_of kind_numbered point_of add sub mul div neg lt le eq of_bits of_int
third = (refl, refl)

fourth : (swept (edge_curve boxed escaping) (natural_range (edge_curve boxed escaping)) (edge_start boxed escaping) 384 plus_zero 128 ≡ plus_zero)
    × (swept (edge_curve boxed escaping) (natural_range (edge_curve boxed escaping)) (edge_end boxed escaping) 384 plus_zero 128 ≡ plus_zero)
unfolding swept point_at natural_range at v_add v_sub v_scale v_dot v_length root_of root_units near_root isqrt tree below grown curve_of kind_of kind_numbered point_of add sub mul div neg lt le eq of_bits of_int
fourth = (refl, refl)

from_start : nearest_of (edge_curve boxed escaping) (natural_range (edge_curve boxed escaping)) (edge_start boxed escaping) 512 ≡ plus_zero
from_start = quarters (edge_curve boxed escaping) (natural_range (edge_curve boxed escaping)) (edge_start boxed escaping) (bits 0xC25D1A94A2000000) first.0 second.0 third.0 fourth.0

from_end : nearest_of (edge_curve boxed escaping) (natural_range (edge_curve boxed escaping)) (edge_end boxed escaping) 512 ≡ plus_zero
from_end = quarters (edge_curve boxed escaping) (natural_range (edge_curve boxed escaping)) (edge_end boxed escaping) (bits 0xC25D1A94A2000000) first.1 second.1 third.1 fourth.1

-- so the short arc has no length
no_length : (a b : Float) → a ≡ plus_zero → b ≡ plus_zero → lt plus_zero (span_of (ordered_interval a b)) ≡ false
unfolding span_of sub lt le eq neg of_bits
no_length a b e f = ap (λ (x : Float). lt plus_zero (span_of (ordered_interval x b))) e ∙ ap (λ (x : Float). lt plus_zero (span_of (ordered_interval plus_zero x))) f

not_both : (a b : Bool) → b ≡ false → a && b ≡ false
not_both true b e = e
not_both false b e = refl

chosen : (b : Bool) (arc : Work Got) → b ≡ false → elim b [ true ↦ arc | false ↦ done (runaway boxed escaping) ] ≡ done (runaway boxed escaping)
chosen b arc e = ap (λ (t : Bool). elim t [ true ↦ arc | false ↦ done (runaway boxed escaping) ]) e

-- a line asks no hyperbola for anything
never_far : (t : Float) → asks_far (edge_curve boxed escaping) t ≡ false
unfolding asks_far tree below grown curve_of kind_of kind_numbered
never_far t = refl

-- and the chord is left, whatever the mode and the options are
pub runs_away : (mode : Mode) (r : Resolved) → by_short_arc mode boxed escaping r ≡ done (runaway boxed escaping)
unfolding short_arc_tried
runs_away mode r =
    short_arc_never mode boxed escaping r never_far
    ∙ chosen _ _ (not_both (is_swept (natural_range (edge_curve boxed escaping))) _ (no_length _ _ from_start from_end))
