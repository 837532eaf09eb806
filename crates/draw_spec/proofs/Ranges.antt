-- The ranges that are sampled: their ends are no further from 0 than sampling can halve. Assumes nothing.
use Rattle.std.specs.Prelude.{Option, Float, Some, None}
use mathlib.Core.Path.{◌≡◌, refl, subst}
use mathlib.Core.Bool.{Bool, true, false, cond, not, ◌&&◌, ◌||◌, beq}
use Prim.Native.Nat.{ℕ, zero, suc, ◌≤◌}
use native.Mathlib.Omega.{arith}
use lib.Dec.{T}
use lib.Ieee.{Float, nan, inf, fin, binary64, le, lt, is_nan, of_bits, add}
use lib.Ieee.Scale.{finite}
use lib.Ieee.Fits.{add-fits, sub-fits}
use Rattle.arith_order.proofs.Lerp.{quot_low, quot_high, quot_finite}
use Rattle.arith.specs.Notation.{◌⊕◌, ◌⊖◌, ◌⊗◌, ◌⊘◌, count, plus_zero}
use Rattle.arith.specs.Constants.{five_twelve, billion, billionth}
use Rattle.arith.proofs.Constants.{constants}
use Rattle.arith.specs.Pick.{abs_of}
use Rattle.math.specs.declared.Vec3.{Vec3}
use Rattle.math.specs.declared.Interval.{Interval}
use Rattle.math.specs.Math.{distance, interval, span_of}
use Rattle.brep.specs.Tree.{CurveTree}
use Rattle.curve.specs.Eval.{natural_range, period, point_at}
use Rattle.edge_params.proofs.Runs.{Good}
use Rattle.edge_params.proofs.Ends.{Size, size_grows, size_good, abs_size, good_either, add_size, sub_size, Unit, part_size, at_good}
use Rattle.edge_range.specs.Usable.{own_range, clamped_to_domain, within_domain, is_no_range, usable_range}
use Rattle.draw_spec.specs.Repair.{sweep_at, nearest_of, nearest, ordered_interval}
use Rattle.draw_spec.proofs.Tame.{Reach, Tame}

-- an edge's range: where an end is finite, sampling can halve it
pub record Ends (range : Interval) : Type 0 where
  pub low : T (finite range.lo) → Good range.lo
  pub high : T (finite range.hi) → Good range.hi

-- a range that is sampled: both ends are finite
pub record Goods (range : Interval) : Type 0 where
  pub low : Good range.lo
  pub high : Good range.hi

pub goods_ends : {range : Interval} → Goods range → Ends range
goods_ends g = record { low = λ f. g.low; high = λ f. g.high }

reach_goods : (range : Interval) → Reach range → Goods range
reach_goods range r = record {
  low = size_good 40 range.lo (omega arith) r.low_fits r.low;
  high = size_good 40 range.hi (omega arith) r.high_fits r.high;
}

-- ---- usable_range
billionth_unit : Unit billionth
unfolding of_bits le
billionth_unit = record { is_finite = tt; from = tt; to = tt }

module _ (natural : Interval) (r : Reach natural) where
  slack_size : Size 41 (abs_of (span_of natural) ⊗ billionth)
  unfolding span_of
  slack_size =
      part_size 41 (omega arith) (abs_of (span_of natural)) billionth
      (abs_size 41 (span_of natural) (sub_size 40 (omega arith) natural.hi natural.lo r.high r.low)) billionth_unit

  clamped_goods : (range : Interval) → Goods range → Goods (clamped_to_domain natural range)
  unfolding clamped_to_domain
  clamped_goods range g =
      let slack = abs_of (span_of natural) ⊗ billionth in
      let low = sub_size 41 (omega arith) natural.lo slack (size_grows 40 41 natural.lo (omega arith) r.low) slack_size in
      let high = add_size 41 (omega arith) natural.hi slack (size_grows 40 41 natural.hi (omega arith) r.high) slack_size in
      record {
        low = good_either (lt range.lo (natural.lo ⊖ slack) || is_nan range.lo) (natural.lo ⊖ slack) range.lo
            (size_good 42 (natural.lo ⊖ slack) (omega arith) (sub-fits binary64 natural.lo slack) low) g.low;
        high = good_either (lt (natural.hi ⊕ slack) range.hi || is_nan range.hi) (natural.hi ⊕ slack) range.hi
            (size_good 42 (natural.hi ⊕ slack) (omega arith) (add-fits binary64 natural.hi slack) high) g.high;
      }

found_is : (a b : Interval) → Some a ≡ Some b → Goods a → Goods b
found_is a b e g = let q : a ≡ b = cc in subst Goods q g

no_range : (a : Interval) → None ≡ Some a → Goods a
no_range a e = absurd (let z : ◌≡◌ {A = ℕ} 0 1 = cc in omega arith)

module _ (c : CurveTree) (tame : Tame c) (found : Interval) where
  own_goods : own_range (natural_range c) ≡ Some found → Goods found
  unfolding own_range
  own_goods = go (finite (span_of (natural_range c)) && lt (abs_of (span_of (natural_range c))) billion)
    where
      go : (b : Bool) → cond b (Some (natural_range c)) None ≡ Some found → Goods found
      go true e = found_is (natural_range c) found e (reach_goods (natural_range c) tame.own)
      go false e = no_range found e

  domain_goods : (range : Interval) → Goods range → (p : Option Float) → Goods (within_domain p (natural_range c) range)
  unfolding within_domain
  domain_goods range g (Some p) = g
  domain_goods range g None = clamped_goods (natural_range c) tame.own range g

  both_finite : (a b s : Bool) → not a || (not b || s) ≡ false → T a × T b
  both_finite true true s e = (tt, tt)
  both_finite true false s e = absurd (let z : ◌≡◌ {A = ℕ} 0 1 = cc in omega arith)
  both_finite false b s e = absurd (let z : ◌≡◌ {A = ℕ} 0 1 = cc in omega arith)

  pub usable_goods : (range : Interval) → Ends range → usable_range c range ≡ Some found → Goods found
  unfolding usable_range
  usable_goods range h = go (is_no_range range) refl
    where
      go : (b : Bool) → is_no_range range ≡ b → cond b (own_range (natural_range c)) (Some (within_domain (period c) (natural_range c) range)) ≡ Some found → Goods found
      go true q e = own_goods e
      go false q e =
          let f = both_finite (finite range.lo) (finite range.hi) (le (span_of range) plus_zero) q in
          found_is (within_domain (period c) (natural_range c) range) found e
          (domain_goods range (record { low = h.low f.0; high = h.high f.1 }) (period c))

-- ---- the complementary arc
left_finite : (a p : Float) → T (finite (a ⊕ p)) → T (finite a)
unfolding add
left_finite nan p f = f
left_finite (inf s) nan f = f
left_finite (inf s) (inf u) f = go (beq s u) f
  where
    go : (b : Bool) → T (finite (cond b (inf s) nan)) → ⊥
    go true f = f
    go false f = f
left_finite (inf s) (fin u m e) f = f
left_finite (fin s m e) p f = tt

pub complement_ends : (range : Interval) (p : Float) → Ends range → (T (finite range.lo) → Size 40 range.lo) → Size 40 p → Ends (interval range.hi (range.lo ⊕ p))
complement_ends range p h l s = record {
  low = h.high;
  high = λ f.
      size_good 41 (range.lo ⊕ p) (omega arith) (add-fits binary64 range.lo p)
      (add_size 40 (omega arith) range.lo p (l (left_finite range.lo p f)) s);
}

-- ---- the short arc
module _ (c : CurveTree) (tame : Tame c) where
  sweep_good : (i : ℕ) → i ≤ 512 → Good (sweep_at (natural_range c) i)
  sweep_good i h =
      at_good (natural_range c) (count i ⊘ five_twelve) tame.own.low tame.own.high
      (rw constants.is_five_twelve
      (record {
        is_finite = quot_finite binary64 512 (omega arith) (omega arith) i h;
        from = quot_low binary64 512 (omega arith) (omega arith) i h;
        to = quot_high binary64 512 (omega arith) (omega arith) i h;
      }))

  nearest_good : (target : Vec3) (n : ℕ) → n ≤ 512 → Good (nearest_of c (natural_range c) target n)
  unfolding nearest_of
  nearest_good target zero h = sweep_good 0 (omega arith)
  nearest_good target (suc n) h =
      let best = nearest_of c (natural_range c) target n in
      let next = sweep_at (natural_range c) (suc n) in
      good_either (lt (distance (point_at c next) target) (distance (point_at c best) target)) next best (sweep_good (suc n) h) (nearest_good target n (omega arith))

  pub short_goods : (a b : Vec3) → Goods (ordered_interval (nearest c a) (nearest c b))
  short_goods a b = go (le (nearest c a) (nearest c b))
    where
      go : (t : Bool) → Goods (cond t (interval (nearest c a) (nearest c b)) (interval (nearest c b) (nearest c a)))
      go true = record { low = nearest_good a 512 (omega arith); high = nearest_good b 512 (omega arith) }
      go false = record { low = nearest_good b 512 (omega arith); high = nearest_good a 512 (omega arith) }
