-- A degree in radians; an angle counts as clamped exactly where `resolve` changes it. Assumes nothing.
use mathlib.Core.Path.{◌≡◌, refl, sym, ap, ◌∙◌}
use mathlib.Core.Bool.{Bool, true, false, cond, ◌||◌, false≢true}
use lib.Ieee.{Float, binary64, lt, div, of_bits, of_int}
use Rattle.std.specs.Float.{to_radians}
use Rattle.arith.specs.Notation.{◌⊗◌, ◌⊘◌, count}
use Rattle.arith_trig.specs.Trig.{pi}
use Rattle.options.specs.declared.Options.{Options}
use Rattle.options.specs.Options.{degree, least_angle, largest_angle, is_clamped, resolve}

pub one_degree : degree ≡ pi ⊘ count 180
unfolding div of_bits of_int
one_degree = refl

-- and f64::to_radians multiplies by it
pub by_degree : (x : Float) → to_radians binary64 x ≡ x ⊗ degree
unfolding div of_bits
by_degree x = refl

-- neither limit is below itself
least_not_below : lt least_angle least_angle ≡ false
unfolding lt of_bits
least_not_below = refl

largest_not_below : lt largest_angle largest_angle ≡ false
unfolding lt of_bits
largest_not_below = refl

module _ (o : Options) where
  -- one that does not is kept, a NaN among them
  pub kept : is_clamped o.angle ≡ false → (resolve o).angle ≡ o.angle.0
  unfolding is_clamped resolve
  kept = go (lt o.angle.0 least_angle) (lt largest_angle o.angle.0)
    where
      go : (a b : Bool) → a || b ≡ false → cond a least_angle (cond b largest_angle o.angle.0) ≡ o.angle.0
      go true b h = absurd (false≢true (sym h))
      go false true h = absurd (false≢true (sym h))
      go false false h = refl

  -- one that does is changed
  pub changed : is_clamped o.angle ≡ true → (resolve o).angle ≡ o.angle.0 → ⊥
  unfolding is_clamped resolve
  changed = go (lt o.angle.0 least_angle) (lt largest_angle o.angle.0) refl refl
    where
      go : (a b : Bool) → lt o.angle.0 least_angle ≡ a → lt largest_angle o.angle.0 ≡ b → a || b ≡ true → cond a least_angle (cond b largest_angle o.angle.0) ≡ o.angle.0 → ⊥
      go true b e g h k = false≢true (sym least_not_below ∙ ap (λ x. lt x least_angle) k ∙ e)
      go false true e g h k = false≢true (sym largest_not_below ∙ ap (lt largest_angle) k ∙ g)
      go false false e g h k = false≢true h
