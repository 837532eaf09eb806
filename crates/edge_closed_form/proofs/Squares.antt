-- The root of the largest square is the largest of the roots, to every comparison: a root rises with what stands under it. Assumes nothing.
use mathlib.Core.Path.{◌≡◌, refl, sym, subst}
use mathlib.Core.Bool.{Bool, true, false, cond, ◌||◌}
use lib.Dec.{T}
use lib.Ieee.{Float, binary64, fits, lt, le, of_bits}
use lib.Ieee.Bits.{is_true}
use Rattle.arith_order.proofs.Signed.{zero_f}
use Rattle.arith_order.proofs.Laws.{number, le_refl, le_trans, le_lt_trans, lt→le, number_right, nlt→le}
use Rattle.arith.specs.Notation.{plus_zero}
use Rattle.arith.specs.Pick.{max_of}
use Rattle.arith.proofs.Cmp.{holds, fails, number_not_nan}
use Rattle.arith_root.specs.Root.{root_of}
use Rattle.arith_root.proofs.Laws.{root_monotone}
use Rattle.arith_root_limit.proofs.Roots.{root_not_below}
use Rattle.math.specs.Math.{v_length}
use Rattle.brep.specs.Tree.{CurveTree}
use Rattle.edge_closed_form.specs.Miss.{miss_of}
use Rattle.edge_closed_form.specs.Own.Worst.{miss_square, larger_of, Alike}

pub miss_root : (c : CurveTree) (a b : Float) → root_of (miss_square c a b) ≡ miss_of c a b
unfolding miss_square miss_of v_length
miss_root c a b = refl

-- a square so far: a float not below zero, whose root is like the largest root so far
pub record Worst (w m : Float) : Type 0 where
  pub format : T (fits binary64 w)
  pub low : T (le zero_f w)
  pub alike : Alike (root_of w) m

pub worst_first : Worst plus_zero plus_zero
unfolding of_bits root_of le fits
worst_first = record { format = tt; low = tt; alike = record { below = tt; above = tt } }

-- no comparison with a limit tells them apart
pub same_test : (x y limit : Float) → Alike x y → le x limit ≡ le y limit
same_test x y limit a =
    both (le x limit) (le y limit) (λ (h : T (le x limit)). le_trans y x limit a.above h) (λ (h : T (le y limit)). le_trans x y limit a.below h)
  where
    both : (b c : Bool) → (T b → T c) → (T c → T b) → b ≡ c
    both true c f g = sym (is_true c (f tt))
    both false true f g = absurd (g tt)
    both false false f g = refl

module _ (w m s : Float) (h : Worst w m) (F : T (fits binary64 s)) where
  real : T (number m)
  real = number_right (root_of w) m h.alike.below

  -- where the square is above the worst, so is its root, or they are alike
  taken : T (lt w s) → Worst s (max_of m (root_of s))
  taken k = record { format = F; low = le_trans zero_f w s h.low (lt→le w s k); alike = rw (number_not_nan m real) (go (lt m (root_of s)) refl) }
    where
      up : T (le (root_of w) (root_of s))
      up = root_monotone w s h.format F h.low (lt→le w s k)

      go : (b : Bool) → lt m (root_of s) ≡ b → Alike (root_of s) (cond (b || false) (root_of s) m)
      go true e = let r = le_refl (root_of s) (number_right (root_of w) (root_of s) up) in record { below = r; above = r }
      go false e = record {
        below = nlt→le m (root_of s) real (number_right (root_of w) (root_of s) up) (fails e);
        above = le_trans m (root_of w) (root_of s) h.alike.above up;
      }

  -- and where it is not, neither is its root
  left : lt w s ≡ false → Worst w (max_of m (root_of s))
  left k = record { format = h.format; low = h.low; alike = rw (number_not_nan m real) (go (lt m (root_of s)) refl) }
    where
      go : (b : Bool) → lt m (root_of s) ≡ b → Alike (root_of w) (cond (b || false) (root_of s) m)
      go true e = absurd (subst T (root_not_below w s h.format F k) (le_lt_trans (root_of w) m (root_of s) h.alike.below (holds e)))
      go false e = h.alike

  pub worst_next : Worst (larger_of w s) (max_of m (root_of s))
  unfolding larger_of
  worst_next = go (lt w s) refl
    where
      go : (b : Bool) → lt w s ≡ b → Worst (cond b s w) (max_of m (root_of s))
      go true e = taken (holds e)
      go false e = left e
