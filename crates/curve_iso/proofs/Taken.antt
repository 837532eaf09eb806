-- Which segment of a run is taken, the one that holds the parameter, in the words of specs/Claims.antt. Assumes nothing.
use mathlib.Core.Path.{◌≡◌}
use mathlib.Core.Bool.{false}
use mathlib.Core.List.{List}
use Prim.Native.Nat.{ℕ, ◌-◌, ◌^◌, ◌≤◌, ◌<◌}
use lib.Dec.{T}
use lib.ListN.{length}
use lib.Ieee.{Float, nan, inf, fin, lt, is_nan}
use Rattle.arith_order.proofs.Laws.{number, lt→nle, refuted}
use Rattle.arith.specs.Notation.{count, plus_zero}
use Rattle.arith.proofs.Cmp.{never, holds as holds-true}
use Rattle.math.specs.declared.Vec3.{Vec3}
use Rattle.curve.specs.Eval.{closes, polyline_parameter, index_in, clamped_to}
use Rattle.curve_parameter.proofs.Taken.{taken, clamped_on}
pub use Rattle.curve_parameter.proofs.Taken.{at_most, at_least, Is, floor_is, zero_finite, no_sign_of}
use Rattle.curve_iso.specs.Claims.{LiesOn, Holds}

pub holds : (n : ℕ) (u : Float) → 0 < n → n ≤ 2 ^ 53 → LiesOn n u → Holds n (index_in (n - 1) u) u
holds n u p b l = let h = taken n u p b (l.low, l.high) in record { inside = h.0; low = h.1; high = h.2 }

-- ---- the parameter on the run
is_number : (t : Float) → is_nan t ≡ false → T (number t)
unfolding is_nan
is_number nan h = never h
is_number (inf s) h = tt
is_number (fin s m e) h = tt

module _ (n : ℕ) (t : Float) where
  pub kept : LiesOn n t → clamped_to n t ≡ t
  kept l =
      rw (
        refuted (lt t plus_zero) (λ (h : T (lt t plus_zero)). lt→nle t plus_zero h (holds-true l.low)),
        refuted (lt (count n) t) (λ (h : T (lt (count n) t)). lt→nle (count n) t h (holds-true l.high)),
      )

  pub clamped_lies : is_nan t ≡ false → LiesOn n (clamped_to n t)
  clamped_lies h = let l = clamped_on n t (is_number t h) in record { low = l.0; high = l.1 }

-- an open polyline of n + 1 points clamps as a run of n segments does
pub open_kept : (ps : List Vec3) (t : Float) → closes ps ≡ false → LiesOn (length ps - 1) t → polyline_parameter ps t ≡ t
unfolding polyline_parameter
open_kept ps t h l = rw h (kept (length ps - 1) t l)
