-- The steps of `ascending`: what passes, sorted, merged and cleared behind, each on what the one before left. Assumes nothing.
use mathlib.Core.Path.{◌≡◌, sym, ap, ◌∙◌}
use mathlib.Core.List.{List, ◌++◌}
use Prim.Native.Nat.{ℕ, ◌≤◌}
use native.Mathlib.Omega.{arith}
use lib.ListN.{length, take, drop, length-append, length-drop}
use lib.Seq.{length-take-le, take-append-le}
use lib.Ieee.{Float}
use Rattle.arith.specs.Notation.{◌⊖◌, ◌⊗◌}
use Rattle.arith.specs.Constants.{billionth}
use Rattle.base_lists.specs.Room.{filled}
use Rattle.knots_sort.specs.Sort.{sorted}
use Rattle.knots_inside.specs.Breaks.{deduped, passing_upward, inside_upward}
use Rattle.knots_inside.proofs.Kept.{inside_passing}

-- r: the knots after `passing_upward`, which answered n; b: the first n after the sort and `dedup`, which answered m
module _ (knots : List Float) (lo hi : Float) (r : List Float) (n : ℕ) (same_length : length r ≡ length knots) (fit : n ≤ length knots) (passed : take n r ≡ passing_upward knots lo hi)
    (b : List Float) (m : ℕ) (as_long : length b ≡ length (take n r)) (fewer : m ≤ length b) (merged : take m b ≡ deduped ((hi ⊖ lo) ⊗ billionth) (sorted (take n r))) where
  front : take m (b ++ drop n r) ≡ inside_upward knots lo hi
  front =
      take-append-le m b (drop n r) fewer ∙ merged
      ∙ ap (λ (l : List Float). deduped ((hi ⊖ lo) ⊗ billionth) (sorted l)) passed ∙ sym (inside_passing knots lo hi)

  whole_length : length (b ++ drop n r) ≡ length knots
  whole_length = length-append b (drop n r) ∙ omega (arith, as_long, length-take-le n r (omega arith), length-drop n r)

  -- d: all of it after the clearing
  pub cleared : (d : List Float) → d ≡ filled (length (b ++ drop n r)) (take m (b ++ drop n r)) → (m ≡ length (inside_upward knots lo hi)) × (d ≡ filled (length knots) (inside_upward knots lo hi))
  cleared d e = (
    sym (length-take-le m (b ++ drop n r) (omega (arith, length-append b (drop n r)))) ∙ ap length front,
    e ∙ ap (λ (k : ℕ). filled k (take m (b ++ drop n r))) whole_length ∙ ap (filled (length knots)) front,
  )
