-- What callers use: how many knots a run has, that a composite's knots are its run's, and that they fit where every composite is short enough.
-- Assumes nothing.
use mathlib.Core.Path.{◌≡◌, refl, sym, ap, ◌∙◌}
use mathlib.Core.Bool.{Bool, true, false}
use mathlib.Core.List.{List, ◌∷◌}
use Prim.Native.Nat.{ℕ, zero, suc, ◌*◌, ◌≤◌}
use native.Mathlib.Omega.{arith}
use lib.ListN.{length}
use lib.Dec.{eqb}
use lib.Ieee.{Float}
use borrow.Author.Tests.{eqb-true, eqb-false}
use Rattle.brep.specs.declared.Curve.TheVariants.{Composite}
use Rattle.brep.specs.declared.LentTables.{LentTables}
use Rattle.brep.specs.Rows.{Tables, lent}
use Rattle.brep.specs.Tree.{CurveTree, segments, grown, below, segment_in, row_in, tree}
use Rattle.brep.proofs.ByKind.{row_kind, row_first, row_count, row_trim, row_composite, row_leaf}
use Rattle.knots.specs.Knots.{segment_knots, curve_knots}
use Rattle.brep.specs.declared.Run.{Run}
use Rattle.knots.specs.Own.Gathered.{run_knots, KnotsOfRun}

pub run_length : (parts : List ℕ) (ranges : List Float) (first n : ℕ) → length (run_knots parts ranges first n) ≡ 2 * n
unfolding run_knots
run_length parts ranges first zero = refl
run_length parts ranges first (suc n) = omega (arith, run_length parts ranges (suc first) n)

pub run_knots_lem : (T : Tables) (f : ℕ → CurveTree) (first n : ℕ) → segment_knots (segments T f first n) ≡ run_knots T.parts T.ranges first n
unfolding segment_knots segments run_knots
run_knots_lem T f first zero = refl
run_knots_lem T f first (suc n) = ap (λ (l : List Float). (segment_in T first).range.lo ∷ (segment_in T first).range.hi ∷ l) (run_knots_lem T f (suc first) n)

-- a row's knots in lent tables, as its run has them
module _ (t : LentTables) (row : ℕ) (run : Run) (h : KnotsOfRun t.curves.now row run) where
  pub run_is : run_knots t.parts.now t.ranges.now run.first run.count ≡ curve_knots (tree (lent t) row)
  run_is = h t.points.now t.reals.now t.parts.now t.ranges.now

  pub run_counted : 2 * run.count ≡ length (curve_knots (tree (lent t) row))
  run_counted = sym (run_length t.parts.now t.ranges.now run.first run.count) ∙ ap length run_is

-- ---- where no composite has more than n segments, no curve has more than 2 n knots
module _ (T : Tables) (n : ℕ) (short : (i : ℕ) (own : Run) → row_in T i ≡ Composite own → own.count ≤ n) where
  few_grown : (f : ℕ → CurveTree) → ((i : ℕ) → length (curve_knots (f i)) ≤ 2 * n) → (row : ℕ) → length (curve_knots (grown T f (row_in T row))) ≤ 2 * n
  unfolding curve_knots grown
  few_grown f h row = go (eqb (row_kind T row) 6) (eqb (row_kind T row) 7) refl refl
    where
      go : (a b : Bool) → eqb (row_kind T row) 6 ≡ a → eqb (row_kind T row) 7 ≡ b → length (curve_knots (grown T f (row_in T row))) ≤ 2 * n
      go true b e g = rw (← row_trim T row (eqb-true (row_kind T row) 6 e)) (h (row_first T row))
      go false true e g =
          let r = row_composite T row (eqb-true (row_kind T row) 7 g) in
          let l = run_knots_lem T f (row_first T row) (row_count T row) in
          rw (← r) (omega (arith, short row _ (sym r), ap length l, run_length T.parts T.ranges (row_first T row) (row_count T row)))
      go false false e g =
          row_leaf T row f (λ c. length (curve_knots c) ≤ 2 * n) (λ c. omega arith) (λ ps. omega arith)
          (eqb-false (row_kind T row) 6 e) (eqb-false (row_kind T row) 7 g)

  few_below : (k i : ℕ) → length (curve_knots (below T k i)) ≤ 2 * n
  unfolding curve_knots below
  few_below zero i = omega arith
  few_below (suc k) i = go (eqb i k) (grown T (below T k) (row_in T k)) (below T k i) (few_grown (below T k) (few_below k) k) (few_below k i)
    where
      go : (b : Bool) (c d : CurveTree) → length (curve_knots c) ≤ 2 * n → length (curve_knots d) ≤ 2 * n → length (curve_knots (elim b [ true ↦ c | false ↦ d ])) ≤ 2 * n
      go true c d h g = h
      go false c d h g = g

  pub knots_few : (row : ℕ) → length (curve_knots (tree T row)) ≤ 2 * n
  unfolding tree
  knots_few row = few_grown (below T row) (few_below row) row
