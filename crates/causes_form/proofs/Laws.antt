-- A row that is not malformed is of some kind, and has its run inside. Assumes nothing.
use mathlib.Core.Path.{◌≡◌, refl, subst}
use mathlib.Core.Bool.{false}
use Prim.Native.Nat.{ℕ, ◌+◌, ◌*◌, ◌≤◌}
use lib.ListN.{get_or}
use lib.Dec.{ltb}
use lib.Ieee.{Float, nan}
use Rattle.std.specs.Prelude.{Option, Some, None}
use Rattle.std.proofs.lemmas.Bool.{true≢false, ltb-false}
use Rattle.brep.specs.declared.Kind.{Kind}
use Rattle.brep.specs.Kind.{kind_at}
use Rattle.brep.specs.Rows.{Tables}
use Rattle.causes_bounds.proofs.Laws.{three}
use Rattle.causes_form.specs.Forms.{wrong_count, unused_set, targets, malformed, malformed_row}

module _ (T : Tables) where
  -- the run, or a trim's base, of a row that is not malformed
  run_inside : (kind : Option Kind) (first count : ℕ) (p q : Float) → malformed T kind first count p q ≡ false → (k : Kind) × (kind ≡ Some k) × (first + count ≤ targets T k)
  unfolding malformed
  run_inside None first count p q h = absurd (true≢false h)
  run_inside (Some k) first count p q h =
      let inside = (three (wrong_count k count) (unused_set k p q) (ltb (targets T k) (first + count)) h).2 in
      (k, refl, ltb-false (targets T k) (first + count) inside)

  pub row_inside : (i : ℕ) → malformed_row T i ≡ false → (k : Kind) × (kind_at T.curves i ≡ Some k) × (get_or T.curves (i * 3 + 1) 0 + get_or T.curves (i * 3 + 2) 0 ≤ targets T k)
  unfolding malformed_row
  row_inside i h =
      run_inside (kind_at T.curves i) (get_or T.curves (i * 3 + 1) 0) (get_or T.curves (i * 3 + 2) 0) (get_or T.reals (i * 2) nan) (get_or T.reals (i * 2 + 1) nan) h

  -- the same of a row whose kind is known
  pub run_of_kind : (i : ℕ) (k : Kind) → malformed_row T i ≡ false → kind_at T.curves i ≡ Some k → get_or T.curves (i * 3 + 1) 0 + get_or T.curves (i * 3 + 2) 0 ≤ targets T k
  run_of_kind i k h e =
      let r = row_inside i h in
      let same : r.0 ≡ k = cc in
      subst (λ j. get_or T.curves (i * 3 + 1) 0 + get_or T.curves (i * 3 + 2) 0 ≤ targets T j) same r.2
