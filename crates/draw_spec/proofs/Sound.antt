-- The five clauses of every chain that drawing answers with. Assumes nothing but what its statements say.
use Rattle.std.specs.Prelude.{Ok, Err}
use mathlib.Core.Path.{◌≡◌, refl}
use mathlib.Core.Bool.{false}
use Prim.Native.Nat.{ℕ, ◌≤◌}
use native.Mathlib.Omega.{arith}
use lib.Dec.{T, ltb}
use lib.ListN.{length}
use lib.Ieee.{binary64, fits}
use borrow.Author.Tests.{ltb-false}
use Rattle.brep.specs.declared.Edge.{Edge}
use Rattle.brep.specs.Rows.{Tables}
use Rattle.options.specs.declared.Mode.{Mode}
use Rattle.options.specs.declared.Options.{Options}
use Rattle.causes.specs.Causes.{verdict}
use Rattle.std.proofs.lemmas.Bool.{or_parts}
use Rattle.causes.proofs.Checked.{checked, verdict_numbers}
use Rattle.edge_params.specs.Work.{overflows, within}
use Rattle.edge_params.proofs.Ends.{size_grows, size_good}
use Rattle.edge_record.specs.Chain.{shortest}
use Rattle.edge_merge.specs.Merge.{merge_floor}
use Rattle.draw_spec.specs.Repair.{Got}
use Rattle.draw_spec.specs.Draw.{local_options, referenced, room_of, too_short, drawn, Sound}
use Rattle.draw_spec.specs.Own.Binary.{AllBinary64}
use Rattle.draw_spec.proofs.Tame.{bounded_size, tree_tame}
use Rattle.draw_spec.proofs.Accepted.{Refuses, by_tables, by_buffers, by_drawing, accepts, refuses}
use Rattle.draw_spec.proofs.Answers.{Answers, late_above, late_number, Cause, answers_got, answers_cause, answers_refused}
use Rattle.draw_spec.proofs.Discretised.{Chained, Room}
use Rattle.draw_spec.proofs.Repaired.{OwnRange, referenced_answers}
use Rattle.refusal.specs.declared.Refusal.{Refusal}
use Rattle.refusal.specs.Refusal.{number_of}
use Rattle.refusal.specs.declared.Refusal.TheVariants.{NoSheet}

-- that the floats are binary64, as those of a function's f64 arguments and lent slices of f64 are
pub record Binary (t : Tables) (e : Edge) : Type 0 where
  pub reals : AllBinary64 t.reals
  pub ranges : AllBinary64 t.ranges
  pub lo : T (fits binary64 e.range.lo)
  pub hi : T (fits binary64 e.range.hi)

-- ---- the room
room_fine : (first second : ℕ) → too_short first second ≡ false → Room (room_of first second)
unfolding room_of
room_fine first second h =
    let k = or_parts (ltb first shortest) (ltb second shortest) h in
    let p = ltb-false first shortest k.0 in
    let q = ltb-false second shortest k.1 in
    record { least = omega arith; most = omega arith }

module _ (mode : Mode) (t : Tables) (e : Edge) (o : Options) (first second : ℕ) where
  -- ---- the hypotheses that accepted tables meet
  own_range : verdict t e o ≡ Ok tt → Binary t e → OwnRange e.range
  own_range a b =
      let k = checked t e o a in
      record {
        ends = record {
          low = λ f. size_good 30 e.range.lo (omega arith) b.lo (bounded_size e.range.lo (k.lo_bounded f));
          high = λ f. size_good 30 e.range.hi (omega arith) b.hi (bounded_size e.range.hi (k.hi_bounded f));
        };
        low = λ f. size_grows 30 40 e.range.lo (omega arith) (bounded_size e.range.lo (k.lo_bounded f));
      }

  drawn_answers : verdict t e o ≡ Ok tt → too_short first second ≡ false
      → Answers (room_of first second) (λ (g : Got). Chained (Binary t e) t e (merge_floor e.tolerance (local_options t e o).sag) (room_of first second) g.chain)
      (referenced mode t e (local_options t e o))
  drawn_answers a h =
      let k = checked t e o a in
      referenced_answers (Binary t e) mode t e (λ b. tree_tame t e o k b.reals b.ranges e.curve k.curve_inside) (own_range a) (room_of first second)
      (room_fine first second h) (local_options t e o)

  chained : (g : Got) → drawn mode t e o first second ≡ Ok g → Chained (Binary t e) t e (merge_floor e.tolerance (local_options t e o).sag) (room_of first second) g.chain
  chained g q = let a = accepts mode t e o first second g q in answers_got g (drawn_answers a.accepted a.long) a.made

  -- DEMAND 3: of a chain, whichever way it was got, all five clauses hold together
  pub drawn_sound : (g : Got) → Binary t e → drawn mode t e o first second ≡ Ok g → Sound t e (merge_floor e.tolerance (local_options t e o).sag) g.chain
  drawn_sound g b q = (chained g q).sound b

  -- it fits the room, and so both buffers
  pub drawn_fits : (g : Got) → drawn mode t e o first second ≡ Ok g → length g.chain ≤ room_of first second
  drawn_fits g q = (chained g q).fits

  -- ---- the numbers of refusals
  -- once none of 1 to 7 applies, 8 is for a list that is longer than the room, 9 for a reference that never ends, and 11 for one that would ask
  -- a hyperbola for a parameter that is too far
  pub drawn_late : (n : Refusal) → within (room_of first second) (referenced mode t e (local_options t e o)) ≡ Err n → verdict t e o ≡ Ok tt → too_short first second ≡ false
      → Cause (overflows (room_of first second) (referenced mode t e (local_options t e o)).acts) (referenced mode t e (local_options t e o)).end n
  drawn_late n q a h = answers_cause n (drawn_answers a h) q

  -- every refusal is from 1 to 9, or 11
  pub drawn_numbers : (n : Refusal) → drawn mode t e o first second ≡ Err n → (1 ≤ number_of n) × (number_of n ≤ 11) × (n ≡ NoSheet → ⊥)
  drawn_numbers n q = go (refuses mode t e o first second n q)
    where
      go : Refuses mode t e o first second n → (1 ≤ number_of n) × (number_of n ≤ 11) × (n ≡ NoSheet → ⊥)
      go (by_tables a) = let k = verdict_numbers t e o n a in (k.0, omega (arith, k.1), λ z. let w : number_of n ≡ 10 = rw z refl in omega (arith, k.1))
      go (by_buffers a b z) = (rw z (omega arith), rw z (omega arith), λ t. cc)
      go (by_drawing a b r) =
          let l = answers_refused n (drawn_answers a b) r in
          let k = late_number l in
          (omega (arith, late_above l), k.0, k.1)
