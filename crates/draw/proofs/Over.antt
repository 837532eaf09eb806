-- Drawing over tables of any content: over accepted tables it is drawing, every answer is one that a caller can rely on, and `draw_over` by the way out. Assumes nothing but what its statements say.
use Rattle.std.specs.Prelude.{⊤, Ok, Err}
use mathlib.Core.Path.{◌≡◌, refl, sym, ap, subst, ◌∙◌}
use mathlib.Core.Bool.{Bool, true, false, cond, ◌||◌}
use mathlib.Core.List.{List}
use Prim.Native.Nat.{ℕ, ◌*◌, ◌<◌, ◌≤◌}
use native.Mathlib.Omega.{arith}
use lib.ListN.{length}
use lib.Dec.{ltb}
use lib.Ieee.{Float}
use borrow.Author.Tests.{lt-ltb, le-ltb, ltb-false}
use Rattle.brep.specs.declared.Edge.{Edge}
use Rattle.brep.specs.Rows.{Tables, most_segments}
use Rattle.brep.specs.Tree.{CurveTree, analytic, polyline, trimmed, composite, none, segment, tree}
use Rattle.options.specs.declared.Mode.{Mode}
use Rattle.options.specs.declared.Options.{Options}
use Rattle.causes.specs.Causes.{oversize, tables_verdict, edge_verdict}
use Rattle.causes.proofs.Apart.{verdict_edge}
use Rattle.causes.proofs.Checked.{tables_of_lem, edge_numbers}
use Rattle.curve_nests.specs.Nests.{some_composite, nests}
use Rattle.knots.specs.Knots.{segment_knots, curve_knots}
use Rattle.knots_sort.specs.Own.Sortable.{most_knots}
use Rattle.edge_record.specs.Chain.{shortest}
use Rattle.edge_merge.specs.Merge.{merge_floor}
use Rattle.draw_spec.specs.Repair.{Got}
use Rattle.draw_spec.specs.Draw.{local_options, in_buffers, room_of, too_short, drawn, answer_of, first_after, second_after, Outcome}
use Rattle.draw_spec.proofs.Answers as answers
use Rattle.draw_spec.proofs.Answers.{Answered}
use Rattle.draw_spec.proofs.Discretised.{Chained}
use Rattle.draw_spec.proofs.Sound.{Binary, drawn_fits, drawn_numbers}
use Rattle.draw_spec.proofs.Accepted.{in_room, given}
use Rattle.draw_spec.proofs.ReadBack.{outcome}
use Rattle.edge_repair.specs.Own.Redrawn.{DrawnInto}
use Rattle.draw.specs.Over.{long_run, drawn_bounded, drawn_over, Over}
use Rattle.draw.proofs.Few.{knots_fit}
use Rattle.draw.proofs.Laws.{room_answers, early}
use Rattle.draw_spec.specs.declared.Drawn.{Drawn}
use Rattle.refusal.specs.Answer.{Answer}
use Rattle.refusal.specs.declared.Refusal.TheVariants.{Oversize, IllFormed, ShortBuffer, NoRoom, NoSheet}
use Rattle.refusal.specs.declared.Refusal.{Refusal}
use Rattle.refusal.specs.Refusal.{number_of}

-- of two tests of which neither holds
neither : (a b : Bool) → (a || b) ≡ false → (a ≡ false) × (b ≡ false)
neither true b h = cc
neither false b h = (refl, h)

module _ (mode : Mode) (t : Tables) (e : Edge) (o : Options) (first second : ℕ) where
  -- by the tables' sizes, the edge's verdict, and whether a run is too long
  abbrev over_by : Bool → Answer ⊤ → Bool → Answer Got
  over_by z v k = cond z (Err Oversize) (elim v [ Err n ↦ Err n | Ok u ↦ cond k (Err IllFormed) (drawn_bounded mode t e o first second) ])

  over_is : (z : Bool) (v : Answer ⊤) (k : Bool) → oversize t ≡ z → edge_verdict t e o ≡ v → long_run t e ≡ k → drawn_over mode t e o first second ≡ over_by z v k
  unfolding drawn_over
  over_is z v k a b c =
      ap (λ (x : Bool). over_by x (edge_verdict t e o) (long_run t e)) a ∙ ap (λ (x : Answer ⊤). over_by z x (long_run t e)) b
      ∙ ap (λ (x : Bool). over_by z v x) c

  -- over accepted tables no test fires that is not the entry point's
  pub over_same : tables_verdict t ≡ Ok tt → drawn_over mode t e o first second ≡ drawn mode t e o first second
  over_same h = go (edge_verdict t e o) refl
    where
      fits : long_run t e ≡ false
      fits = le-ltb (2 * most_segments) (length (curve_knots (tree t e.curve))) (knots_fit t (tables_of_lem t h).0 (tables_of_lem t h).1 e.curve)

      go : (v : Answer ⊤) → edge_verdict t e o ≡ v → drawn_over mode t e o first second ≡ drawn mode t e o first second
      go (Err n) q =
          over_is false (Err n) false (tables_of_lem t h).0 q fits
          ∙ sym (given mode t e o first second (Err n) (too_short first second) (verdict_edge t e o h ∙ q) refl)
      go (Ok u) q =
          over_is false (Ok tt) false (tables_of_lem t h).0 q fits
          ∙ either (nests (tree t e.curve))
        where
          either : (m : Bool) → cond m (drawn mode t e o first second) (in_buffers mode t e o first second) ≡ drawn mode t e o first second
          either true = refl
          either false = sym (given mode t e o first second (Ok tt) (too_short first second) (verdict_edge t e o h ∙ q) refl)

-- ---- every answer is a refusal from 1 to 9, or 11, or a chain that fits both buffers
abbrev pub Answerable : ℕ → ℕ → Answer Got → Type 0
Answerable first second (Err n) = (1 ≤ number_of n) × (number_of n ≤ 11) × (n ≡ NoSheet → ⊥)
Answerable first second (Ok g) = length g.chain ≤ room_of first second

module _ (mode : Mode) (t : Tables) (e : Edge) (o : Options) (first second : ℕ) where
  buffers_answerable : (b : Bool) → too_short first second ≡ b → Answerable first second (cond b (Err ShortBuffer) (in_room mode t e o first second))
  buffers_answerable true h = (omega arith, omega arith, λ z. cc)
  buffers_answerable false h =
      let k = neither (ltb first shortest) (ltb second shortest) h in
      of (room_answers mode t e (local_options t e o) first second (ltb-false first shortest k.0) (ltb-false second shortest k.1))
    where
      of : {b : Bool} {x : Answer Got}
          → Answered (λ (g : Got). Chained ⊥ t e (merge_floor e.tolerance (local_options t e o).sag) (room_of first second) g.chain) b x
          → Answerable first second (cond b (Err NoRoom) x)
      of (answers.answer c) = c.fits
      of answers.eight = (omega arith, omega arith, λ z. cc)
      of answers.nine = (omega arith, omega arith, λ z. cc)
      of answers.eleven = (omega arith, omega arith, λ z. cc)

  pub drawn_answerable : Answerable first second (drawn mode t e o first second)
  drawn_answerable = go (drawn mode t e o first second) refl
    where
      go : (d : Answer Got) → drawn mode t e o first second ≡ d → Answerable first second d
      go (Err n) q = drawn_numbers mode t e o first second n q
      go (Ok g) q = drawn_fits mode t e o first second g q

  bounded_answerable : (m : Bool) → Answerable first second (cond m (drawn mode t e o first second) (in_buffers mode t e o first second))
  bounded_answerable true = drawn_answerable
  bounded_answerable false = buffers_answerable (too_short first second) refl

  pub over_answerable : Answerable first second (drawn_over mode t e o first second)
  over_answerable = go (oversize t) (edge_verdict t e o) (long_run t e) refl refl refl
    where
      go : (z : Bool) (v : Answer ⊤) (k : Bool) → oversize t ≡ z → edge_verdict t e o ≡ v → long_run t e ≡ k → Answerable first second (drawn_over mode t e o first second)
      go z v k a b c = subst (Answerable first second) (sym (over_is mode t e o first second z v k a b c)) (each z v k b)
        where
          each : (z : Bool) (v : Answer ⊤) (k : Bool) → edge_verdict t e o ≡ v → Answerable first second (over_by mode t e o first second z v k)
          each true v k b = (omega arith, omega arith, λ x. cc)
          each false (Err n) k b = let m = edge_numbers t e o n b in (m.0, omega (arith, m.1), λ x. let z = ap number_of x in omega (arith, z, m.1))
          each false (Ok u) true b = (omega arith, omega arith, λ x. cc)
          each false (Ok u) false b = bounded_answerable (nests (tree t e.curve))

-- ---- a curve with no knots has no segments, so that nothing nests
pub flat_curve : (c : CurveTree) → length (curve_knots c) ≡ 0 → nests c ≡ false
unfolding curve_knots segment_knots nests some_composite
flat_curve (analytic c) h = refl
flat_curve (polyline ps) h = refl
flat_curve (trimmed base range) h = flat_curve base h
flat_curve (composite none) h = refl
flat_curve (composite (segment curve range same rest)) h = absurd (omega arith)

-- ---- draw_bounded, by the way out
module _ (mode : Mode) (t : Tables) (e : Edge) (o : Options) (first second : List Float) (answer : Answer Drawn) (f s : List Float) where
  -- by whether composites nest
  bounded_is : (m : Bool) → nests (tree t e.curve) ≡ m
      → DrawnInto (cond m (drawn mode t e o (length first) (length second)) (in_buffers mode t e o (length first) (length second))) first second answer f s
      → DrawnInto (drawn_bounded mode t e o (length first) (length second)) first second answer f s
  bounded_is m h = subst (λ (x : Bool). DrawnInto (cond x (drawn mode t e o (length first) (length second)) (in_buffers mode t e o (length first) (length second))) first second answer f s) (sym h)

  pub bounded_nested : nests (tree t e.curve) ≡ true → Outcome mode t e o first second answer f s → DrawnInto (drawn_bounded mode t e o (length first) (length second)) first second answer f s
  bounded_nested h d = bounded_is true h (record { answered = d.answered; first_holds = d.first_holds; second_holds = d.second_holds })

  pub bounded_flat : nests (tree t e.curve) ≡ false → DrawnInto (in_buffers mode t e o (length first) (length second)) first second answer f s
      → DrawnInto (drawn_bounded mode t e o (length first) (length second)) first second answer f s
  bounded_flat h d = bounded_is false h d

-- ---- draw_over, by the way out
module _ (mode : Mode) (t : Tables) (e : Edge) (o : Options) (b : Binary t e) (first second : List Float) where
  whole : (answer : Answer Drawn) (f s : List Float) → DrawnInto (drawn_over mode t e o (length first) (length second)) first second answer f s → Over mode t e o first second answer f s
  whole answer f s d = record {
    answered = d.answered;
    first_holds = d.first_holds;
    second_holds = d.second_holds;
    same = λ h.
        let k = over_same mode t e o (length first) (length second) h in
        outcome mode t e o first second answer f s (d.answered ∙ ap answer_of k) (d.first_holds ∙ ap (first_after first) k) (d.second_holds ∙ ap (second_after second) k) b;
  }

  refuses : (n : Refusal) → number_of n ≤ 7 → drawn_over mode t e o (length first) (length second) ≡ Err n → Over mode t e o first second (Err n) first second
  refuses n h q = whole (Err n) first second (early n first second (drawn_over mode t e o (length first) (length second)) h q)

  pub over_sizes : oversize t ≡ true → Over mode t e o first second (Err Oversize) first second
  over_sizes z = refuses Oversize (omega arith) (over_is mode t e o (length first) (length second) true (edge_verdict t e o) (long_run t e) z refl refl)

  module _ (z : oversize t ≡ false) where
    pub over_edge : (n : Refusal) → edge_verdict t e o ≡ Err n → Over mode t e o first second (Err n) first second
    over_edge n v = refuses n (omega (arith, edge_numbers t e o n v)) (over_is mode t e o (length first) (length second) false (Err n) (long_run t e) z v refl)

    pub over_run : edge_verdict t e o ≡ Ok tt → most_knots < length (curve_knots (tree t e.curve)) → Over mode t e o first second (Err IllFormed) first second
    over_run v k = refuses IllFormed (omega arith)
        (over_is mode t e o (length first) (length second) false (Ok tt) true z v (lt-ltb (2 * most_segments) (length (curve_knots (tree t e.curve))) k))

    pub over_drawn : edge_verdict t e o ≡ Ok tt → length (curve_knots (tree t e.curve)) ≤ most_knots
        → (answer : Answer Drawn) (f s : List Float) → DrawnInto (drawn_bounded mode t e o (length first) (length second)) first second answer f s → Over mode t e o first second answer f s
    over_drawn v k answer f s d = whole answer f s
        (subst (λ (x : Answer Got). DrawnInto x first second answer f s)
        (sym (over_is mode t e o (length first) (length second) false (Ok tt) false z v (le-ltb (2 * most_segments) (length (curve_knots (tree t e.curve))) k))) d)
