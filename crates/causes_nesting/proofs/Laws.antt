-- A row's depth is its nesting where it is in order, and what the rows gone by come to. Assumes nothing.
use Rattle.std.proofs.Common.{◌≡◌, ℕ, zero, suc, ◌+◌, ◌*◌, ◌<◌, ◌≤◌, min, max, Bool, true, false, cond, ◌||◌, refl, sym, ap, ◌∙◌, arith, length, get_or, set, eqb, ltb, leb, Option, Some, None, Ok, Err}
use Rattle.std.specs.Prelude.{⊤}
use Rattle.std.proofs.Math.Nat.{not-suc-le-zero, add-zero}
use Rattle.std.proofs.Math.Numerals.{add-one}
use Rattle.std.proofs.Math.Seq.{get_or-set_same, get_or-set_other}
use Rattle.std.proofs.Math.ListN.{length-set}
use Rattle.std.proofs.lemmas.Bool.{true≢false, eqb-true, eqb-false, ne_eqb, eq-eqb, ltb-true, ltb-false, le-leb, lt-leb}
use Rattle.std.proofs.lemmas.Bool.Decides.{nat_tests}
use Rattle.brep.specs.declared.Kind.{Kind}
use Rattle.brep.specs.declared.Kind.TheVariants.{Line, Circle, Ellipse, Parabola, Polyline, Trimmed, Composite, Hyperbola}
use Rattle.brep.specs.Kind.{kind_at}
use Rattle.brep.specs.Rows.{Tables, kind_of, curve_of, segment_of}
use Rattle.brep.specs.Tree.{CurveTree, segment_in, segments, grown, below, tree}
use Rattle.brep.proofs.Laws.{lower}
use Rattle.brep.proofs.ByKind.{row_first, row_count, curve_by}
use Rattle.refusal.specs.Answer.{Answer}
use Rattle.refusal.specs.declared.Refusal.TheVariants.{IllFormed, Unordered, TooDeep}
use Rattle.causes_bounds.specs.Some.{some_below}
use Rattle.causes_bounds.proofs.Laws.{some_found}
use Rattle.causes_form.specs.Forms.{curve_count, malformed_row}
use Rattle.causes_nesting.specs.Own.RowsCause.{rows_cause}
use Rattle.causes_nesting.specs.Nest.{high_segment, not_lower, unordered_row, nesting, deepest, deep_row}
use Rattle.causes_nesting.specs.Own.Depths.{Seen, depth_below, deepest_of, one_deeper, depth_as, row_depth, passed, IsStart, cause_with}

-- ---- the deepest of a run, the last segment apart
deepest_last : (T : Tables) (f : ℕ → CurveTree) (first n : ℕ) → deepest (segments T f first (suc n)) ≡ max (deepest (segments T f first n)) (nesting (f (segment_in T (first + n)).curve))
unfolding nesting segments
deepest_last T f first zero = let e = add-zero first in rw e (omega arith)
deepest_last T f first (suc n) =
    let h = deepest_last T f (suc first) n in
    let e : suc first + n ≡ first + suc n = omega arith in
    rw (h, e) (omega arith)

-- ---- depths
-- 10 where b, else the nesting, 9 standing for every deeper one
abbrev marked : Bool → ℕ → ℕ
marked b n = cond b 10 (min 9 n)

deeper_marked : (b : Bool) (n : ℕ) → one_deeper (marked b n) ≡ marked b (suc n)
unfolding one_deeper
deeper_marked true n = refl
deeper_marked false n = grind (arith, nat_tests)

larger_marked : (a b : Bool) (m n : ℕ) → max (marked a m) (marked b n) ≡ marked (a || b) (max m n)
larger_marked true true m n = refl
larger_marked true false m n = omega arith
larger_marked false true m n = omega arith
larger_marked false false m n = omega arith

-- the rows up to row were passed, each with its depth
pub record InStep (T : Tables) (seen : Seen) (row : ℕ) : Type 0 where
  pub same_parts : seen.parts ≡ T.parts
  pub at_row : seen.row ≡ row
  pub room : curve_count T ≤ length seen.rows
  pub depths : (i : ℕ) → i < row → get_or seen.rows i 0 ≡ min 9 (nesting (tree T i))

module _ (T : Tables) (seen : Seen) (row : ℕ) (h : InStep T seen row) where
  below_marked : (c : ℕ) → depth_below seen c ≡ marked (leb row c) (nesting (below T row c))
  unfolding depth_below
  below_marked c = rw h.at_row (go (ltb c row) refl)
    where
      go : (b : Bool) → ltb c row ≡ b → cond (ltb c row) (get_or seen.rows c 0) 10 ≡ marked (leb row c) (nesting (below T row c))
      go true e =
          let l = ltb-true c row e in
          let k = lt-leb row c l in
          rw (e, k) (h.depths c l ∙ ap (λ t. min 9 (nesting t)) (sym (lower T row c l)))
      go false e = let k = le-leb row c (ltb-false c row e) in rw (e, k)

  run_marked : (first n : ℕ) → deepest_of seen first n ≡ marked (some_below n (high_segment T row first)) (deepest (segments T (below T row) first n))
  unfolding deepest_of some_below high_segment segment_of deepest segments depth_below below
  run_marked first zero = refl
  run_marked first (suc n) =
      let k = run_marked first n in
      let e = below_marked (get_or T.parts ((first + n) * 2) 0) in
      rw (h.same_parts, k, e, deepest_last T (below T row) first n)
      (larger_marked (some_below n (high_segment T row first)) (high_segment T row first n) (deepest (segments T (below T row) first n)) (nesting (below T row (segment_in T (first + n)).curve)))

  -- by each kind that a row may have
  kind_marked : (kind : Option Kind) → depth_as seen kind (row_first T row) (row_count T row) ≡ marked (not_lower T row (curve_by T row kind)) (nesting (grown T (below T row) (curve_by T row kind)))
  unfolding depth_as not_lower kind_of grown nesting
  kind_marked (Some Line) = refl
  kind_marked (Some Circle) = refl
  kind_marked (Some Ellipse) = refl
  kind_marked (Some Parabola) = refl
  kind_marked (Some Polyline) = refl
  kind_marked (Some Trimmed) =
      let b = below_marked (row_first T row) in
      rw b (deeper_marked (leb row (row_first T row)) (nesting (below T row (row_first T row))))
  kind_marked (Some Composite) =
      let r = run_marked (row_first T row) (row_count T row) in
      rw r (deeper_marked (some_below (row_count T row) (high_segment T row (row_first T row))) (deepest (segments T (below T row) (row_first T row) (row_count T row))))
  kind_marked (Some Hyperbola) = refl
  kind_marked None = refl

  -- THE LAW: 10 where the row is out of order, else its nesting
  depth_marked : row_depth T.curves seen row ≡ marked (unordered_row T row) (nesting (tree T row))
  unfolding unordered_row tree curve_of
  depth_marked = kind_marked (kind_at T.curves row)

-- ---- the rows gone by
-- the cause of rows of which one is out of order, or one too deep
abbrev pub cause_of : Bool → Bool → Answer ⊤
cause_of unordered deep = cond unordered (Err Unordered) (cond deep (Err TooDeep) (Ok tt))

not_unordered : (a b : Bool) → (cause_of a b ≡ Err Unordered → ⊥) → a ≡ false
not_unordered true b h = absurd (h refl)
not_unordered false b h = refl

is_unordered : (a b : Bool) → (cause_of a b ≡ Err TooDeep → ⊥) → (cause_of a b ≡ Ok tt → ⊥) → a ≡ true
is_unordered true b h k = refl
is_unordered false true h k = absurd (h refl)
is_unordered false false h k = absurd (k refl)

-- what a row adds, where none before it is out of order
cause_more : (d u : Bool) (n : ℕ) → cause_with (cause_of false d) (marked u n) ≡ cause_of u (d || ltb 8 n)
unfolding cause_with
cause_more d true n = refl
cause_more d false n = go (ltb 8 n) refl d
  where
    go : (v : Bool) → ltb 8 n ≡ v → (d : Bool) → cond (eqb (min 9 n) 10) (Err Unordered) (cond (eqb (min 9 n) 9) (Err TooDeep) (cause_of false d)) ≡ cause_of false (d || v)
    go true q d = let l = ltb-true 8 n q in let t = ne_eqb (min 9 n) 10 (λ w. omega arith) in let k = eq-eqb (min 9 n) 9 (omega arith) in rw (t, k) (elim d as (λ d. Err TooDeep ≡ cause_of false (d || true)) [ true ↦ refl | false ↦ refl ])
    go false q d = let l = ltb-false 8 n q in let t = ne_eqb (min 9 n) 10 (λ w. omega arith) in let k = ne_eqb (min 9 n) 9 (λ w. omega arith) in rw (t, k) (elim d as (λ d. cause_of false d ≡ cause_of false (d || false)) [ true ↦ refl | false ↦ refl ])

pub record Gone (T : Tables) (seen : Seen) (lowest : Answer ⊤) (row : ℕ) : Type 0 where
  pub formed : some_below row (malformed_row T) ≡ false
  pub cause : lowest ≡ cause_of (some_below row (unordered_row T)) (some_below row (deep_row T))
  -- where no row was out of order
  pub in_step : some_below row (unordered_row T) ≡ false → InStep T seen row

pub gone_none : (T : Tables) (seen : Seen) → IsStart T.parts (curve_count T) seen → Gone T seen (Ok tt) 0
unfolding some_below
gone_none T seen h = record {
  formed = refl;
  cause = refl;
  in_step = λ e. record { same_parts = h.same_parts; at_row = h.none_passed; room = h.room; depths = λ i l. absurd (not-suc-le-zero l) };
}

module _ (T : Tables) (seen : Seen) (lowest : Answer ⊤) (row : ℕ) (g : Gone T seen lowest row) where
  pub in_order : (lowest ≡ Err Unordered → ⊥) → some_below row (unordered_row T) ≡ false
  in_order h = not_unordered (some_below row (unordered_row T)) (some_below row (deep_row T)) (λ e. h (g.cause ∙ e))

  pub gone_in_step : (lowest ≡ Err Unordered → ⊥) → InStep T seen row
  gone_in_step h = g.in_step (in_order h)

  -- a row that is not looked at for its depth
  pub gone_on : (lowest ≡ Err TooDeep → ⊥) → (lowest ≡ Ok tt → ⊥) → malformed_row T row ≡ false → Gone T seen lowest (row + 1)
  unfolding some_below
  gone_on h k m =
      let u = is_unordered (some_below row (unordered_row T)) (some_below row (deep_row T)) (λ e. h (g.cause ∙ e)) (λ e. k (g.cause ∙ e)) in
      record {
        formed = rw (add-one, g.formed) m;
        cause = rw (add-one, u) (rw u at g.cause);
        in_step = λ h. absurd (true≢false (rw (add-one, u) at h));
      }

  -- a row of this depth
  pub gone_more : (lowest ≡ Err Unordered → ⊥) → malformed_row T row ≡ false → row < curve_count T → (depth : ℕ) → depth ≡ row_depth T.curves seen row → (next : Answer ⊤) → next ≡ cause_with lowest depth → Gone T (passed seen depth) next (row + 1)
  unfolding some_below deep_row
  gone_more h m l depth e next q =
      let o = in_order h in
      let s = g.in_step o in
      let d : depth ≡ marked (unordered_row T row) (nesting (tree T row)) = e ∙ depth_marked T seen row s in
      let z : lowest ≡ cause_of false (some_below row (deep_row T)) = g.cause ∙ ap (λ a. cause_of a (some_below row (deep_row T))) o in
      let c = rw (z, d) at q in
      record {
        formed = rw (add-one, g.formed) m;
        cause = rw (add-one, o) (c ∙ cause_more (some_below row (deep_row T)) (unordered_row T row) (nesting (tree T row)));
        in_step = λ w. step s d (rw (add-one, o) at w);
      }
    where
      step : InStep T seen row → depth ≡ marked (unordered_row T row) (nesting (tree T row)) → unordered_row T row ≡ false → InStep T (passed seen depth) (row + 1)
      step s d u = record {
        same_parts = s.same_parts;
        at_row = rw s.at_row refl;
        room = omega (arith, s.room, length-set seen.rows seen.row depth);
        depths = λ i j. one i j (eqb i row) refl;
      }
        where
          one : (i : ℕ) → i < row + 1 → (b : Bool) → eqb i row ≡ b → get_or (set seen.rows seen.row depth) i 0 ≡ min 9 (nesting (tree T i))
          one i j true w =
              let v = eqb-true i row w in
              rw (s.at_row, v) (get_or-set_same seen.rows row depth 0 (omega (arith, s.room)) ∙ d ∙ ap (λ b. marked b (nesting (tree T row))) u)
          one i j false w =
              let ne = eqb-false i row w in
              rw s.at_row (get_or-set_other seen.rows row i depth 0 ne ∙ s.depths i (omega arith))

  -- a malformed row decides
  pub gone_malformed : row < curve_count T → malformed_row T row ≡ true → Err IllFormed ≡ rows_cause T
  unfolding rows_cause
  gone_malformed l m = let s = some_found (malformed_row T) (curve_count T) row l m in rw s

  -- all
  pub gone_all : row ≡ curve_count T → lowest ≡ rows_cause T
  unfolding rows_cause
  gone_all e = let f = g.formed in rw (← e, f) g.cause
