-- A curve that may not ask a hyperbola for a parameter that is too far asks for none at any t. Assumes nothing.
use mathlib.Core.Path.{◌≡◌, refl, sym, ◌∙◌}
use mathlib.Core.Bool.{Bool, true, false, not, ◌&&◌}
use Prim.Native.Nat.{ℕ, zero, suc, ◌+◌, ◌*◌, ◌/◌, ◌^◌, ◌≤◌, ◌<◌}
use native.Mathlib.Nat.{zero-lt-suc}
use native.Mathlib.Omega.{arith}
use lib.ListN.{length, get_or, get_or-eq_default}
use lib.Dec.{T as Holds, eqb, leb, leb→le, nleb→lt}
use lib.Ieee.{Float}
use borrow.Author.Tests.{eqb-true, eqb-false}
use Rattle.arith.proofs.Cmp.{never}
use Rattle.brep.specs.declared.Curve.{Curve}
use Rattle.brep.specs.declared.Curve.TheVariants.{Line, Circle, Ellipse, Parabola, Polyline, Trimmed, Composite, Hyperbola}
use Rattle.brep.specs.Rows.{Tables}
use Rattle.brep.specs.Tree.{CurveTree, analytic, line, circle, ellipse, parabola, hyperbola, polyline, trimmed, composite, Segments, none, segment, segments, row_in, grown, below, tree}
use Rattle.brep.proofs.ByKind.{row_kind, row_first, row_count, number, at_composite, at_hyperbola}
use Rattle.std.proofs.lemmas.Bool.{or_parts}
use Rattle.causes_bounds.proofs.Laws.{some_none}
use Rattle.curve_nests.specs.Nests.{is_composite, some_composite}
use Rattle.curve_parameter.specs.Own.Under.{under}
use Rattle.curve_parameter.specs.Run.{run_length, segment_index, segment_local, own_parameter}
use Rattle.curve_parameter.proofs.Laws.{count_segments}
use Rattle.curve_parameter.proofs.Taken.{Part, local_part}
use Rattle.curve_parameter.proofs.Under.{under_same}
use Rattle.curve_asks.specs.Asks.{is_far, asks_far, segment_asks_far}
use Rattle.curve_asks.specs.Own.Risk.{is_calm, is_hyperbola, some_risky, some_hyperbola, may_ask}
use Rattle.curve_asks.proofs.Calm.{calm_own}
use Rattle.curve_asks.proofs.Laws.{plain_far, under_plain}

-- ---- segments none of which is risky, and none of which is a composite
leaf : (c : CurveTree) → is_composite c ≡ false → (u : Float) → (is_hyperbola c ≡ true → is_far u ≡ false) → asks_far c u ≡ false
unfolding asks_far is_composite is_hyperbola
leaf (analytic (line o d)) h u k = refl
leaf (analytic (circle f r)) h u k = refl
leaf (analytic (ellipse f a b)) h u k = refl
leaf (analytic (parabola f d)) h u k = refl
leaf (analytic (hyperbola f a b)) h u k = k refl
leaf (polyline ps) h u k = refl
leaf (trimmed base range) h u k = leaf base h u k
leaf (composite ss) h u k = never h

-- a hyperbola that is not risky has a calm range
calm_of : (a b : Bool) → a && not b ≡ false → a ≡ true → b ≡ true
calm_of true true h e = refl
calm_of true false h e = never h
calm_of false b h e = never (sym e)

calm_run : (ss : Segments) → some_risky ss ≡ false → some_composite ss ≡ false → (i : ℕ) (q : Float) → Part q → segment_asks_far ss i q ≡ false
unfolding asks_far some_risky some_composite
calm_run none r n i q p = refl
calm_run (segment c range same rest) r n zero q p =
    let h = or_parts (is_hyperbola c && not (is_calm range)) (some_risky rest) r in
    let k = or_parts (is_composite c) (some_composite rest) n in
    leaf c k.0 (own_parameter range same q) (λ (e : is_hyperbola c ≡ true). calm_own range (calm_of (is_hyperbola c) (is_calm range) h.0 e) same q p)
calm_run (segment c range same rest) r n (suc i) q p =
    calm_run rest (or_parts (is_hyperbola c && not (is_calm range)) (some_risky rest) r).1 (or_parts (is_composite c) (some_composite rest) n).1 i q p

calm_composite : (ss : Segments) → run_length ss ≤ 2 ^ 53 → some_risky ss ≡ false → some_composite ss ≡ false → (t : Float) → asks_far (composite ss) t ≡ false
unfolding asks_far run_length
calm_composite none b r n t = refl
calm_composite (segment c range same rest) b r n t =
    let m = suc (run_length rest) in
    calm_run (segment c range same rest) r n (segment_index m t) (segment_local m t) (local_part m t (zero-lt-suc (run_length rest)) b)

-- ---- rows none of which is a hyperbola's
abbrev Silent : CurveTree → Type 0
Silent c = (t : Float) → asks_far c t ≡ false

module _ (T : Tables) where
  silent_run : (f : ℕ → CurveTree) → ((i : ℕ) → Silent (f i)) → (first n k : ℕ) (q : Float) → segment_asks_far (segments T f first n) k q ≡ false
  unfolding asks_far segments
  silent_run f s first zero k q = refl
  silent_run f s first (suc n) zero q = s _ _
  silent_run f s first (suc n) (suc k) q = silent_run f s (suc first) n k q

  silent_composite : (f : ℕ → CurveTree) → ((i : ℕ) → Silent (f i)) → (first n : ℕ) → Silent (composite (segments T f first n))
  unfolding asks_far
  silent_composite f s first n t = silent_run f s first n _ _

  silent_grown : (f : ℕ → CurveTree) → ((i : ℕ) → Silent (f i)) → (row : ℕ) → (row_kind T row ≡ 8 → ⊥) → Silent (grown T f (row_in T row))
  unfolding asks_far grown
  silent_grown f s row none_here = go (row_in T row) refl
    where
      go : (c : Curve) → row_in T row ≡ c → Silent (grown T f c)
      go (Line o d) e t = refl
      go (Circle fr r) e t = refl
      go (Ellipse fr a b) e t = refl
      go (Parabola fr d) e t = refl
      go (Polyline r) e t = refl
      go (Trimmed base range) e t = s base t
      go (Composite r) e t = silent_composite f s r.first r.count t
      go (Hyperbola fr a b) e t = absurd (none_here (number T row e (λ x. omega arith)))

  silent_below : (n : ℕ) → ((i : ℕ) → i < n → row_kind T i ≡ 8 → ⊥) → (i : ℕ) → Silent (below T n i)
  unfolding asks_far below
  silent_below zero bare i = λ t. refl
  silent_below (suc n) bare i = go (eqb i n) (silent_below n (λ k l. bare k (omega arith)))
    where
      go : (v : Bool) → ((j : ℕ) → Silent (below T n j)) → Silent (elim v [ true ↦ grown T (below T n) (row_in T n) | false ↦ below T n i ])
      go true lower = silent_grown (below T n) lower n (bare n (omega arith))
      go false lower = lower i

  -- a row of a kind lies in the table
  in_table : (row : ℕ) → row_kind T row ≡ 7 → row ≤ length T.curves / 3
  in_table row k = go (leb (length T.curves) (row * 3)) (leb→le (length T.curves) (row * 3)) (nleb→lt (length T.curves) (row * 3))
    where
      go : (o : Bool) → (Holds o → length T.curves ≤ row * 3) → (Holds (not o) → row * 3 < length T.curves) → row ≤ length T.curves / 3
      go true f g = let e = get_or-eq_default T.curves 0 (f tt) in absurd (omega arith)
      go false f g = let h = g tt in omega arith

  -- no row is a hyperbola's, so none of those that a composite's row refers to
  bare_composite : some_hyperbola T.curves ≡ false → (row : ℕ) → row_kind T row ≡ 7 → (first n : ℕ) → Silent (composite (segments T (below T row) first n))
  bare_composite h row k first n = silent_composite (below T row) (silent_below row bare) first n
    where
      bare : (i : ℕ) → i < row → row_kind T i ≡ 8 → ⊥
      bare i l =
          let u = in_table row k in
          eqb-false (row_kind T i) 8 (some_none (λ (j : ℕ). eqb (get_or T.curves (j * 3) 0) 8) (length T.curves / 3) i (omega arith) h)

  -- a composite's row, by its two tests
  silent_row : (row : ℕ) → row_kind T row ≡ 7 → (first n : ℕ) → n ≤ 2 ^ 53
      → may_ask (some_hyperbola T.curves) (composite (segments T (below T row) first n)) ≡ false → Silent (composite (segments T (below T row) first n))
  unfolding may_ask
  silent_row row k first n b h = go (some_composite ss) refl (some_hyperbola T.curves) refl parts.1
    where
      ss : Segments
      ss = segments T (below T row) first n

      parts : (some_risky ss ≡ false) × (some_composite ss && some_hyperbola T.curves ≡ false)
      parts = or_parts (some_risky ss) (some_composite ss && some_hyperbola T.curves) h

      go : (v : Bool) → some_composite ss ≡ v → (w : Bool) → some_hyperbola T.curves ≡ w → v && w ≡ false → Silent (composite ss)
      go false e w f g = calm_composite ss (rw (count_segments T (below T row) first n) b) parts.0 e
      go true e false f g = bare_composite f row k first n
      go true e true f g = never g

  -- THE LAW of may_ask: where it is false, no t is too far. The counts of a table are whole numbers that a double holds
  pub never_far : ((i : ℕ) → get_or T.curves i 0 ≤ 2 ^ 53) → (row : ℕ) → may_ask (some_hyperbola T.curves) (tree T row) ≡ false
      → (t : Float) → asks_far (tree T row) t ≡ false
  unfolding asks_far may_ask is_hyperbola
  never_far b row h t = go (eqb (row_kind T r) 7) refl (eqb (row_kind T r) 8) refl
    where
      r : ℕ
      r = under T.curves row

      rows : Bool
      rows = some_hyperbola T.curves

      may : may_ask rows (tree T r) ≡ may_ask rows (tree T row)
      may = under_same (may_ask rows) (λ c i. refl) T row refl

      go : (v : Bool) → eqb (row_kind T r) 7 ≡ v → (w : Bool) → eqb (row_kind T r) 8 ≡ w → asks_far (tree T row) t ≡ false
      go true f w g =
          let k = eqb-true (row_kind T r) 7 f in
          let F : CurveTree → Bool = λ c. asks_far c t in
          let m = at_composite (may_ask rows) T r refl k refl refl ∙ may in
          let a = at_composite F T r refl k refl refl ∙ under_same F (λ c i. refl) T row refl in
          sym a ∙ silent_row r k (row_first T r) (row_count T r) (b (r * 3 + 2)) (m ∙ h) t
      go false f true g = never (at_hyperbola (may_ask rows) T r refl (eqb-true (row_kind T r) 8 g) refl refl refl ∙ may ∙ h)
      go false f false g = sym (under_plain (plain_far t) T row refl refl (eqb-false (row_kind T r) 7 f) (eqb-false (row_kind T r) 8 g))
