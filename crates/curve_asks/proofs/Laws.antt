-- What the code's proofs use: a row that is neither a hyperbola nor a composite under its trims, and a run of segments that is asked. Assumes nothing.
use Rattle.std.specs.Prelude.{Option, Some, None}
use Rattle.std.specs.List.{list_any, range_with_len}
use Rattle.std.proofs.Common.{add-zero, add-one}
use Rattle.std.proofs.Math.Bool.{or-false, or_assoc}
use Rattle.std.proofs.lemmas.List.Folds.{list_any_at}
use Rattle.std.proofs.lemmas.List.FromFn.{length-range_with_len, get_or-range_with_len}
use mathlib.Core.Path.{◌≡◌, refl, sym, ap, ◌∙◌}
use mathlib.Core.Bool.{Bool, true, false, cond, ◌&&◌, ◌||◌}
use mathlib.Core.List.{List, []}
use Prim.Native.Nat.{ℕ, zero, suc, ◌+◌, ◌*◌, ◌<◌}
use native.Mathlib.Omega.{arith}
use lib.Dec.{eqb, ltb}
use lib.ListN.{get_or}
use lib.Ieee.{Float}
use borrow.Author.Tests.{eqb-true, eqb-false, eq-eqb, ne_eqb, ltb-true, ltb-false}
use Rattle.math.specs.declared.Vec3.{Vec3}
use Rattle.math.specs.declared.Frame.{Frame}
use Rattle.math.specs.declared.Interval.{Interval}
use Rattle.brep.specs.declared.Curve.{Curve}
use Rattle.brep.specs.declared.Curve.TheVariants.{Line, Circle, Ellipse, Parabola, Polyline, Trimmed, Composite, Hyperbola}
use Rattle.brep.specs.Rows.{Tables, frame_of, segment_of}
use Rattle.brep.specs.Own.RunOf.{run_of}
use Rattle.brep.specs.Tree.{CurveTree, analytic, line, circle, ellipse, parabola, hyperbola, polyline, trimmed, segments, row_in, grown, below, tree}
use Rattle.brep.proofs.Laws.{at_row, at_lower, at_high}
use Rattle.brep.proofs.ByKind.{row_kind, row_first, row_count, row_p, row_q, number, at_composite, at_hyperbola}
use Rattle.curve_parameter.specs.declared.OnSegment.{OnSegment}
use Rattle.curve_parameter.specs.Own.Falls.{segment_under}
use Rattle.curve_parameter.specs.Own.Under.{under}
use Rattle.curve_parameter.proofs.Laws.{no_segment, on_segment}
use Rattle.curve_parameter.proofs.Under.{under_stays, under_same, empty_trim}
use Rattle.curve_nests.proofs.Laws.{some_by_number}
use Rattle.curve_asks.specs.Asks.{is_far, asks_far, segment_asks_far}
use Rattle.curve_asks.specs.Own.Numbers.{is_risky, run_may_ask}
use Rattle.curve_asks.specs.Own.Risk.{is_hyperbola, some_risky, some_hyperbola, may_ask}

-- F looks through trims, and is v of every curve but hyperbolas and composites
pub record Plain {A : Type 0} (F : CurveTree → A) (v : A) : Type 0 where
  pub lines : (o d : Vec3) → v ≡ F (analytic (line o d))
  pub circles : (f : Frame) (r : Float) → v ≡ F (analytic (circle f r))
  pub ellipses : (f : Frame) (a b : Float) → v ≡ F (analytic (ellipse f a b))
  pub parabolas : (f : Frame) (d : Float) → v ≡ F (analytic (parabola f d))
  pub polylines : (ps : List Vec3) → v ≡ F (polyline ps)
  pub through : (b : CurveTree) (r : Interval) → F (trimmed b r) ≡ F b

-- so it is v at a row that is neither under its trims
pub under_plain : {A : Type 0} {F : CurveTree → A} {v : A} → Plain F v → (T : Tables) (row : ℕ) {r kind : ℕ} → r ≡ under T.curves row → kind ≡ row_kind T r
    → (kind ≡ 7 → ⊥) → (kind ≡ 8 → ⊥) → v ≡ F (tree T row)
unfolding grown
under_plain {A} {F} {v} p T row {r} {kind} e k seven eight = go (row_in T r) refl
  where
    here : {c : Curve} → row_in T r ≡ c → v ≡ F (grown T (below T r) c) → v ≡ F (tree T row)
    here q h = h ∙ at_row F T r q refl ∙ under_same F p.through T row e

    go : (c : Curve) → row_in T r ≡ c → v ≡ F (tree T row)
    go (Line o d) q = here q (p.lines o d)
    go (Circle f a) q = here q (p.circles f a)
    go (Ellipse f a b) q = here q (p.ellipses f a b)
    go (Parabola f d) q = here q (p.parabolas f d)
    go (Polyline s) q = here q (p.polylines _)
    go (Trimmed base range) q = p.polylines [] ∙ empty_trim F p.through T row e refl (number T r q (λ x. omega arith))
    go (Composite s) q = absurd (seven (k ∙ number T r q (λ x. omega arith)))
    go (Hyperbola f a b) q = absurd (eight (k ∙ number T r q (λ x. omega arith)))

-- what it is of a row, by the numbers of the row under its trims
under_number : {A : Type 0} {F : CurveTree → A} {v : A} → Plain F v → (T : Tables) (row : ℕ) →
    let r = under T.curves row in
    F (tree T row)
    ≡ cond (eqb (row_kind T r) 7) (F (run_of T r (row_first T r) (row_count T r)))
    (cond (eqb (row_kind T r) 8) (F (analytic (hyperbola (frame_of T.points (row_first T r)) (row_p T r) (row_q T r)))) v)
under_number {A} {F} {v} p T row = go (eqb (row_kind T r) 7) refl (eqb (row_kind T r) 8) refl
  where
    r : ℕ
    r = under T.curves row

    go : (s : Bool) → eqb (row_kind T r) 7 ≡ s → (e : Bool) → eqb (row_kind T r) 8 ≡ e
        → F (tree T row) ≡ cond s (F (run_of T r (row_first T r) (row_count T r))) (cond e (F (analytic (hyperbola (frame_of T.points (row_first T r)) (row_p T r) (row_q T r)))) v)
    go true h e l = sym (at_composite F T r refl (eqb-true _ 7 h) refl refl ∙ under_same F p.through T row refl)
    go false h true l = sym (at_hyperbola F T r refl (eqb-true _ 8 l) refl refl refl ∙ under_same F p.through T row refl)
    go false h false l = sym (under_plain p T row refl refl (eqb-false _ 7 h) (eqb-false _ 8 l))

-- ---- what a row asks
pub plain_far : (t : Float) → Plain (λ c. asks_far c t) false
unfolding asks_far
plain_far t = record {
  lines = λ o d. refl;
  circles = λ f r. refl;
  ellipses = λ f a b. refl;
  parabolas = λ f d. refl;
  polylines = λ ps. refl;
  through = λ b r. refl;
}

-- a row that is plain by its number asks for nothing that is too far
pub plain_near : (T : Tables) (row : ℕ) → row_kind T row < 6 → (t : Float) → asks_far (tree T row) t ≡ false
plain_near T row h t =
    let here : row ≡ under T.curves row = under_stays T.curves row (rw (ne_eqb (row_kind T row) 6 (λ k. omega arith))) in
    sym (under_plain (plain_far t) T row here refl (λ k. omega arith) (λ k. omega arith))

-- what a row refers to: a reference that does not fall is to the empty polyline, at which F is false
falls : (F : CurveTree → Bool) → F (polyline []) ≡ false → (T : Tables) (row base : ℕ) → ltb base row && F (tree T base) ≡ F (below T row base)
falls F z T row base = go (ltb base row) refl
  where
    go : (b : Bool) → ltb base row ≡ b → b && F (tree T base) ≡ F (below T row base)
    go true h = at_lower F T row (ltb-true base row h)
    go false h = sym z ∙ at_high F T row (ltb-false base row h)

-- the segment that a composite's parameter falls on
abbrev far_on : Tables → ℕ → Option OnSegment → Bool
far_on T row None = false
far_on T row (Some on) = ltb on.segment.curve row && asks_far (tree T on.segment.curve) on.t

run_far : (T : Tables) (row first n : ℕ) (t : Float) → far_on T row (segment_under T.parts T.ranges first n t) ≡ asks_far (run_of T row first n) t
unfolding asks_far segments
run_far T row first n t = go (segment_under T.parts T.ranges first n t) refl
  where
    go : (o : Option OnSegment) → o ≡ segment_under T.parts T.ranges first n t → far_on T row o ≡ asks_far (run_of T row first n) t
    go None e = rw (no_segment _ _ _ _ _ e)
    go (Some on) e =
        falls (λ c. asks_far c on.t) refl T row on.segment.curve
        ∙ on_segment segment_asks_far (λ c r b u. asks_far c u) (λ c r b rest v. refl) (λ c r b rest i v. refl) T (below T row) first n t e

pub far_by_number : (T : Tables) (row : ℕ) (t : Float) →
    let r = under T.curves row in
    asks_far (tree T row) t
    ≡ cond (eqb (row_kind T r) 7) (far_on T r (segment_under T.parts T.ranges (row_first T r) (row_count T r) t))
    (cond (eqb (row_kind T r) 8) (is_far t) false)
unfolding asks_far
far_by_number T row t = rw (run_far T (under T.curves row) _ _ t) (under_number (plain_far t) T row)

-- what the code finds of the row under the trims: a composite's, whose parameter falls on no segment or on one; or another
module _ (T : Tables) (row : ℕ) (t : Float) {r : ℕ} (e : r ≡ under T.curves row) where
  module _ (k : row_kind T r ≡ 7) {first n : ℕ} (f : first ≡ row_first T r) (m : n ≡ row_count T r) where
    far_run : {o : Option OnSegment} → o ≡ segment_under T.parts T.ranges first n t → far_on T r o ≡ asks_far (tree T row) t
    far_run s =
        let seven : row_kind T (under T.curves row) ≡ 7 = rw e at k in
        rw (s, m, f, e) (sym (far_by_number T row t ∙ rw (eq-eqb (row_kind T (under T.curves row)) 7 seven)))

    pub far_none : None ≡ segment_under T.parts T.ranges first n t → false ≡ asks_far (tree T row) t
    far_none s = far_run s

    pub far_some : {on : OnSegment} → Some on ≡ segment_under T.parts T.ranges first n t → ltb on.segment.curve r && asks_far (tree T on.segment.curve) on.t ≡ asks_far (tree T row) t
    far_some s = far_run s

  pub far_other : (row_kind T r ≡ 7 → ⊥) → cond (eqb (row_kind T r) 8) (is_far t) false ≡ asks_far (tree T row) t
  far_other k = rw e (sym (far_by_number T row t ∙ rw (ne_eqb (row_kind T (under T.curves row)) 7 (rw e at k))))

-- ---- a hyperbola, by the same numbers
plain_hyperbola : Plain is_hyperbola false
unfolding is_hyperbola
plain_hyperbola = record {
  lines = λ o d. refl;
  circles = λ f r. refl;
  ellipses = λ f a b. refl;
  parabolas = λ f d. refl;
  polylines = λ ps. refl;
  through = λ b r. refl;
}

hyperbola_by_number : (T : Tables) (row : ℕ) → eqb (row_kind T (under T.curves row)) 8 ≡ is_hyperbola (tree T row)
unfolding is_hyperbola
hyperbola_by_number T row = go (eqb (row_kind T r) 7) refl (eqb (row_kind T r) 8) refl (under_number plain_hyperbola T row)
  where
    r : ℕ
    r = under T.curves row

    go : (s : Bool) → eqb (row_kind T r) 7 ≡ s → (e : Bool) → eqb (row_kind T r) 8 ≡ e → is_hyperbola (tree T row) ≡ cond s false (cond e true false) → e ≡ is_hyperbola (tree T row)
    go true h true l k = let seven = eqb-true _ 7 h in let eight = eqb-true _ 8 l in absurd (omega arith)
    go true h false l k = sym k
    go false h true l k = sym k
    go false h false l k = sym k

pub hyperbola_by_kind : (T : Tables) (row : ℕ) {r kind : ℕ} → r ≡ under T.curves row → kind ≡ row_kind T r → eqb kind 8 ≡ is_hyperbola (tree T row)
hyperbola_by_kind T row e k = rw (k, e) (hyperbola_by_number T row)

-- ---- a run of segments, by the numbers of the rows that they refer to
module _ (T : Tables) (row : ℕ) where
  risky_by_number : (first n : ℕ) → list_any (is_risky T.curves T.parts T.ranges row) (range_with_len first n) ≡ some_risky (segments T (below T row) first n)
  unfolding some_risky segments segment_of is_hyperbola
  risky_by_number first zero = refl
  risky_by_number first (suc n) =
      let base = get_or T.parts (first * 2) 0 in
      let here = ap (λ b. ltb base row && b) (hyperbola_by_number T base) ∙ falls is_hyperbola refl T row base in
      rw (here, risky_by_number (first + 1) n, add-one first)

  run_may : (first n : ℕ) → run_may_ask T.curves T.parts T.ranges row first n ≡ may_ask (some_hyperbola T.curves) (run_of T row first n)
  unfolding may_ask
  run_may first n = rw (risky_by_number first n, some_by_number T row first n)

-- ---- whether a row may ask
plain_may : (rows : Bool) → Plain (may_ask rows) false
unfolding may_ask is_hyperbola
plain_may rows = record {
  lines = λ o d. refl;
  circles = λ f r. refl;
  ellipses = λ f a b. refl;
  parabolas = λ f d. refl;
  polylines = λ ps. refl;
  through = λ b r. refl;
}

pub may_by_number : (T : Tables) (row : ℕ) →
    let r = under T.curves row in
    may_ask (some_hyperbola T.curves) (tree T row)
    ≡ cond (eqb (row_kind T r) 7) (run_may_ask T.curves T.parts T.ranges r (row_first T r) (row_count T r)) (eqb (row_kind T r) 8)
unfolding may_ask is_hyperbola
may_by_number T row = rw (run_may T (under T.curves row) _ _, ← yes (eqb (row_kind T (under T.curves row)) 8)) (under_number (plain_may (some_hyperbola T.curves)) T row)
  where
    yes : (b : Bool) → cond b true false ≡ b
    yes true = refl
    yes false = refl

-- what the code finds of the row under the trims
module _ (T : Tables) (row : ℕ) {r : ℕ} (e : r ≡ under T.curves row) where
  pub may_run : row_kind T r ≡ 7 → {first n : ℕ} → first ≡ row_first T r → n ≡ row_count T r → run_may_ask T.curves T.parts T.ranges r first n ≡ may_ask (some_hyperbola T.curves) (tree T row)
  may_run k f m =
      let seven : row_kind T (under T.curves row) ≡ 7 = rw e at k in
      rw (m, f, e) (sym (may_by_number T row ∙ rw (eq-eqb (row_kind T (under T.curves row)) 7 seven)))

  pub may_other : (row_kind T r ≡ 7 → ⊥) → eqb (row_kind T r) 8 ≡ may_ask (some_hyperbola T.curves) (tree T row)
  may_other k = rw e (sym (may_by_number T row ∙ rw (ne_eqb (row_kind T (under T.curves row)) 7 (rw e at k))))

-- ---- the code's loop
module _ (P : ℕ → Bool) where
  -- one more of a range
  more : (a n : ℕ) → list_any P (range_with_len a (suc n)) ≡ list_any P (range_with_len a n) || P (a + n)
  more a zero = rw add-zero (or-false (P a))
  more a (suc n) = let e : a + 1 + n ≡ a + suc n = omega arith in rw (more (a + 1) n, e) (sym (or_assoc (P a) (list_any P (range_with_len (a + 1) n)) (P (a + suc n))))

  pub some_more : (a n : ℕ) → list_any P (range_with_len a (n + 1)) ≡ list_any P (range_with_len a n) || P (a + n)
  some_more a n = rw add-one (more a n)

  -- one that holds settles it
  pub some_at : (a n i : ℕ) → i < n → P (a + i) ≡ true → list_any P (range_with_len a n) ≡ true
  some_at a n i l h = list_any_at P (range_with_len a n) i 0 (rw length-range_with_len l) (rw get_or-range_with_len h)
