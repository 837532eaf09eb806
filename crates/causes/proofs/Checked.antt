-- What is known of the tables, the edge and the options once they are accepted; and which numbers a refusal has. Assumes nothing.
use Rattle.std.proofs.Common.{◌≡◌, ℕ, ◌+◌, ◌*◌, ◌/◌, ◌<◌, ◌≤◌, Bool, true, false, cond, not, ◌&&◌, ◌||◌, refl, sym, ap, ◌∙◌, arith, List, length, get_or, ltb, leb, eqb, Some, Ok, Err}
use Rattle.std.specs.Prelude.{⊤, Float}
use Rattle.std.specs.Float.{nan}
use Rattle.std.specs.Float.Ieee.{le, neg}
use Rattle.std.specs.Float.Ieee.Scale.{finite}
use Rattle.std.specs.List.{list_any}
use Rattle.std.proofs.Math.Dec.{T}
use Rattle.std.proofs.lemmas.Bool.{true≢false, false_from_ne_true, not-false, ltb-false, leb-false, eqb-true, or_parts}
use Rattle.std.proofs.lemmas.List.Folds.{list_any_at}
use Rattle.math.specs.declared.Interval.{Interval}
use Rattle.brep.specs.declared.Run.{Run}
use Rattle.brep.specs.declared.Kind.{Kind}
use Rattle.brep.specs.declared.Curve.TheVariants.{Trimmed, Composite}
use Rattle.brep.specs.declared.Edge.{Edge}
use Rattle.brep.specs.Kind.{kind_at}
use Rattle.brep.specs.Rows.{Tables, most_points, most_rows, most_segments, segment_of}
use Rattle.brep.specs.Tree.{segment_in, row_in, tree}
use Rattle.refusal.specs.Answer.{Answer}
use Rattle.refusal.specs.declared.Refusal.{Refusal}
use Rattle.refusal.specs.declared.Refusal.TheVariants.{Oversize, Unbounded, IllFormed, Unordered, TooDeep, Missing}
use Rattle.refusal.specs.Refusal.{number_of}
use Rattle.causes_nesting.specs.Nest.{high_segment, not_lower, unordered_row, nesting, deep_row}
use Rattle.options.specs.declared.Options.{Options}
use Rattle.causes_bounds.specs.Some.{some_below}
use Rattle.causes_bounds.specs.Bounds.{largest, within, beyond, finite_beyond, edge_beyond, options_beyond, unbounded_tables, unbounded_edge, unbounded}
use Rattle.causes_bounds.proofs.Laws.{some_none, three, four}
use Rattle.causes_form.specs.Forms.{point_count, curve_count, segment_count, broken, uneven, targets, malformed_row, malformed_segment, ill_formed_tables, ill_formed_edge, ill_formed}
use Rattle.causes_form.proofs.Laws.{row_inside}
use Rattle.causes.proofs.Laws.{sizes}
use Rattle.causes.specs.Causes.{oversize, unordered, too_deep, missing, verdict, tables_verdict, edge_verdict}

-- at most 1e9 in magnitude
abbrev pub Bounded : Float → Type 0
Bounded x = T (le (neg largest) x) × T (le x largest)

-- each float of a list
abbrev pub AllBounded : List Float → Type 0
AllBounded l = (i : ℕ) → i < length l → Bounded (get_or l i nan)

pub record Checked (t : Tables) (e : Edge) (o : Options) : Type 0 where
  pub points_at_most : point_count t ≤ most_points
  pub curves_at_most : curve_count t ≤ most_rows
  pub segments_at_most : segment_count t ≤ most_segments
  -- the two slices of a table have as many rows
  pub reals_as_many : length t.reals / 2 ≡ curve_count t
  pub ranges_as_many : length t.ranges / 2 ≡ segment_count t
  -- every float is finite and at most 1e9 in magnitude; lo, hi and scale where they are finite
  pub points_bounded : AllBounded t.points
  pub reals_bounded : AllBounded t.reals
  pub ranges_bounded : AllBounded t.ranges
  pub lo_bounded : T (finite e.range.lo) → Bounded e.range.lo
  pub hi_bounded : T (finite e.range.hi) → Bounded e.range.hi
  pub tolerance_bounded : Bounded e.tolerance
  pub deflection_bounded : Bounded o.deflection
  pub angle_bounded : Bounded o.angle.0
  pub scale_bounded : T (finite o.scale) → Bounded o.scale
  -- every row is of some kind, and its run, or a trim's base, lies inside its table
  pub run_inside : (i : ℕ) → i < curve_count t → (kind : Kind) × (kind_at t.curves i ≡ Some kind) × (get_or t.curves (i * 3 + 1) 0 + get_or t.curves (i * 3 + 2) 0 ≤ targets t kind)
  pub segment_inside : (i : ℕ) → i < segment_count t → (segment_in t i).curve < curve_count t
  -- every reference falls
  pub trim_falls : (i base : ℕ) (range : Interval) → i < curve_count t → row_in t i ≡ Trimmed base range → base < i
  pub segment_falls : (i : ℕ) (own : Run) (j : ℕ) → i < curve_count t → row_in t i ≡ Composite own → j < own.count → (segment_in t (own.first + j)).curve < i
  pub nesting_at_most : (i : ℕ) → i < curve_count t → nesting (tree t i) ≤ 8
  pub curve_inside : e.curve < curve_count t
  pub start_inside : e.start < point_count t
  pub end_inside : e.end < point_count t
  pub low_inside : e.low < point_count t
  pub high_inside : e.high < point_count t

-- ---- tests that fail, by cases
passed : (b : Bool) (n : Refusal) (v : Answer ⊤) → cond b (Err n) v ≡ Ok tt → (b ≡ false) × (v ≡ Ok tt)
passed true n v h = cc
passed false n v h = (refl, h)

six : (a b c d e f : Bool) → ◌≡◌ {A = Answer ⊤} (cond a (Err Oversize) (cond b (Err Unbounded) (cond c (Err IllFormed) (cond d (Err Unordered) (cond e (Err TooDeep) (cond f (Err Missing) (Ok tt))))))) (Ok tt) → (a ≡ false) × (b ≡ false) × (c ≡ false) × (d ≡ false) × (e ≡ false) × (f ≡ false)
six a b c d e f h =
    let v6 = cond f (Err Missing) (Ok tt) in
    let v5 = cond e (Err TooDeep) v6 in
    let v4 = cond d (Err Unordered) v5 in
    let v3 = cond c (Err IllFormed) v4 in
    let v2 = cond b (Err Unbounded) v3 in
    let ha = passed a Oversize v2 h in
    let hb = passed b Unbounded v3 ha.1 in
    let hc = passed c IllFormed v4 hb.1 in
    let hd = passed d Unordered v5 hc.1 in
    let he = passed e TooDeep v6 hd.1 in
    let hf = passed f Missing (Ok tt) he.1 in
    (ha.0, hb.0, hc.0, hd.0, he.0, hf.0)

-- a refusal has one of the numbers that the tests are for
abbrev OneToSix : Refusal → Type 0
OneToSix n = (1 ≤ number_of n) × (number_of n ≤ 6)

numbered : (b : Bool) (k n : Refusal) (v : Answer ⊤) → cond b (Err k) v ≡ Err n → OneToSix k → (v ≡ Err n → OneToSix n) → OneToSix n
numbered true k n v h p f = let e : k ≡ n = cc in rw e at p
numbered false k n v h p f = f h

-- ---- cause 2
both_hold : (a b : Bool) → not (a && b) ≡ false → T a × T b
both_hold true true h = (tt, tt)
both_hold true false h = absurd (true≢false h)
both_hold false b h = absurd (true≢false h)

bounded : (x : Float) → beyond x ≡ false → Bounded x
unfolding beyond within
bounded x h = both_hold (le (neg largest) x) (le x largest) h

second_fails : (a b : Bool) → a && b ≡ false → T a → b ≡ false
second_fails true b h t = h
second_fails false b h t = absurd t

bounded_finite : (x : Float) → finite_beyond x ≡ false → T (finite x) → Bounded x
unfolding finite_beyond
bounded_finite x h f = bounded x (second_fails (finite x) (beyond x) h f)

all_bounded : (l : List Float) → list_any beyond l ≡ false → AllBounded l
all_bounded l h i m =
    bounded (get_or l i nan) (false_from_ne_true (beyond (get_or l i nan)) (λ e. true≢false (sym (list_any_at beyond l i nan m e) ∙ h)))

module _ (t : Tables) where
  -- ---- cause 3
  even_slices : ill_formed_tables t ≡ false → (length t.reals / 2 ≡ curve_count t) × (length t.ranges / 2 ≡ segment_count t)
  unfolding uneven
  even_slices h =
      let reals = not (eqb (length t.reals / 2) (curve_count t)) in
      let ranges = not (eqb (length t.ranges / 2) (segment_count t)) in
      let r = some_below (curve_count t) (malformed_row t) || some_below (segment_count t) (malformed_segment t) in
      let k = or_parts reals ranges (or_parts (broken t) (reals || ranges) (or_parts (broken t || (reals || ranges)) r h).0).1 in (
        eqb-true (length t.reals / 2) (curve_count t) (not-false (eqb (length t.reals / 2) (curve_count t)) k.0),
        eqb-true (length t.ranges / 2) (segment_count t) (not-false (eqb (length t.ranges / 2) (segment_count t)) k.1),
      )

  pub forms_of : ill_formed_tables t ≡ false → (some_below (curve_count t) (malformed_row t) ≡ false) × (some_below (segment_count t) (malformed_segment t) ≡ false)
  forms_of h =
      let r = some_below (curve_count t) (malformed_row t) in
      let s = some_below (segment_count t) (malformed_segment t) in
      or_parts r s (or_parts (broken t || uneven t) (r || s) h).1

  segment_inside_lem : (i : ℕ) → malformed_segment t i ≡ false → (segment_in t i).curve < curve_count t
  unfolding malformed_segment segment_of
  segment_inside_lem i h = leb-false (curve_count t) (get_or t.parts (i * 2) 0) (or_parts (leb (curve_count t) (get_or t.parts (i * 2) 0)) (ltb 1 (get_or t.parts (i * 2 + 1) 0)) h).0

  -- ---- cause 4
  trim_falls_lem : (i base : ℕ) (range : Interval) → unordered_row t i ≡ false → row_in t i ≡ Trimmed base range → base < i
  unfolding unordered_row not_lower
  trim_falls_lem i base range h k = leb-false i base (ap (not_lower t i) (sym k) ∙ h)

  segment_falls_lem : (i : ℕ) (own : Run) (j : ℕ) → unordered_row t i ≡ false → row_in t i ≡ Composite own → j < own.count → (segment_in t (own.first + j)).curve < i
  unfolding unordered_row not_lower high_segment
  segment_falls_lem i own j h k l = leb-false i (segment_in t (own.first + j)).curve (some_none (high_segment t i own.first) own.count j l (ap (not_lower t i) (sym k) ∙ h))

  -- ---- cause 5
  nesting_at_most_lem : (i : ℕ) → deep_row t i ≡ false → nesting (tree t i) ≤ 8
  unfolding deep_row
  nesting_at_most_lem i h = ltb-false 8 (nesting (tree t i)) h

  pub sizes_at : oversize t ≡ false → (point_count t ≤ most_points) × (curve_count t ≤ most_rows) × (segment_count t ≤ most_segments)
  sizes_at h = let k = sizes t h in (omega arith, omega arith, omega arith)

  -- where the tables alone are accepted, they are neither above their sizes nor ill-formed
  pub tables_of_lem : tables_verdict t ≡ Ok tt → (oversize t ≡ false) × (ill_formed_tables t ≡ false)
  unfolding tables_verdict
  tables_of_lem h =
      let v4 = cond (unordered t) (Err Unordered) (cond (too_deep t) (Err TooDeep) (Ok tt)) in
      let v3 = cond (ill_formed_tables t) (Err IllFormed) v4 in
      let v2 = cond (unbounded_tables t.points t.reals t.ranges) (Err Unbounded) v3 in
      let a = passed (oversize t) Oversize v2 h in
      let b = passed (unbounded_tables t.points t.reals t.ranges) Unbounded v3 a.1 in
      (a.0, (passed (ill_formed_tables t) IllFormed v4 b.1).0)

module _ (t : Tables) (e : Edge) (o : Options) where
  bounds_of : unbounded t.points t.reals t.ranges e o ≡ false → (list_any beyond t.points ≡ false) × (list_any beyond t.reals ≡ false) × (list_any beyond t.ranges ≡ false) × (edge_beyond e ≡ false) × (options_beyond o ≡ false)
  unfolding unbounded
  bounds_of h =
      let p = list_any beyond t.points in
      let r = list_any beyond t.reals in
      let s = list_any beyond t.ranges in
      let k = or_parts (p || (r || s)) (edge_beyond e || options_beyond o) h in
      let l = three p r s k.0 in
      let m = or_parts (edge_beyond e) (options_beyond o) k.1 in
      (l.0, l.1, l.2, m.0, m.1)

  edge_of : edge_beyond e ≡ false → (finite_beyond e.range.lo ≡ false) × (finite_beyond e.range.hi ≡ false) × (beyond e.tolerance ≡ false)
  unfolding edge_beyond
  edge_of h = three (finite_beyond e.range.lo) (finite_beyond e.range.hi) (beyond e.tolerance) h

  options_of_lem : options_beyond o ≡ false → (beyond o.deflection ≡ false) × (beyond o.angle.0 ≡ false) × (finite_beyond o.scale ≡ false)
  unfolding options_beyond
  options_of_lem h = three (beyond o.deflection) (beyond o.angle.0) (finite_beyond o.scale) h

  pub tables_formed : ill_formed t e o ≡ false → ill_formed_tables t ≡ false
  unfolding ill_formed
  tables_formed h = (or_parts (ill_formed_tables t) (ill_formed_edge e o) h).0

  -- ---- cause 6
  indexes_of : missing t e ≡ false → (e.curve < curve_count t) × (e.start < point_count t) × (e.end < point_count t) × (e.low < point_count t) × (e.high < point_count t)
  unfolding missing
  indexes_of h =
      let n = point_count t in
      let k = or_parts (leb (curve_count t) e.curve) ((leb n e.start || leb n e.end) || (leb n e.low || leb n e.high)) h in
      let l = four (leb n e.start) (leb n e.end) (leb n e.low) (leb n e.high) k.1 in
      (leb-false (curve_count t) e.curve k.0, leb-false n e.start l.0, leb-false n e.end l.1, leb-false n e.low l.2, leb-false n e.high l.3)

  -- where the verdict is that they are accepted, none of the six applies
  pub causes_of : verdict t e o ≡ Ok tt → (oversize t ≡ false) × (unbounded t.points t.reals t.ranges e o ≡ false) × (ill_formed t e o ≡ false) × (unordered t ≡ false) × (too_deep t ≡ false) × (missing t e ≡ false)
  unfolding verdict
  causes_of h = six (oversize t) (unbounded t.points t.reals t.ranges e o) (ill_formed t e o) (unordered t) (too_deep t) (missing t e) h

  pub verdict_numbers : (n : Refusal) → verdict t e o ≡ Err n → (1 ≤ number_of n) × (number_of n ≤ 6)
  unfolding verdict
  verdict_numbers n h =
      let v6 = cond (missing t e) (Err Missing) (Ok tt) in
      let v5 = cond (too_deep t) (Err TooDeep) v6 in
      let v4 = cond (unordered t) (Err Unordered) v5 in
      let v3 = cond (ill_formed t e o) (Err IllFormed) v4 in
      let v2 = cond (unbounded t.points t.reals t.ranges e o) (Err Unbounded) v3 in
      numbered (oversize t) Oversize n v2 h (omega arith, omega arith) λ h2.
      numbered (unbounded t.points t.reals t.ranges e o) Unbounded n v3 h2 (omega arith, omega arith) λ h3.
      numbered (ill_formed t e o) IllFormed n v4 h3 (omega arith, omega arith) λ h4.
      numbered (unordered t) Unordered n v5 h4 (omega arith, omega arith) λ h5.
      numbered (too_deep t) TooDeep n v6 h5 (omega arith, omega arith) λ h6.
      numbered (missing t e) Missing n (Ok tt) h6 (omega arith, omega arith) λ h7. cc

  pub edge_numbers : (n : Refusal) → edge_verdict t e o ≡ Err n → (1 ≤ number_of n) × (number_of n ≤ 6)
  unfolding edge_verdict
  edge_numbers n h =
      let v6 = cond (missing t e) (Err Missing) (Ok tt) in
      let v3 = cond (ill_formed_edge e o) (Err IllFormed) v6 in
      numbered (unbounded_edge e o) Unbounded n v3 h (omega arith, omega arith) λ h3.
      numbered (ill_formed_edge e o) IllFormed n v6 h3 (omega arith, omega arith) λ h6.
      numbered (missing t e) Missing n (Ok tt) h6 (omega arith, omega arith) λ h7. cc

  pub checked : verdict t e o ≡ Ok tt → Checked t e o
  checked h =
      let c = causes_of h in
      let z = sizes_at t c.0 in
      let b = bounds_of c.1 in
      let be = edge_of b.3 in
      let bo = options_of_lem b.4 in
      let s = even_slices t (tables_formed c.2) in
      let f = forms_of t (tables_formed c.2) in
      let x = indexes_of c.5 in
      record {
        points_at_most = z.0;
        curves_at_most = z.1;
        segments_at_most = z.2;
        reals_as_many = s.0;
        ranges_as_many = s.1;
        points_bounded = all_bounded t.points b.0;
        reals_bounded = all_bounded t.reals b.1;
        ranges_bounded = all_bounded t.ranges b.2;
        lo_bounded = bounded_finite e.range.lo be.0;
        hi_bounded = bounded_finite e.range.hi be.1;
        tolerance_bounded = bounded e.tolerance be.2;
        deflection_bounded = bounded o.deflection bo.0;
        angle_bounded = bounded o.angle.0 bo.1;
        scale_bounded = bounded_finite o.scale bo.2;
        run_inside = λ i l. row_inside t i (some_none (malformed_row t) (curve_count t) i l f.0);
        segment_inside = λ i l. segment_inside_lem t i (some_none (malformed_segment t) (segment_count t) i l f.1);
        trim_falls = λ i base range l k. trim_falls_lem t i base range (some_none (unordered_row t) (curve_count t) i l c.3) k;
        segment_falls = λ i own j l k m. segment_falls_lem t i own j (some_none (unordered_row t) (curve_count t) i l c.3) k m;
        nesting_at_most = λ i l. nesting_at_most_lem t i (some_none (deep_row t) (curve_count t) i l c.4);
        curve_inside = x.0;
        start_inside = x.1;
        end_inside = x.2;
        low_inside = x.3;
        high_inside = x.4;
      }
