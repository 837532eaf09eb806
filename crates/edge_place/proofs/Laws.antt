-- A placed chain by what stands in the buffer: its records turned round where they run back, then pinned; and the two-vertex chord. Assumes nothing.
use mathlib.Core.Path.{◌≡◌, refl, sym, ap, ◌∙◌}
use mathlib.Core.Bool.{Bool, true, false, cond, not}
use mathlib.Core.List.{List, [], ◌∷◌, ◌++◌, reverse}
use Prim.Native.Nat.{ℕ, zero, suc, ◌+◌, ◌-◌, ◌*◌, ◌<◌, ◌≤◌}
use native.Mathlib.Nat.{add-zero, add-suc, suc-add}
use native.Mathlib.Omega.{arith}
use lib.ListN.{length, get_or, take, drop, set, length-set, length-reverse}
use lib.Seq.{sets, length-sets, length-take-le}
use lib.Ieee.{Float, lt, le}
use lib.Dec.{eqb}
use Rattle.base_lists.specs.Room.{filled}
use Rattle.math.specs.declared.Vec3.{Vec3}
use Rattle.math.specs.Math.{v_sub, v_length_squared}
use Rattle.brep.specs.declared.Edge.{Edge}
use Rattle.brep.specs.declared.LentTables.{LentTables}
use Rattle.brep.specs.Rows.{Tables, lent}
use Rattle.brep.specs.Tree.{tree}
use Rattle.curve_prepared.specs.declared.PreparedCurve.{PreparedCurve}
use Rattle.curve_prepared.specs.Own.PreparedCurve.{curve_of}
use Rattle.edge_record.specs.declared.Sample.{Sample}
use Rattle.edge_record.specs.Chain.{width, shortest, row, flat, sample_at, samples_from, samples, last_of}
use Rattle.edge_record.specs.Own.Stored.{record_point}
use Rattle.edge_record.proofs.Laws.{flat_one, push, samples_from-length, rest_cleared}
use Rattle.edge_closed_form.proofs.Located.{located_length}
use Rattle.draw_spec.specs.Edge.{edge_curve, edge_start, edge_end, located, near_squared, degenerate_ends, is_reversed, oriented, moved_to, last_pinned, pinned, chord_of, placed}
use Rattle.edge_record.specs.Own.Records.{records_of}
use Rattle.edge_place.specs.Own.Place.{chord_between}
use Rattle.edge_place.proofs.Records.{stored, pass, put_at, read_at, own_samples, filled_by, records_all, first_records}

-- the curve of a row that was prepared
pub of_row : (curve : PreparedCurve) {slices : LentTables} {row : ℕ} → curve.tables.now ≡ slices → curve.row ≡ row → curve_of curve ≡ tree (lent slices) row
of_row curve {slices} e f = ap (λ (t : LentTables). tree (lent t) curve.row) e ∙ ap (tree (lent slices)) f

-- ---- pinned
last_pinned-set : (end : Vec3) (s : Sample) (l : List Sample) (d : Sample)
    → last_pinned end s l ≡ set (s ∷ l) (length l) (moved_to end (get_or (s ∷ l) (length l) d))
unfolding last_pinned
last_pinned-set end s [] d = refl
last_pinned-set end s (q ∷ l) d = ap (λ (k : List Sample). s ∷ k) (last_pinned-set end q l d)

last_pinned-length : (end : Vec3) (s : Sample) (l : List Sample) → length (last_pinned end s l) ≡ suc (length l)
unfolding last_pinned
last_pinned-length end s [] = refl
last_pinned-length end s (q ∷ l) = ap suc (last_pinned-length end q l)

pinned_length : (start end : Vec3) (l : List Sample) → length (pinned start end l) ≡ length l
unfolding pinned
pinned_length start end [] = refl
pinned_length start end (s ∷ l) = last_pinned-length end (moved_to start s) l

pinned_set : (start end : Vec3) (l : List Sample) (last : ℕ) (d : Sample) → length l ≡ suc last
    → pinned start end l ≡ set (set l 0 (moved_to start (get_or l 0 d))) last (moved_to end (get_or (set l 0 (moved_to start (get_or l 0 d))) last d))
unfolding pinned
pinned_set start end [] last d e = absurd (omega arith)
pinned_set start end (s ∷ l) last d e =
    let q : length l ≡ last = omega arith in
    let m = moved_to start s ∷ l in
    last_pinned-set end (moved_to start s) l d ∙ ap (λ (i : ℕ). set m i (moved_to end (get_or m i d))) q

-- record i pinned
pin_at : (c d next : List Float) (l : List Sample) (i : ℕ) (p : Vec3) (s : Sample) → width * length l ≤ length c → i < length l → d ≡ sets c 0 (flat l)
    → next ≡ sets d (width * i) (row (moved_to p (sample_at d i))) → next ≡ sets c 0 (flat (set l i (moved_to p (get_or l i s))))
pin_at c d next l i p s h k e q =
    q
    ∙ ap (λ (z : List Float). sets z (width * i) (row (moved_to p (sample_at z i)))) e
    ∙ ap (λ (z : Sample). sets (sets c 0 (flat l)) (width * i) (row (moved_to p z))) (read_at c l i s h k)
    ∙ put_at c l i (moved_to p (get_or l i s)) h k

pub pin_both : (c mid next : List Float) (n : ℕ) (start end : Vec3) → 1 ≤ n → width * n ≤ length c → mid ≡ sets c 0 (row (moved_to start (sample_at c 0)))
    → next ≡ sets mid (width * (n - 1)) (row (moved_to end (sample_at mid (n - 1)))) → next ≡ sets c 0 (flat (pinned start end (samples n c)))
pin_both c mid next n start end some h p q =
    let l = samples n c in
    let s = sample_at c 0 in
    let k : length l ≡ n = samples_from-length c 0 n in
    let m = set l 0 (moved_to start (get_or l 0 s)) in
    let r : mid ≡ sets c 0 (flat m) = pin_at c c mid l 0 start s (omega arith) (omega arith) (own_samples c n) p in
    pin_at c mid next m (n - 1) end s (omega (arith, length-set l 0 (moved_to start (get_or l 0 s)))) (omega (arith, length-set l 0 (moved_to start (get_or l 0 s)))) r q
    ∙ ap (λ (z : List Sample). sets c 0 (flat z)) (sym (pinned_set start end l (n - 1) s (k ∙ omega arith)))

-- ---- which way the chain runs
not_not : (b : Bool) → b ≡ not (not b)
not_not true = refl
not_not false = refl

module _ (T : Tables) (e : Edge) (head tail : Vec3) {start end : Vec3} (s : start ≡ edge_start T e) (t : end ≡ edge_end T e) where
  pub by_sense : le (v_length_squared (v_sub end start)) (near_squared e.tolerance) ≡ true → eqb e.sense 0 ≡ is_reversed T e head tail
  unfolding is_reversed degenerate_ends
  by_sense h = rw (sym s, sym t, h) (not_not (eqb e.sense 0))

  pub by_ends : le (v_length_squared (v_sub end start)) (near_squared e.tolerance) ≡ false
      → lt (v_length_squared (v_sub tail start)) (v_length_squared (v_sub head start)) ≡ is_reversed T e head tail
  unfolding is_reversed degenerate_ends
  by_ends h = rw (sym s, sym t, h)

last_from : (c : List Float) (i m : ℕ) → last_of (sample_at c i) (samples_from c (suc i) m) ≡ sample_at c (i + m)
unfolding last_of samples_from
last_from c i zero = ap (sample_at c) (sym (add-zero i))
last_from c i (suc m) = last_from c (suc i) m ∙ ap (sample_at c) (suc-add i m ∙ sym (add-suc i m))

module _ (T : Tables) (e : Edge) where
  oriented_length : (l : List Sample) → length (oriented T e l) ≡ length l
  unfolding oriented
  oriented_length [] = refl
  oriented_length (s ∷ l) = go (is_reversed T e s.point (last_of s l).point)
    where
      go : (b : Bool) → length (cond b (reverse (s ∷ l)) (s ∷ l)) ≡ length (s ∷ l)
      go true = length-reverse (s ∷ l)
      go false = refl

  oriented_ends : (c : List Float) (n : ℕ) → 1 ≤ n
      → cond (is_reversed T e (record_point c 0) (record_point c (n - 1))) (reverse (samples n c)) (samples n c) ≡ oriented T e (samples n c)
  unfolding oriented samples_from
  oriented_ends c zero h = absurd (omega arith)
  oriented_ends c (suc m) h =
      let q : suc m - 1 ≡ 0 + m = omega arith in
      let l = sample_at c 0 ∷ samples_from c 1 m in
      ap (λ (z : Sample). cond (is_reversed T e (record_point c 0) z.point) (reverse l) l) (ap (sample_at c) q ∙ sym (last_from c 0 m))

  module _ (c : List Float) (n : ℕ) (some : 1 ≤ n) {b : Bool} (is : b ≡ is_reversed T e (record_point c 0) (record_point c (n - 1))) where
    way : (z : Bool) → b ≡ z → sets c 0 (flat (cond z (reverse (samples n c)) (samples n c))) ≡ sets c 0 (flat (oriented T e (samples n c)))
    way z h = ap (λ (y : Bool). sets c 0 (flat (cond y (reverse (samples n c)) (samples n c)))) (sym h ∙ is) ∙ ap (λ (l : List Sample). sets c 0 (flat l)) (oriented_ends c n some)

    pub runs_back : b ≡ true → {next : List Float} → next ≡ sets c 0 (flat (reverse (samples n c))) → next ≡ sets c 0 (flat (oriented T e (samples n c)))
    runs_back h q = q ∙ way true h

    pub runs_on : b ≡ false → {next : List Float} → next ≡ c → next ≡ sets c 0 (flat (oriented T e (samples n c)))
    runs_on h q = q ∙ own_samples c n ∙ way false h

  -- ---- placed
  pub placed_length : (params : List Float) → length (placed T e params) ≡ length params
  unfolding placed
  placed_length params = pinned_length (edge_start T e) (edge_end T e) _ ∙ oriented_length (located (edge_curve T e) params) ∙ located_length (edge_curve T e) params

  -- in the buffer's first records: located, oriented, pinned
  module _ (params c : List Float) (fits : width * length params ≤ length c) where
    abbrev pub n : ℕ
    n = length params

    abbrev pub records : List Float
    records = take (width * n) c

    long : length records ≡ width * n
    long = length-take-le (width * n) c fits

    -- what is left of them after a pass
    over : (d next : List Float) (l : List Sample) (f : List Sample → List Sample) → length l ≡ n → length (f l) ≡ length l → d ≡ sets records 0 (flat l)
        → next ≡ sets d 0 (flat (f (records_of d))) → next ≡ sets records 0 (flat (f l))
    over d next l f k h p q =
        let all : records_of d ≡ samples n d = records_all d n (ap length p ∙ length-sets records 0 (flat l) ∙ long) in
        pass records n d next l f k (omega (arith, long)) h p (q ∙ ap (λ (z : List Sample). sets d 0 (flat (f z))) all)

    pub placed_by : (held mid next : List Float) → held ≡ sets records 0 (flat (located (edge_curve T e) params))
        → mid ≡ sets held 0 (flat (oriented T e (records_of held)))
        → next ≡ sets mid 0 (flat (pinned (edge_start T e) (edge_end T e) (records_of mid)))
        → next ++ drop (width * n) c ≡ sets c 0 (flat (placed T e params))
    unfolding placed
    placed_by held mid next h p q =
        let l = located (edge_curve T e) params in
        let k : length l ≡ n = located_length (edge_curve T e) params in
        let o = over held mid l (oriented T e) k (oriented_length l) h p in
        let m = pinned (edge_start T e) (edge_end T e) (oriented T e l) in
        let w = over mid next (oriented T e l) (pinned (edge_start T e) (edge_end T e)) (oriented_length l ∙ k) (pinned_length (edge_start T e) (edge_end T e) (oriented T e l)) o q in
        let z : length m ≡ n = placed_length params in
        ap (λ (x : List Float). x ++ drop (width * n) c) (w ∙ filled_by records n m z long)
        ∙ ap (λ (x : ℕ). flat m ++ drop (width * x) c) (sym z)
        ∙ sym (stored c m (omega arith))

    -- what is known stands there already
    pub held_known : samples n c ≡ located (edge_curve T e) params → {held : List Float} → held ≡ records → held ≡ sets records 0 (flat (located (edge_curve T e) params))
    held_known s q =
        q ∙ first_records c n fits ∙ ap flat s ∙ sym (filled_by records n (located (edge_curve T e) params) (located_length (edge_curve T e) params) long)

-- ---- `chord_between` and `chord`

pub chord_held : (p q : Vec3) (a b : Float) (c d f g : List Float) → shortest ≤ length c
    → d ≡ sets c 0 (row (record { point = p; param = a })) → f ≡ sets d width (row (record { point = q; param = b })) → g ≡ filled (length f) (take shortest f)
    → g ≡ filled (length c) (flat (chord_between p q a b))
chord_held p q a b c d f g room h k w =
    let A : Sample = record { point = p; param = a } in
    let B : Sample = record { point = q; param = b } in
    let v : d ≡ sets c 0 (flat (A ∷ [])) = h ∙ ap (sets c 0) (sym (flat_one A)) in
    let u : f ≡ sets c 0 (flat (chord_between p q a b)) = k ∙ ap (λ (l : List Float). sets l width (row B)) v ∙ push c (A ∷ []) B in
    w ∙ ap (λ (l : List Float). filled (length l) (take shortest l)) u ∙ rest_cleared c (chord_between p q a b) room

pub chord_vertices : (T : Tables) (e : Edge) (a b : Float) (n : ℕ) {p q : Vec3} {g : List Float} → p ≡ edge_start T e → q ≡ edge_end T e
    → g ≡ filled n (flat (chord_between p q a b)) → g ≡ filled n (flat (chord_of T e a b))
chord_vertices T e a b n {p} s t h =
    h ∙ ap (λ (x : Vec3). filled n (flat (chord_between p x a b))) t ∙ ap (λ (x : Vec3). filled n (flat (chord_between x (edge_end T e) a b))) s
