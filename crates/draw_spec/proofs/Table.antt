-- The table of causes: what refusal an edge has, and that it has one exactly where a cause applies. Assumes nothing.
use Rattle.std.specs.Prelude.{⊤, Ok, Err}
use mathlib.Core.Path.{◌≡◌, refl, sym, ap, subst, ◌∙◌}
use mathlib.Core.Logic.{◌⊎◌, inl, inr}
use mathlib.Core.Bool.{Bool, true, false, cond}
use Prim.Native.Nat.{ℕ, ◌≤◌}
use native.Mathlib.Omega.{arith}
use Rattle.brep.specs.declared.Edge.{Edge}
use Rattle.brep.specs.Rows.{Tables}
use Rattle.options.specs.declared.Mode.{Mode}
use Rattle.options.specs.declared.Options.{Options}
use Rattle.causes_bounds.specs.Bounds.{unbounded}
use Rattle.causes_form.specs.Forms.{ill_formed}
use Rattle.causes.specs.Causes.{oversize, unordered, too_deep, missing, verdict}
use Rattle.causes.proofs.Checked.{causes_of, verdict_numbers}
use Rattle.edge_params.specs.Work.{Work, overflows}
use Rattle.edge_params.proofs.Work.{within_got, within_refused}
use Rattle.draw_spec.specs.Repair.{Got}
use Rattle.draw_spec.specs.Draw.{local_options, referenced, room_of, too_short, drawn, Applies, one, two, three, four, five, six, seven, eight, nine, eleven, Lowest}
use Rattle.draw_spec.proofs.Accepted.{Accepts, accepts, Refuses, by_tables, by_buffers, by_drawing, refuses, given}
use Rattle.draw_spec.proofs.Answers.{Cause, longer, endless, too_far}
use Rattle.draw_spec.proofs.Sound.{drawn_late}
use Rattle.refusal.specs.Answer.{Answer}
use Rattle.refusal.specs.declared.Refusal.TheVariants.{Oversize, Unbounded, IllFormed, Unordered, TooDeep, Missing, NoRoom, Endless, TooFar}
use Rattle.refusal.specs.declared.Refusal.{Refusal}
use Rattle.refusal.specs.Refusal.{number_of}

-- ---- a verdict of at most k
record AtMost (k : ℕ) (v : Answer ⊤) : Type 0 where
  pub number : Refusal
  pub is : v ≡ Err number
  pub most : number_of number ≤ k

hit : (b : Bool) (k : Refusal) (v : Answer ⊤) → b ≡ true → AtMost (number_of k) (cond b (Err k) v)
hit b k v e = record { number = k; is = ap (λ (x : Bool). cond x (Err k) v) e; most = omega arith }

pass : (b : Bool) (i : Refusal) (k : ℕ) (v : Answer ⊤) → number_of i ≤ k → AtMost k v → AtMost k (cond b (Err i) v)
pass true i k v h a = record { number = i; is = refl; most = h }
pass false i k v h a = a

module _ (mode : Mode) (t : Tables) (e : Edge) (o : Options) (first second : ℕ) where
  abbrev a : Bool
  a = oversize t

  abbrev b : Bool
  b = unbounded t.points t.reals t.ranges e o

  abbrev c : Bool
  c = ill_formed t e o

  abbrev d : Bool
  d = unordered t

  abbrev f : Bool
  f = too_deep t

  abbrev g : Bool
  g = missing t e

  abbrev v6 : Answer ⊤
  v6 = cond g (Err Missing) (Ok tt)

  abbrev v5 : Answer ⊤
  v5 = cond f (Err TooDeep) v6

  abbrev v4 : Answer ⊤
  v4 = cond d (Err Unordered) v5

  abbrev v3 : Answer ⊤
  v3 = cond c (Err IllFormed) v4

  abbrev v2 : Answer ⊤
  v2 = cond b (Err Unbounded) v3

  abbrev work : Work Got
  work = referenced mode t e (local_options t e o)

  -- ---- a cause that applies is not passed over
  refused_by : (k : ℕ) → k ≤ 6 → AtMost k (verdict t e o) → (n : Refusal) → drawn mode t e o first second ≡ Err n → number_of n ≤ k
  refused_by k h m n q =
      let y = given mode t e o first second (Err m.number) (too_short first second) m.is refl in
      let z : m.number ≡ n = cc in
      rw z at m.most

  short_by : too_short first second ≡ true → (n : Refusal) → drawn mode t e o first second ≡ Err n → number_of n ≤ 7
  short_by h n q = go (refuses mode t e o first second n q)
    where
      go : Refuses mode t e o first second n → number_of n ≤ 7
      go (by_tables x) = let k = verdict_numbers t e o n x in omega (arith, k.1)
      go (by_buffers x y z) = rw z (omega arith)
      go (by_drawing x y z) = absurd (let w : ◌≡◌ {A = ℕ} 0 1 = cc in omega arith)

  room_by : overflows (room_of first second) work.acts ≡ true → (n : Refusal) → drawn mode t e o first second ≡ Err n → number_of n ≤ 8
  room_by h n q = go (refuses mode t e o first second n q)
    where
      go : Refuses mode t e o first second n → number_of n ≤ 8
      go (by_tables x) = let k = verdict_numbers t e o n x in omega (arith, k.1)
      go (by_buffers x y z) = rw z (omega arith)
      go (by_drawing x y z) = let w : ◌≡◌ {A = Answer Got} (Err NoRoom) (Err n) = sym (ap (λ (b : Bool). cond b (Err NoRoom) work.end) h) ∙ z in let k : NoRoom ≡ n = cc in rw⁻¹ k (omega arith)

  end_by : (k : Refusal) → 8 ≤ number_of k → work.end ≡ Err k → (n : Refusal) → drawn mode t e o first second ≡ Err n → number_of n ≤ number_of k
  end_by k h w n q = go (refuses mode t e o first second n q)
    where
      own : ((n ≡ NoRoom) × (overflows (room_of first second) work.acts ≡ true)) ⊎ (work.end ≡ Err n) → number_of n ≤ number_of k
      own (inl z) = rw z.0 h
      own (inr x) = let z : k ≡ n = cc in rw z (omega arith)

      go : Refuses mode t e o first second n → number_of n ≤ number_of k
      go (by_tables x) = let k = verdict_numbers t e o n x in omega (arith, k.1)
      go (by_buffers x y z) = rw z (omega (arith, h))
      go (by_drawing x y z) = own (within_refused (room_of first second) work n z)

  no_later : (m : ℕ) → Applies mode t e o first second m → (n : Refusal) → drawn mode t e o first second ≡ Err n → number_of n ≤ m
  unfolding verdict
  no_later m (one h) = refused_by 1 (omega arith) (hit a Oversize v2 h)
  no_later m (two h) = refused_by 2 (omega arith) (pass a Oversize 2 v2 (omega arith) (hit b Unbounded v3 h))
  no_later m (three h) = refused_by 3 (omega arith) (pass a Oversize 3 v2 (omega arith) (pass b Unbounded 3 v3 (omega arith) (hit c IllFormed v4 h)))
  no_later m (four h) = refused_by 4 (omega arith) (pass a Oversize 4 v2 (omega arith) (pass b Unbounded 4 v3 (omega arith) (pass c IllFormed 4 v4 (omega arith) (hit d Unordered v5 h))))
  no_later m (five h) =
      refused_by 5 (omega arith)
      (pass a Oversize 5 v2 (omega arith) (pass b Unbounded 5 v3 (omega arith) (pass c IllFormed 5 v4 (omega arith) (pass d Unordered 5 v5 (omega arith) (hit f TooDeep v6 h)))))
  no_later m (six h) =
      refused_by 6 (omega arith)
      (pass a Oversize 6 v2 (omega arith) (pass b Unbounded 6 v3 (omega arith) (pass c IllFormed 6 v4 (omega arith) (pass d Unordered 6 v5 (omega arith) (pass f TooDeep 6 v6 (omega arith) (hit g Missing (Ok tt) h))))))
  no_later m (seven h) = short_by h
  no_later m (eight h) = room_by h
  no_later m (nine h) = end_by Endless (omega arith) h
  no_later m (eleven h) = end_by TooFar (omega arith) h

  -- ---- a refusal is that of a cause that applies
  step : (x : Bool) (k n : Refusal) (v : Answer ⊤) → (x ≡ true → Applies mode t e o first second (number_of k)) → (v ≡ Err n → Applies mode t e o first second (number_of n))
      → cond x (Err k) v ≡ Err n → Applies mode t e o first second (number_of n)
  step true k n v here on h = let z : k ≡ n = cc in subst (λ r. Applies mode t e o first second (number_of r)) z (here refl)
  step false k n v here on h = on h

  by_verdict : (n : Refusal) → verdict t e o ≡ Err n → Applies mode t e o first second (number_of n)
  unfolding verdict
  by_verdict n =
      step a Oversize n v2 one (step b Unbounded n v3 two (step c IllFormed n v4 three (step d Unordered n v5 four (step f TooDeep n v6 five (step g Missing n (Ok tt) six
      λ h. cc)))))

  applying : (n : Refusal) → Refuses mode t e o first second n → Applies mode t e o first second (number_of n)
  applying n (by_tables h) = by_verdict n h
  applying n (by_buffers x y z) = rw z (seven y)
  applying n (by_drawing x y q) = go (drawn_late mode t e o first second n q x y)
    where
      go : Cause (overflows (room_of first second) work.acts) work.end n → Applies mode t e o first second (number_of n)
      go (longer z h) = rw z (eight h)
      go (endless z h) = rw z (nine h)
      go (too_far z h) = rw z (eleven h)

  -- an edge is refused with the lowest cause that applies
  pub lowest : (n : Refusal) → drawn mode t e o first second ≡ Err n → Lowest mode t e o first second (number_of n)
  lowest n q = record {
    applies = applying n (refuses mode t e o first second n q);
    lowest = λ m h x. let z = no_later m x n q in omega (arith, z, h);
  }

  -- and accepted only where none applies
  pub none_applies : (k : Got) → drawn mode t e o first second ≡ Ok k → (m : ℕ) → Applies mode t e o first second m → ⊥
  none_applies k q m x = go m x
    where
      s : Accepts mode t e o first second k
      s = accepts mode t e o first second k q

      own : (overflows (room_of first second) work.acts ≡ false) × (work.end ≡ Ok k)
      own = within_got (room_of first second) work k s.made

      differ : {x : Bool} → x ≡ true → x ≡ false → ⊥
      differ p r = let z : ◌≡◌ {A = ℕ} 0 1 = cc in omega arith

      go : (m : ℕ) → Applies mode t e o first second m → ⊥
      go m (one h) = differ h (causes_of t e o s.accepted).0
      go m (two h) = differ h (causes_of t e o s.accepted).1
      go m (three h) = differ h (causes_of t e o s.accepted).2
      go m (four h) = differ h (causes_of t e o s.accepted).3
      go m (five h) = differ h (causes_of t e o s.accepted).4
      go m (six h) = differ h (causes_of t e o s.accepted).5
      go m (seven h) = differ h s.long
      go m (eight h) = differ h own.0
      go m (nine h) = let y = own.1 in let z : ◌≡◌ {A = ℕ} 0 1 = cc in omega arith
      go m (eleven h) = let y = own.1 in let z : ◌≡◌ {A = ℕ} 0 1 = cc in omega arith
