-- What walking means: the steps answer the points of Chain::oriented, in order, then none. Assumes nothing.
use Rattle.std.specs.Prelude.{Option, None, slice_get}
use mathlib.Core.Path.{◌≡◌, refl, sym, ap, ◌∙◌}
use mathlib.Core.Bool.{Bool, true, false, cond}
use mathlib.Core.List.{List, [], ◌∷◌, ◌++◌, reverse, reverse-append}
use Prim.Native.Nat.{ℕ, zero, suc, ◌+◌, ◌-◌, ◌≤◌, ◌<◌, min}
use native.Mathlib.Nat.{add-zero, add-suc, suc-add, zero-add}
use native.Mathlib.Numerals.{add-one}
use native.Mathlib.Omega.{arith}
use lib.Dec.{eqb, ltb}
use lib.ListN.{length, length-append}
use lib.Ieee.{Float}
use denote.Ref.{Bor}
use borrow.Author.Tests.{lt-ltb, le-ltb, ne_eqb}
use Rattle.edge_record.specs.declared.Sample.{Sample}
use Rattle.edge_record.specs.Chain.{width, flat, sample_at, samples_from, samples}
use Rattle.edge_record.proofs.Laws.{length_flat, reads}
use Rattle.edge_walker.specs.declared.Walker.{Walker}
use Rattle.edge_walker.specs.declared.Stepped.{Stepped}
use Rattle.edge_walker.specs.Walk.{whole_of, oriented, oriented_chain, start_of, passes, keeps_place, stepped, walker_at, started, next, after, Walks}

-- ---- a step, by where it starts
module _ (c : List Float) (i : ℕ) where
  ahead : i < whole_of c → stepped c i true ≡ passes c i (i + 1)
  unfolding stepped
  ahead h = rw (lt-ltb i (whole_of c) h)

  no_more : whole_of c ≤ i → stepped c i true ≡ keeps_place i
  unfolding stepped
  no_more h = rw (le-ltb i (whole_of c) h)

  back : suc i ≤ whole_of c → stepped c (suc i) false ≡ passes c i i
  unfolding stepped
  back h =
      let m : min (suc i) (whole_of c) ≡ suc i = omega arith in
      let d : suc i - 1 ≡ i = omega arith in
      rw (m, ne_eqb (suc i) 0 (λ e. omega arith), d)

at_start : (c : List Float) → stepped c 0 false ≡ keeps_place 0
unfolding stepped
at_start c = let m : min 0 (whole_of c) ≡ 0 = omega arith in rw m

-- one that answers none keeps its place
stays : (c : List Float) (place : ℕ) (forward : Bool) → (stepped c place forward).step ≡ None → (stepped c place forward).at ≡ place
unfolding stepped
stays c place true e = go (ltb place (whole_of c)) place (place + 1) e
  where
    go : (v : Bool) (i next : ℕ) → (cond v (passes c i next) (keeps_place place)).step ≡ None → (cond v (passes c i next) (keeps_place place)).at ≡ place
    go true i next e = cc
    go false i next e = refl
stays c place false e = go (eqb (min place (whole_of c)) 0) (min place (whole_of c) - 1) e
  where
    go : (v : Bool) (i : ℕ) → (cond v (keeps_place place) (passes c i i)).step ≡ None → (cond v (keeps_place place) (passes c i i)).at ≡ place
    go true i e = refl
    go false i e = cc

-- ---- the step after n steps
-- the records in reverse
reversed : (c : List Float) (n : ℕ) → reverse (samples_from c 0 (suc n)) ≡ sample_at c n ∷ reverse (samples_from c 0 n)
unfolding samples_from
reversed c n = ap reverse (snoc 0 n) ∙ reverse-append (samples_from c 0 n) (sample_at c (0 + n) ∷ []) ∙ rw zero-add
  where
    snoc : (i n : ℕ) → samples_from c i (suc n) ≡ samples_from c i n ++ (sample_at c (i + n) ∷ [])
    snoc i zero = rw add-zero
    snoc i (suc n) = ap (λ (l : List Sample). sample_at c i ∷ l) (snoc (suc i) n ∙ rw (suc-add, add-suc))

module _ (chain : Bor (List Float)) where
  abbrev c : List Float
  c = chain.now

  -- what the step after n steps from a place answers
  abbrev answer : Bool → ℕ → ℕ → Option Sample
  answer forward place n = (next (after (walker_at chain place forward) n)).step

  -- by the first step: its own answer, and those from the place where it leaves the walker
  module _ (f : Bool) (place : ℕ) (s : Stepped) (e : stepped c place f ≡ s) where
    first : answer f place 0 ≡ s.step
    unfolding after
    first = ap (λ (z : Stepped). z.step) e

    later : (n : ℕ) → answer f place (suc n) ≡ answer f s.at n
    unfolding after
    later n = ap (λ (z : Stepped). answer f z.at n) e

  -- no point is left, now or later
  ended : (f : Bool) (place n : ℕ) → stepped c place f ≡ keeps_place place → answer f place n ≡ None
  ended f place zero e = first f place _ e
  ended f place (suc n) e = later f place _ e n ∙ ended f place n e

  -- forwards from record i, m records before the end
  ahead_answers : (n m i : ℕ) → i + m ≡ whole_of c → answer true i n ≡ slice_get (samples_from c i m) n
  unfolding samples_from
  ahead_answers n zero i e = ended true i n (no_more c i (omega arith))
  ahead_answers zero (suc m) i e = first true i _ (ahead c i (omega arith))
  ahead_answers (suc n) (suc m) i e =
      later true i _ (ahead c i (omega arith)) n
      ∙ ap (λ (j : ℕ). answer true j n) (add-one i)
      ∙ ahead_answers n m (suc i) (omega arith)

  -- backwards from behind m records
  back_answers : (n m : ℕ) → m ≤ whole_of c → answer false m n ≡ slice_get (reverse (samples_from c 0 m)) n
  unfolding samples_from
  back_answers n zero h = ended false 0 n (at_start c)
  back_answers zero (suc m) h = first false (suc m) _ (back c m h) ∙ ap (λ (l : List Sample). slice_get l 0) (sym (reversed c m))
  back_answers (suc n) (suc m) h =
      later false (suc m) _ (back c m h) n
      ∙ back_answers n m (omega arith)
      ∙ ap (λ (l : List Sample). slice_get l (suc n)) (sym (reversed c m))

  answers : (forward : Bool) (n : ℕ) → (next (after (started chain forward) n)).step ≡ slice_get (oriented_chain c forward) n
  unfolding start_of oriented_chain
  answers true n = ahead_answers n (whole_of c) 0 (zero-add (whole_of c))
  answers false n = back_answers n (whole_of c) (omega arith)

-- of a buffer that holds a chain, and behind it no further whole record, the whole points are the chain's
whole : (c : List Float) (forward : Bool) (points : List Sample) (rest : List Float) → c ≡ flat points ++ rest → length rest < width → oriented_chain c forward ≡ oriented points forward
unfolding oriented_chain
whole c forward points rest e h =
    let n : whole_of c ≡ length points = let f = length_flat points in let g = length-append (flat points) rest in let k = ap length e in omega arith in
    let held : samples (whole_of c) c ≡ points = rw (n, e) (reads points rest) in
    ap (λ (l : List Sample). oriented l forward) held

-- THE LAW
pub walks : (chain : Bor (List Float)) (forward : Bool) (w : Walker) → w ≡ started chain forward → Walks chain.now forward w
walks chain forward w e = rw e (record {
  answers = answers chain forward;
  keeps = λ n d. let v = after (started chain forward) n in ap (λ (place : ℕ). walker_at v.chain place v.forward) (stays v.chain.now v.at v.forward d);
  whole = whole chain.now forward;
})
