-- The loops of `merge` and `copy`: what is placed, then what is left, is the whole. Assumes nothing.
use mathlib.Core.Path.{◌≡◌, refl, sym, ap, ◌∙◌}
use mathlib.Core.Bool.{Bool, true, false, cond}
use mathlib.Core.List.{List, [], ◌∷◌, ◌++◌}
use Prim.Native.Nat.{ℕ, ◌+◌, ◌≤◌, ◌<◌}
use native.Mathlib.Numerals.{add-one}
use native.Mathlib.Omega.{arith}
use lib.ListN.{length, get_or, take, drop, set, length-set, take-append-drop, drop_of_length-le}
use lib.Seq.{take-suc-set, take-suc, take-length, drop-set-lt, drop-cons, append_snoc}
use lib.Ieee.{Float, nan, lt}
use Rattle.knots_sort.specs.Own.Merge.{before, merged_runs}

-- v stored at number `to`, below what is left
stored : (g : List Float → List Float) (a : List Float) (next to : ℕ) (v : Float) → to < length a → to < next → take (to + 1) (set a to v) ++ g (drop next (set a to v)) ≡ take to a ++ v ∷ g (drop next a)
stored g a next to v h p =
    ap (λ (n : ℕ). take n (set a to v) ++ g (drop next (set a to v))) (add-one to)
    ∙ ap (λ (t : List Float). t ++ g (drop next (set a to v))) (take-suc-set a to v h)
    ∙ ap (λ (t : List Float). (take to a ++ (v ∷ [])) ++ g t) (drop-set-lt next a to v p)
    ∙ append_snoc (take to a) v (g (drop next a))

-- ---- the inner loop: b, m, n stand for a, next and to when it began; what of the rest is below x has been placed up to number `next`
pub record Placing (x : Float) (b : List Float) (m n : ℕ) (a : List Float) (next to : ℕ) : Type 0 where
  pub less : n < m
  pub apart : next + n ≡ to + m
  pub within : next ≤ length a
  pub same_length : length a ≡ length b
  pub whole : (f : List Float → List Float) → take to a ++ before x f (drop next a) ≡ take n b ++ before x f (drop m b)

module _ (x : Float) (f : List Float → List Float) (a : List Float) (next : ℕ) where
  here : (b : Bool) → lt (get_or a next nan) x ≡ b → next < length a
      → before x f (drop next a) ≡ cond b (get_or a next nan ∷ before x f (drop (next + 1) a)) (x ∷ f (drop next a))
  unfolding before
  here b e h =
      let front : drop next a ≡ get_or a next nan ∷ drop (next + 1) a = drop-cons a next nan h ∙ ap (λ (n : ℕ). get_or a next nan ∷ drop n a) (sym (add-one next)) in
      ap (before x f) front
      ∙ ap (λ (b : Bool). cond b (get_or a next nan ∷ before x f (drop (next + 1) a)) (x ∷ f (get_or a next nan ∷ drop (next + 1) a))) e
      ∙ ap (λ (l : List Float). cond b (get_or a next nan ∷ before x f (drop (next + 1) a)) (x ∷ f l)) (sym front)

  pub none_below : lt (get_or a next nan) x ≡ false → next < length a → before x f (drop next a) ≡ x ∷ f (drop next a)
  none_below e h = here false e h

  pub none_left : length a ≤ next → before x f (drop next a) ≡ x ∷ f (drop next a)
  unfolding before
  none_left h = let e : drop next a ≡ [] = drop_of_length-le a {i = next} h in ap (before x f) e ∙ ap (λ (l : List Float). x ∷ f l) (sym e)

pub placing_start : (x : Float) (b : List Float) (m n : ℕ) → n < m → m ≤ length b → Placing x b m n b m n
placing_start x b m n p h = record { less = p; apart = omega arith; within = h; same_length = refl; whole = λ f. refl }

pub placing_next : (x : Float) (b : List Float) (m n : ℕ) (a : List Float) (next to : ℕ) → Placing x b m n a next to → next < length a → lt (get_or a next nan) x ≡ true
    → Placing x b m n (set a to (get_or a next nan)) (next + 1) (to + 1)
placing_next x b m n a next to s h e = record {
  less = s.less;
  apart = omega (arith, s.apart);
  within = omega (arith, length-set a to (get_or a next nan));
  same_length = length-set a to (get_or a next nan) ∙ s.same_length;
  whole = λ f.
      stored (before x f) a (next + 1) to (get_or a next nan) (omega (arith, s.less, s.apart)) (omega (arith, s.less, s.apart))
      ∙ ap (λ (l : List Float). take to a ++ l) (sym (here x f a next true e h)) ∙ s.whole f;
}

-- ---- the outer loop: i of the list l are placed, and those of the part behind it up to number `next`
pub record Merging (l b a : List Float) (next to i : ℕ) : Type 0 where
  pub apart : i + next ≡ length l + to
  pub within : next ≤ length a
  pub whole : take to a ++ merged_runs (drop i l) (drop next a) ≡ merged_runs l (drop (length l) b)

pub merging_start : (l b : List Float) → length l ≤ length b → Merging l b b (length l) 0 0
merging_start l b h = record { apart = omega arith; within = h; whole = refl }

-- a, m, n: what the inner loop began with; c, next, to: what it left, where none of the rest is below the next of l
pub merging_next : (l b a : List Float) (m n i : ℕ) → Merging l b a m n i → i < length l → (c : List Float) (next to : ℕ) → Placing (get_or l i nan) a m n c next to
    → ((f : List Float → List Float) → before (get_or l i nan) f (drop next c) ≡ get_or l i nan ∷ f (drop next c))
    → Merging l b (set c to (get_or l i nan)) next (to + 1) (i + 1)
unfolding merged_runs
merging_next l b a m n i s h c next to g none = record {
  apart = omega (arith, s.apart, g.apart);
  within = omega (arith, g.within, length-set c to (get_or l i nan));
  whole =
      stored (merged_runs rest) c next to x (omega (arith, s.apart, g.apart, g.within)) (omega (arith, s.apart, g.apart))
      ∙ ap (λ (t : List Float). take to c ++ t) (sym (none (merged_runs rest)))
      ∙ g.whole (merged_runs rest) ∙ ap (λ (t : List Float). take n a ++ merged_runs t (drop m a)) (sym front) ∙ s.whole;
}
  where
    x : Float
    x = get_or l i nan

    rest : List Float
    rest = drop (i + 1) l

    front : drop i l ≡ get_or l i nan ∷ drop (i + 1) l
    front = drop-cons l i nan h ∙ ap (λ (n : ℕ). get_or l i nan ∷ drop n l) (sym (add-one i))

pub merging_done : (l b a : List Float) (next to i : ℕ) → Merging l b a next to i → i ≡ length l → a ≡ merged_runs l (drop (length l) b)
unfolding merged_runs
merging_done l b a next to i s h =
    let e : next ≡ to = omega (arith, s.apart) in
    let n : drop i l ≡ [] = drop_of_length-le l {i = i} (omega arith) in
    sym (take-append-drop to a)
    ∙ ap (λ (m : ℕ). take to a ++ drop m a) (sym e)
    ∙ ap (λ (t : List Float). take to a ++ merged_runs t (drop next a)) (sym n)
    ∙ s.whole

-- ---- the loop of `copy`: the first i of `to` are those of `from`
module _ (from to : List Float) (i : ℕ) (same_length : length from ≡ length to) (same : take i to ≡ take i from) where
  pub copying_next : i < length from → take (i + 1) (set to i (get_or from i nan)) ≡ take (i + 1) from
  copying_next h =
      ap (λ (n : ℕ). take n (set to i (get_or from i nan))) (add-one i)
      ∙ take-suc-set to i (get_or from i nan) (omega arith)
      ∙ ap (λ (t : List Float). t ++ (get_or from i nan ∷ [])) same
      ∙ sym (take-suc from i nan h) ∙ ap (λ (n : ℕ). take n from) (sym (add-one i))

  pub copying_done : i ≡ length from → to ≡ from
  copying_done e = sym (take-length to) ∙ ap (λ (n : ℕ). take n to) (sym same_length ∙ sym e) ∙ same ∙ ap (λ (n : ℕ). take n from) e ∙ take-length from
