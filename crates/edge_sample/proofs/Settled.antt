-- A list that is held, with the rest of the buffer cleared, and the ways through refine. Assumes nothing.
use Rattle.std.specs.Prelude.{Option, ℕ, Some, None, Err, Ok}
use mathlib.Core.Path.{◌≡◌, refl, sym, ap, subst, ◌∙◌}
use mathlib.Core.Bool.{Bool, true, false, not}
use mathlib.Core.List.{List, [], ◌∷◌, ◌++◌}
use Prim.Native.Nat.{ℕ, ◌-◌, ◌≤◌, ◌<◌}
use native.Mathlib.Omega.{arith}
use lib.Dec.{ltb}
use lib.ListN.{length, take, length-append}
use lib.Ieee.{Float}
use borrow.Author.Tests.{lt-ltb, le-ltb}
use Rattle.base_lists.specs.Room.{filled}
use Rattle.math.specs.declared.Interval.{Interval}
use Rattle.edge_params.specs.Params.{Sampler, evenly, breaks_along}
use Rattle.edge_params.specs.Own.Bisected.{walked, through, bisected}
use Rattle.edge_params.specs.Own.InRoom.{fitting, floored_in, refined_in}
use Rattle.edge_params.specs.Own.Written.{said, ListWritten}
use Rattle.edge_params.proofs.Written.{fitting_fits, Counted, counted, written_count, written_length, written_list}
use Rattle.base_lists.specs.Own.ListOf.{list_of}
use Rattle.edge_sample.specs.Own.Traced.{is_enough}
use Rattle.edge_sample.specs.declared.Sampled.{Sampled}
use Rattle.edge_sample.specs.Own.Answered.{SampledInto, kept_floats, sampled_as, count_of, known_of}
use Rattle.refusal.specs.Answer.{Answer, each, bind}
use Rattle.refusal.specs.declared.Refusal.TheVariants.{NoRoom}

refused_list : (s : Answer (List Float)) → Err NoRoom ≡ each length s → list_of s ≡ []
refused_list (Err n) e = refl
refused_list (Ok k) e = let z : ◌≡◌ {A = ℕ} 0 1 = cc in absurd (omega arith)

-- what settle answers of a list
module _ (w : Option ℕ) (known : Bool) {q : Option Sampled} (is : q ≡ sampled_as w known) where
  pub counts : count_of q ≡ w
  counts = ap count_of is ∙ go w
    where
      go : (w : Option ℕ) → count_of (sampled_as w known) ≡ w
      go (Some n) = refl
      go None = refl

  pub unknown : known ≡ false → known_of q ≡ false
  unknown e = ap known_of is ∙ go w ∙ e
    where
      go : (w : Option ℕ) → known_of (sampled_as w known) ≡ known
      go (Some n) = refl
      go None = sym e

-- v is the answer of the code that wrote the list l, and w what settle is handed
module _ {out l after : List Float} (v w : Option ℕ) (e : v ≡ w) (h : ListWritten out l v after) where
  now_held : ListWritten out l w after
  now_held = subst (λ (q : Option ℕ). ListWritten out l q after) e h

  pub settle_room : kept_floats w ≤ length after
  settle_room = go w now_held
    where
      go : (w : Option ℕ) → ListWritten out l w after → kept_floats w ≤ length after
      go (Some n) h = omega (arith, (written_count h).same, (written_count h).fits, written_length h)
      go None h = omega arith

  -- in a buffer of room floats, where s is what the list stands for
  module _ (room : ℕ) (s : Answer (List Float)) (long : length out ≡ room) (is : fitting room l ≡ s) where
    pub settled : (w' : Option ℕ) (last : List Float) → w' ≡ w → last ≡ filled (length after) (take (kept_floats w) after) → SampledInto room s w' last
    settled w' last same b =
        (ap said (same ∙ sym e) ∙ h.answer ∙ ap (each length) to, b ∙ go w now_held ∙ ap (λ (x : Answer (List Float)). filled room (list_of x)) is)
      where
        to : fitting (length out) l ≡ s
        to = ap (λ (n : ℕ). fitting n l) long ∙ is

        go : (w : Option ℕ) → ListWritten out l w after → filled (length after) (take (kept_floats w) after) ≡ filled room (list_of (fitting room l))
        go (Some n) h =
            ap (filled (length after)) (written_list h) ∙ ap (λ (m : ℕ). filled m l) (written_length h ∙ long)
            ∙ ap (λ (x : Answer (List Float)). filled room (list_of x)) (sym (fitting_fits room l (omega (arith, (written_count h).fits))))
        go None h =
            ap (λ (m : ℕ). filled m []) (written_length h ∙ long)
            ∙ ap (filled room) (sym (refused_list (fitting room l) (h.answer ∙ ap (λ (n : ℕ). each length (fitting n l)) long)))

    -- of a buffer that is read where it was lent from
    pub settled_back : (w' : Option ℕ) {from last : List Float} → w' ≡ w → last ≡ filled (length from) (take (kept_floats w) from) → from ≡ after → SampledInto room s w' last
    settled_back w' {last = last} same b back = settled w' last same (b ∙ ap (λ (l : List Float). filled (length l) (take (kept_floats w) l)) back)

pub length_back : {out l after from : List Float} {w : Option ℕ} → ListWritten out l w after → from ≡ after → length from ≡ length out
length_back h back = ap length back ∙ written_length h

-- ---- refine
through_long : (s : Sampler) (range : Interval) (bs : List Float) → 2 ≤ length (through s range bs)
unfolding through
through_long s range bs = omega (arith, length-append (walked s range range.lo (bs ++ (range.hi ∷ []))) (range.hi ∷ []))

pub bisected_long : (s : Sampler) (range : Interval) → 2 ≤ length (bisected s range)
bisected_long s range = through_long s range (breaks_along s range)

-- mid is the buffer after bisection, which answered w
module _ (s : Sampler) (range : Interval) (w : Option ℕ) {out mid : List Float} (h : ListWritten out (bisected s range) w mid) where
  pub refined_refused : w ≡ None → fitting (length out) (bisected s range) ≡ refined_in (length out) s range
  unfolding refined_in
  refined_refused z = go (fitting (length out) (bisected s range)) (ap said (sym z) ∙ h.answer)
    where
      go : (x : Answer (List Float)) → Err NoRoom ≡ each length x → x ≡ bind x (floored_in (length out) s range)
      go (Err n) e = refl
      go (Ok k) e = let z : ◌≡◌ {A = ℕ} 0 1 = cc in absurd (omega arith)

  pub refused_short : w ≡ None → false ≡ is_enough s.least (fitting (length out) (bisected s range))
  unfolding is_enough
  refused_short z = go (fitting (length out) (bisected s range)) (ap said (sym z) ∙ h.answer)
    where
      go : (x : Answer (List Float)) → Err NoRoom ≡ each length x → false ≡ is_enough s.least x
      go (Err n) e = refl
      go (Ok k) e = let z : ◌≡◌ {A = ℕ} 0 1 = cc in absurd (omega arith)

  module _ (n : ℕ) (e : w ≡ Some n) where
    is : Counted (length out) (bisected s range) n
    is = counted (length out) (bisected s range) n (ap said (sym e) ∙ h.answer)

    pub some : 1 ≤ n
    some = omega (arith, is.same, bisected_long s range)

    fits : fitting (length out) (bisected s range) ≡ Ok (bisected s range)
    fits = fitting_fits (length out) (bisected s range) is.fits

    floor_of_lem : (t : Bool) → ltb (n - 1) s.least ≡ t
        → refined_in (length out) s range ≡ elim t [ true ↦ fitting (length out) (evenly range s.least) | false ↦ Ok (bisected s range) ]
    unfolding refined_in floored_in
    floor_of_lem t p =
        ap (λ (x : Answer (List Float)). bind x (floored_in (length out) s range)) fits
        ∙ ap (λ (t : Bool). elim t [ true ↦ fitting (length out) (evenly range s.least) | false ↦ Ok (bisected s range) ])
        (ap (λ (m : ℕ). ltb (m - 1) s.least) (sym is.same) ∙ p)

    pub refined_few : n - 1 < s.least → fitting (length out) (evenly range s.least) ≡ refined_in (length out) s range
    refined_few p = sym (floor_of_lem true (lt-ltb (n - 1) s.least p))

    pub refined_enough : s.least ≤ n - 1 → fitting (length out) (bisected s range) ≡ refined_in (length out) s range
    refined_enough p = fits ∙ sym (floor_of_lem false (le-ltb (n - 1) s.least p))

    enough_of : (t : Bool) → ltb (n - 1) s.least ≡ t → not t ≡ is_enough s.least (fitting (length out) (bisected s range))
    unfolding is_enough
    enough_of t p = sym (ap (is_enough s.least) fits ∙ ap (λ (m : ℕ). not (ltb (m - 1) s.least)) (sym is.same) ∙ ap not p)

    pub few_short : n - 1 < s.least → false ≡ is_enough s.least (fitting (length out) (bisected s range))
    few_short p = enough_of true (lt-ltb (n - 1) s.least p)

    pub enough_kept : s.least ≤ n - 1 → true ≡ is_enough s.least (fitting (length out) (bisected s range))
    enough_kept p = enough_of false (le-ltb (n - 1) s.least p)
