-- A list is written into a buffer piece by piece: what is written, then what is left to be written, is the whole. Assumes nothing.
use mathlib.Core.Path.{◌≡◌, refl, sym, ap, ◌∙◌}
use mathlib.Core.List.{List, [], ◌∷◌, ◌++◌}
use Prim.Native.Nat.{ℕ, ◌+◌, ◌<◌, ◌≤◌}
use native.Mathlib.Omega.{arith}
use native.Mathlib.Numerals.{add-one}
use lib.ListN.{length, set, length-set, length-append}
use lib.Seq.{sets, length-sets}
use Rattle.base_lists.proofs.Stores.{sets_append}

-- `out` is `before` with a part of `whole` written from `at` on; the others, `rest`, go to k
pub record Part {E : Type 0} (before out : List E) (at k : ℕ) (whole rest : List E) : Type 0 where
  pub room : length out ≡ length before
  pub place : k + length rest ≡ at + length whole
  pub is : sets out k rest ≡ sets before at whole

module _ {E : Type 0} (before : List E) (at : ℕ) (whole : List E) where
  abbrev pub none_written : Part before before at at whole whole
  none_written = record { room = refl; place = refl; is = refl }

  module _ (out : List E) (k : ℕ) (rest : List E) (w : Part before out at k whole rest) where
    -- nothing is left
    pub all_written : rest ≡ [] → (k ≡ at + length whole) × (out ≡ sets before at whole)
    all_written e =
        let p = w.place in
        let l = ap length e in
        (omega arith, sym (ap (sets out k) e) ∙ w.is)

    -- what is left, under another name
    pub as_left : (more : List E) → rest ≡ more → Part before out at k whole more
    as_left more e = rw e at w

    -- one more
    pub one_fits : (a : E) (more : List E) → rest ≡ a ∷ more → at + length whole ≤ length before → k < length out
    one_fits a more e h =
        let p = w.place in
        let r = w.room in
        let l = ap length e in
        omega arith

    pub one_written : (a : E) (more : List E) → rest ≡ a ∷ more → Part before (set out k a) at (k + 1) whole more
    one_written a more e =
        let p = w.place in
        let r = w.room in
        let l = ap length e in
        record {
          room = simp length-set (omega arith);
          place = omega arith;
          is = ap (λ j. sets (set out k a) j more) (add-one k) ∙ ap (sets out k) (sym e) ∙ w.is;
        }

    -- some more, by a call
    pub some_fit : (xs more : List E) → rest ≡ xs ++ more → at + length whole ≤ length before → k + length xs ≤ length out
    some_fit xs more e h =
        let p = w.place in
        let r = w.room in
        let l = ap length e ∙ length-append xs more in
        omega arith

    pub some_written : (xs more next : List E) (j : ℕ) → rest ≡ xs ++ more → next ≡ sets out k xs → j ≡ k + length xs → Part before next at j whole more
    some_written xs more next j e f g =
        let p = w.place in
        let r = w.room in
        let l = ap length e ∙ length-append xs more in
        let m = ap length f ∙ length-sets out k xs in
        record {
          room = omega arith;
          place = omega arith;
          is =
              ap (λ o. sets o j more) f ∙ ap (λ i. sets (sets out k xs) i more) g ∙ sym (sets_append out k xs more)
              ∙ ap (sets out k) (sym e) ∙ w.is;
        }
