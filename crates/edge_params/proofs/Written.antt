-- A list that is written into a buffer in parts, and refused as one parameter more than the buffer has room for would join it.
-- Assumes nothing.
use Rattle.std.specs.Prelude.{Option, ℕ, Some, None, Err, Ok}
use Rattle.std.proofs.Common.{◌≡◌, ℕ, suc, ◌+◌, ◌<◌, ◌≤◌, Bool, true, false, leb, List, [], ◌∷◌, ◌++◌, length, take, drop, set, sym, refl, ap, ◌∙◌, subst, append_assoc, append-nil, zero-add, arith, length-append, take-append-drop, length-take-le, le-leb, leb-false, leb-true}
use lib.Seq.{sets, sets-eq, length-sets, set_out, take-append_seam, drop-append_seam}
use lib.Ieee.{Float}
use borrow.Author.Tests.{lt-leb}
use Rattle.base_lists.proofs.Stores.{sets_append}
use Rattle.edge_params.specs.Own.InRoom.{fitting}
use Rattle.edge_params.specs.Own.Written.{said, ListWritten, ListAppended}
use Rattle.refusal.specs.Answer.{Answer, bind, each}
use Rattle.refusal.specs.declared.Refusal.TheVariants.{NoRoom}
use Rattle.refusal.specs.declared.Refusal.{Refusal}

-- ---- stores: past the end nothing is stored
pub sets_out : (l : List Float) (n : ℕ) (a : List Float) → length l ≤ n → sets l n a ≡ l
sets_out l n [] h = refl
sets_out l n (x ∷ a) h = rw (set_out l n x h) (sets_out l (suc n) a (omega arith))

-- from the buffer's start
start : (l a : List Float) → length a ≤ length l → sets l 0 a ≡ a ++ drop (length a) l
start l a h = sets-eq a l 0 (rw zero-add h) ∙ ap (λ (k : ℕ). a ++ drop k l) (zero-add (length a))

behind : (l a b : List Float) → sets l 0 (a ++ b) ≡ sets (sets l 0 a) (length a) b
behind l a b = sets_append l 0 a b ∙ ap (λ (k : ℕ). sets (sets l 0 a) k b) (zero-add (length a))

again : (l a b : List Float) → length a ≤ length l → sets (sets l 0 a) 0 (a ++ b) ≡ sets l 0 (a ++ b)
again l a b h = behind (sets l 0 a) a b ∙ ap (λ (k : List Float). sets k (length a) b) twice ∙ sym (behind l a b)
  where
    twice : sets (sets l 0 a) 0 a ≡ sets l 0 a
    twice =
        start (sets l 0 a) a (rw (length-sets l 0 a) h) ∙ ap (λ (k : List Float). a ++ drop (length a) k) (start l a h)
        ∙ ap (λ (k : List Float). a ++ k) (drop-append_seam a (drop (length a) l)) ∙ sym (start l a h)

-- ---- the answer: where the list fits, where it does not, and back
pub fitting_fits : (room : ℕ) (l : List Float) → length l ≤ room → fitting room l ≡ Ok l
unfolding fitting
fitting_fits room l h = rw (le-leb (length l) room h, fitting)

pub fitting_over : (room : ℕ) (l : List Float) → room < length l → fitting room l ≡ Err NoRoom
unfolding fitting
fitting_over room l h = rw (lt-leb (length l) room h, fitting)

-- what does not fit is refused with 8, and so is what follows a list where each list's own refusal is 8
pub fitting_eight : (room : ℕ) (l : List Float) (n : Refusal) → fitting room l ≡ Err n → n ≡ NoRoom
unfolding fitting
fitting_eight room l n = go (leb (length l) room)
  where
    go : (b : Bool) → ◌≡◌ {A = Answer (List Float)} (elim b [ true ↦ Ok l | false ↦ Err NoRoom ]) (Err n) → n ≡ NoRoom
    go true q = cc
    go false q = cc

pub fitting_then : (room : ℕ) (l : List Float) (f : List Float → Answer (List Float)) (n : Refusal) → ((k : List Float) → f k ≡ Err n → n ≡ NoRoom) → bind (fitting room l) f ≡ Err n → n ≡ NoRoom
fitting_then room l f n h = go (fitting room l) (fitting_eight room l)
  where
    go : (x : Answer (List Float)) → ((m : Refusal) → x ≡ Err m → m ≡ NoRoom) → bind x f ≡ Err n → n ≡ NoRoom
    go (Err m) g q = g n q
    go (Ok k) g q = h k q

pub fitting_got : (room : ℕ) (k l : List Float) → fitting room k ≡ Ok l → (k ≡ l) × (length k ≤ room)
fitting_got room k l q = go (leb (length k) room) refl
  where
    go : (b : Bool) → leb (length k) room ≡ b → (k ≡ l) × (length k ≤ room)
    go true p = let h = leb-true (length k) room p in let f = fitting_fits room k h in (cc, h)
    go false p = let f = fitting_over room k (leb-false (length k) room p) in cc

pub record Counted (room : ℕ) (l : List Float) (n : ℕ) : Type 0 where
  pub same : n ≡ length l
  pub fits : length l ≤ room

pub counted : (room : ℕ) (l : List Float) (n : ℕ) → Ok n ≡ each length (fitting room l) → Counted room l n
counted room l n e = go (leb (length l) room) refl
  where
    go : (t : Bool) → leb (length l) room ≡ t → Counted room l n
    go true p =
        let h = leb-true (length l) room p in
        let q : Ok n ≡ Ok (length l) = e ∙ ap (each length) (fitting_fits room l h) in
        record { same = cc; fits = h }
    go false p =
        let q : Ok n ≡ Err NoRoom = e ∙ ap (each length) (fitting_over room l (leb-false (length l) room p)) in
        cc

overfull : (room : ℕ) (l : List Float) → Err NoRoom ≡ each length (fitting room l) → room < length l
overfull room l e = go (leb (length l) room) refl
  where
    go : (t : Bool) → leb (length l) room ≡ t → room < length l
    go true p =
        let q : Err NoRoom ≡ Ok (length l) = e ∙ ap (each length) (fitting_fits room l (leb-true (length l) room p)) in
        cc
    go false p = leb-false (length l) room p

-- ---- a list in a buffer
pub written_count : {out l after : List Float} {n : ℕ} → ListWritten out l (Some n) after → Counted (length out) l n
written_count {out} {l} {n = n} h = counted (length out) l n h.answer

pub written_length : {out l after : List Float} {r : Option ℕ} → ListWritten out l r after → length after ≡ length out
written_length {out} {l} h = ap length h.buffer ∙ length-sets out 0 l

fits_written : {out l after : List Float} {n : ℕ} → n ≡ length l → length l ≤ length out → after ≡ sets out 0 l
    → ListWritten out l (Some n) after
fits_written {out} {l} e h b = record { answer = ap Ok e ∙ sym (ap (each length) (fitting_fits (length out) l h)); buffer = b }

over_written : {out l after : List Float} → length out < length l → after ≡ sets out 0 l → ListWritten out l None after
over_written {out} {l} h b = record { answer = sym (ap (each length) (fitting_over (length out) l h)); buffer = b }

-- read back
pub written_list : {out l after : List Float} {n : ℕ} → ListWritten out l (Some n) after → take n after ≡ l
written_list {out} {l} {after} {n} h =
    let c = written_count h in
    let e : after ≡ l ++ drop (length l) out = h.buffer ∙ start out l c.fits in
    rw (e, c.same) (take-append_seam l (drop (length l) out))

-- ---- put together from its parts: none, one more, one too many
pub written_none : (out : List Float) → ListWritten out [] (Some 0) out
written_none out = fits_written refl (omega arith) refl

-- a full buffer takes nothing more
full : (out a b : List Float) → length out ≤ length a → sets out 0 (a ++ b) ≡ sets out 0 a
full out a b h = behind out a b ∙ sets_out (sets out 0 a) (length a) b (rw (length-sets out 0 a) h)

module _ {out a after : List Float} (x : Float) where
  pub written_push : {n : ℕ} → ListWritten out a (Some n) after → n < length out
      → ListWritten out (a ++ (x ∷ [])) (Some (n + 1)) (set after n x)
  written_push {n} h l =
      let c = written_count h in
      fits_written (simp length-append (omega (arith, c.same))) (simp length-append (omega (arith, c.same)))
      (ap (λ (i : ℕ). set after i x) c.same ∙ ap (λ (k : List Float). set k (length a) x) h.buffer
      ∙ sym (behind out a (x ∷ [])))

  pub written_stop : {n : ℕ} (b : List Float) → ListWritten out a (Some n) after → length out ≤ n → ListWritten out (a ++ x ∷ b) None after
  written_stop b h l =
      let c = written_count h in
      over_written (simp length-append (omega (arith, c.same)))
      (h.buffer ∙ sym (full out a (x ∷ b) (omega (arith, c.same))))

-- a front that is refused, and one behind which more is written
pub written_full : {out a after : List Float} (b : List Float) → ListWritten out a None after → ListWritten out (a ++ b) None after
written_full {out} {a} b h =
    let g = overfull (length out) a h.answer in
    over_written (simp length-append (omega arith)) (h.buffer ∙ sym (full out a b (omega arith)))

-- ---- a list behind what a buffer holds already, put together from its parts
-- a list's own front, stored again
own : (l : List Float) (n : ℕ) → n ≤ length l → l ≡ sets l 0 (take n l)
own l n h =
    let e = length-take-le n l h in
    sym (start l (take n l) (rw e h) ∙ ap (λ (k : ℕ). take n l ++ drop k l) e ∙ take-append-drop n l)

pub behind_none : (out : List Float) (k : ℕ) → k ≤ length out → ListAppended out k [] (Some k) out
behind_none out k h =
    let e = length-take-le k out h in
    subst (λ (l : List Float). ListWritten out l (Some k) out) (sym (append-nil (take k out))) (fits_written (sym e) (rw e h) (own out k h))

-- one more, for which there is room or not
pub behind_one : (out : List Float) (k : ℕ) (x : Float) → k < length out → ListAppended out k (x ∷ []) (Some (k + 1)) (set out k x)
behind_one out k x h = rw append_assoc at (written_push x (behind_none out k (omega arith)) h)

pub behind_over : (out : List Float) (k : ℕ) (x : Float) → k ≤ length out → length out ≤ k → ListAppended out k (x ∷ []) None out
behind_over out k x h l = rw append_assoc at (written_stop x [] (behind_none out k h) l)

-- a front that is refused, and one behind which more is written
module _ (out : List Float) (k : ℕ) (a : List Float) {r : Option ℕ} (mid : List Float) (h : ListAppended out k a r mid) where
  counts : (n : ℕ) → r ≡ Some n → ListAppended out k a (Some n) mid
  counts n e = subst (λ (q : Option ℕ). ListAppended out k a q mid) e h

  pub behind_refused : r ≡ None → (b : List Float) → ListAppended out k (a ++ b) None mid
  behind_refused e b = rw append_assoc at (written_full b (subst (λ (q : Option ℕ). ListAppended out k a q mid) e h))

  pub behind_room : (n : ℕ) → r ≡ Some n → n ≤ length mid
  behind_room n e =
      let g = counts n e in
      omega (arith, written_length g, (written_count g).same, (written_count g).fits)

  -- how many are held, and that a list that is refused passes the room
  module _ (room : k ≤ length out) where
    pub behind_count : (n : ℕ) → r ≡ Some n → n ≡ k + length a
    behind_count n e = (written_count (counts n e)).same ∙ length-append (take k out) a ∙ ap (λ (m : ℕ). m + length a) (length-take-le k out room)

    pub behind_full : r ≡ None → length out < k + length a
    behind_full e =
        let g = overfull (length out) (take k out ++ a) (ap said (sym e) ∙ h.answer) in
        omega (arith, g, length-append (take k out) a, length-take-le k out room)

  pub behind_then : (n : ℕ) → r ≡ Some n → (b : List Float) {q : Option ℕ} {after : List Float} → ListAppended mid n b q after
      → ListAppended out k (a ++ b) q after
  behind_then n e b {q} {after} f = rw append_assoc at go
    where
      front : List Float
      front = take k out ++ a

      g : ListWritten out front (Some n) mid
      g = counts n e

      f' : ListWritten mid (front ++ b) q after
      f' = rw (written_list g) at f

      go : ListWritten out (front ++ b) q after
      go = record {
        answer = f'.answer ∙ ap (λ (m : ℕ). each length (fitting m (front ++ b))) (written_length g);
        buffer =
            f'.buffer ∙ ap (λ (m : List Float). sets m 0 (front ++ b)) g.buffer ∙ again out front b (written_count g).fits;
      }
