-- The laws of a work in a room: what it answers of an end, of a list, of one work after another, and in a larger room; and sample_params
-- in a room, list by list, where nothing that it asks for is too far. Assumes nothing.
use Rattle.std.specs.Prelude.{Option, ℕ, None, Some, Err, Ok}
use Rattle.std.proofs.Common.{◌≡◌, ℕ, suc, ◌+◌, ◌-◌, ◌<◌, ◌≤◌, Bool, true, false, cond, ◌||◌, ltb, leb, ◌⊎◌, List, [], ◌∷◌, ◌++◌, length, sym, refl, ap, ◌∙◌, inl, inr, arith, ltb-false, ltb-true, le-ltb, lt-ltb, leb-false, leb-true}
use lib.Ieee.{Float}
use Rattle.math.specs.declared.Interval.{Interval}
use Rattle.edge_params.specs.Work.{Act, joins, Work, ends, done, joining, forms, acts_after, and_then, some_far, passes, overflows, within}
use Rattle.edge_params.specs.Params.{asked, forming, Sampler, evenly, bisecting, floored, refined, sample_params}
use Rattle.edge_params.specs.Own.Bisected.{bisected, NothingFar}
use Rattle.edge_params.specs.Own.InRoom.{fitting, floored_in, refined_in, sample_params_in}
use Rattle.edge_params.proofs.Asks.{added_bisecting, within_asking, asking_clear, asking_answers, asking_refused, forming_clear, forming_kept, forming_refused, bisecting_asked}
use Rattle.edge_params.proofs.Lists.{steps_length}
use Rattle.edge_params.proofs.Written.{fitting_eight, fitting_then, fitting_got}
use Rattle.refusal.specs.Answer.{Answer, bind}
use Rattle.refusal.specs.declared.Refusal.TheVariants.{NoRoom, TooFar}
use Rattle.refusal.specs.declared.Refusal.{Refusal}

-- what follows an answer, told otherwise
then_as : {A B : Type 0} (x : Answer A) {f g : A → Answer B} → ((a : A) → f a ≡ g a) → bind x f ≡ bind x g
then_as (Err n) h = refl
then_as (Ok a) h = h a

-- what follows an answer, told otherwise where it answers
then_kept : {A B : Type 0} (x : Answer A) {f g : A → Answer B} (b : B) → ((a : A) → f a ≡ Ok b → g a ≡ Ok b) → bind x f ≡ Ok b → bind x g ≡ Ok b
then_kept (Err n) b h q = cc
then_kept (Ok a) b h q = h a q

-- ---- the end of sample_params, which has no room
module _ (s : Sampler) (range : Interval) where
  -- of a curve that has no closed form
  pub sample_params_open : s.closed ≡ None → sample_params s range ≡ refined s range
  unfolding sample_params
  sample_params_open e =
      ap (λ (c : Option ℕ). elim c [
        | None ↦ refined s range
        | Some n ↦ and_then (forms (evenly range n)) (λ l. elim (s.meets l) [ true ↦ done l | false ↦ refined s range ])
      ]) e

  -- an answer of bisection and the segment floor means that nothing was too far
  refined_kept : (l : List Float) → (refined s range).end ≡ Ok l → NothingFar s range
  unfolding refined
  refined_kept l q =
      let w = and_then (forming s.far 0 (bisecting s range)) (floored s range) in
      let b = asking_answers s.far s.break_asks w l q in
      (b, go (forming s.far 0 (bisecting s range)).end (forming_kept s.far 0 (bisecting s range)) (sym (ap (λ (w : Work (List Float)). w.end) (asking_clear s.far s.break_asks w b)) ∙ q))
    where
      go : (x : Answer (List Float)) → ((k : List Float) → x ≡ Ok k → some_far s.far (asked (bisecting s range)) ≡ false)
          → bind x (λ k. (floored s range k).end) ≡ Ok l → some_far s.far (asked (bisecting s range)) ≡ false
      go (Err n) on q = cc
      go (Ok k) on q = on k refl

  -- what has no answer is refused with 11
  module _ (n : Refusal) where
    -- a work that comes to no other refusal
    abbrev Eleven : Work (List Float) → Type 0
    Eleven w = w.end ≡ Err n → n ≡ TooFar

    list_eleven : (l : List Float) → ◌≡◌ {A = Answer (List Float)} (Ok l) (Err n) → n ≡ TooFar
    list_eleven l e = cc

    floored_eleven : (l : List Float) → Eleven (floored s range l)
    unfolding floored
    floored_eleven l = go (ltb (length l - 1) s.least)
      where
        go : (t : Bool) → Eleven (elim t [ true ↦ forms (evenly range s.least) | false ↦ done l ])
        go true = list_eleven (evenly range s.least)
        go false = list_eleven l

    refined_eleven : Eleven (refined s range)
    unfolding refined
    refined_eleven =
        asking_refused s.far s.break_asks (and_then (forming s.far 0 (bisecting s range)) (floored s range)) n
        (go (forming s.far 0 (bisecting s range)).end (forming_refused s.far 0 (bisecting s range) n))
      where
        go : (x : Answer (List Float)) → (x ≡ Err n → n ≡ TooFar) → bind x (λ k. (floored s range k).end) ≡ Err n → n ≡ TooFar
        go (Err i) on q = on q
        go (Ok k) on q = floored_eleven k q

    pub sample_params_refused : (sample_params s range).end ≡ Err n → n ≡ TooFar
    unfolding sample_params
    sample_params_refused = go s.closed
      where
        checked : (l : List Float) (t : Bool) → Eleven (elim t [ true ↦ done l | false ↦ refined s range ])
        checked l true = list_eleven l
        checked l false = refined_eleven

        go : (c : Option ℕ) → Eleven (elim c [
          | None ↦ refined s range
          | Some k ↦ and_then (forms (evenly range k)) (λ l. elim (s.meets l) [ true ↦ done l | false ↦ refined s range ])
        ])
        go None = refined_eleven
        go (Some k) = checked (evenly range k) (s.meets (evenly range k))

module _ (room : ℕ) where
  -- ---- the acts
  pub overflows_both : (a b : List Act) → overflows room (a ++ b) ≡ overflows room a || overflows room b
  unfolding overflows
  overflows_both [] b = refl
  overflows_both (x ∷ a) b = go (passes room x) (overflows_both a b)
    where
      go : (t : Bool) → overflows room (a ++ b) ≡ overflows room a || overflows room b
          → t || overflows room (a ++ b) ≡ (t || overflows room a) || overflows room b
      go true h = refl
      go false h = h

  -- of a list whose first k, which are not more than the room, have joined already
  joining_overflows : (k : ℕ) (l : List Float) → k ≤ room → overflows room (joining (suc k) l) ≡ ltb room (k + length l)
  unfolding overflows joining
  joining_overflows k [] h = sym (le-ltb room (k + 0) (omega arith))
  joining_overflows k (t ∷ l) h = go (joining_overflows (suc k) l) (ltb room (suc k)) refl
    where
      go : (suc k ≤ room → overflows room (joining (suc (suc k)) l) ≡ ltb room (suc k + length l))
          → (b : Bool) → ltb room (suc k) ≡ b → b || overflows room (joining (suc (suc k)) l) ≡ ltb room (k + suc (length l))
      go on true e = let m = ltb-true room (suc k) e in sym (lt-ltb room (k + suc (length l)) (omega arith))
      go on false e =
          let m = ltb-false room (suc k) e in
          let s : suc k + length l ≡ k + suc (length l) = omega arith in
          on (omega arith) ∙ ap (ltb room) s

  -- a list overflows the room exactly where it is longer
  pub forms_overflows : (l : List Float) → overflows room (forms l).acts ≡ ltb room (length l)
  forms_overflows l = let z : 0 + length l ≡ length l = omega arith in joining_overflows 0 l (omega arith) ∙ ap (ltb room) z

  -- ---- what is answered
  module _ {A : Type 0} where
    pub within_ends : (x : Answer A) → within room (ends x) ≡ x
    unfolding overflows
    within_ends x = refl

    pub within_then : {B : Type 0} (w : Work A) (g : A → Work B)
        → within room (and_then w g) ≡ bind (within room w) (λ a. within room (g a))
    unfolding overflows
    within_then {B} w g =
        ap (λ (b : Bool). cond b (Err NoRoom) (bind w.end (λ a. (g a).end))) (overflows_both w.acts (acts_after w.end g))
        ∙ go (overflows room w.acts) w.end
      where
        go : (t : Bool) (z : Answer A)
            → cond (t || overflows room (acts_after z g)) (Err NoRoom) (bind z (λ a. (g a).end)) ≡ bind (cond t (Err NoRoom) z) (λ a. within room (g a))
        go true z = refl
        go false (Err n) = refl
        go false (Ok a) = refl

    -- an answer is the reference's own, and nothing overflows
    pub within_got : (w : Work A) (a : A) → within room w ≡ Ok a → (overflows room w.acts ≡ false) × (w.end ≡ Ok a)
    within_got w a = go (overflows room w.acts)
      where
        go : (t : Bool) → cond t (Err NoRoom) w.end ≡ Ok a → (t ≡ false) × (w.end ≡ Ok a)
        go true q = cc
        go false q = (refl, q)

    -- a refusal is 8 where a list overflows, and else the reference's own
    pub within_refused : (w : Work A) (n : Refusal) → within room w ≡ Err n → ((n ≡ NoRoom) × (overflows room w.acts ≡ true)) ⊎ (w.end ≡ Err n)
    within_refused w n = go (overflows room w.acts)
      where
        go : (t : Bool) → cond t (Err NoRoom) w.end ≡ Err n → ((n ≡ NoRoom) × (t ≡ true)) ⊎ (w.end ≡ Err n)
        go true q = inl (cc, refl)
        go false q = inr q

  pub within_forms : (l : List Float) → within room (forms l) ≡ fitting room l
  unfolding fitting
  within_forms l = ap (λ (b : Bool). cond b (Err NoRoom) (Ok l)) (forms_overflows l) ∙ go (leb (length l) room) refl
    where
      go : (b : Bool) → leb (length l) room ≡ b → cond (ltb room (length l)) (Err NoRoom) (Ok l) ≡ elim b [ true ↦ Ok l | false ↦ Err NoRoom ]
      go true q = rw (le-ltb room (length l) (leb-true (length l) room q))
      go false q = rw (lt-ltb room (length l) (leb-false (length l) room q))

  -- ---- sample_params
  module _ (s : Sampler) (range : Interval) where
    floored_in_lem : (l : List Float) → within room (floored s range l) ≡ floored_in room s range l
    unfolding floored floored_in
    floored_in_lem l = go (ltb (length l - 1) s.least)
      where
        go : (b : Bool) → within {A = List Float} room (elim b [ true ↦ forms (evenly range s.least) | false ↦ done l ]) ≡ elim b [ true ↦ fitting room (evenly range s.least) | false ↦ Ok l ]
        go true = within_forms (evenly range s.least)
        go false = within_ends (Ok l)

    -- a list and what follows it
    list_in : (l : List Float) (g : List Float → Work (List Float)) {f : List Float → Answer (List Float)} → ((k : List Float) → within room (g k) ≡ f k)
        → within room (and_then (forms l) g) ≡ bind (fitting room l) f
    list_in l g h = within_then (forms l) g ∙ ap (λ (x : Answer (List Float)). bind x (λ k. within room (g k))) (within_forms l) ∙ then_as (fitting room l) h

    -- bisection and the segment floor
    pub refined_within : within room (refined s range)
        ≡ elim (some_far s.far s.break_asks) [ true ↦ Err TooFar | false ↦ bind (within room (forming s.far 0 (bisecting s range))) (floored_in room s range) ]
    unfolding refined
    refined_within =
        within_asking s.far s.break_asks (and_then w (floored s range)) room
        ∙ ap (λ (x : Answer (List Float)). elim (some_far s.far s.break_asks) [ true ↦ Err TooFar | false ↦ x ]) (within_then w (floored s range) ∙ then_as (within room w) floored_in_lem)
      where
        w : Work (List Float)
        w = forming s.far 0 (bisecting s range)

    -- where nothing is too far
    refined_in_lem : NothingFar s range → within room (refined s range) ≡ refined_in room s range
    unfolding refined_in
    refined_in_lem c =
        refined_within ∙ ap (λ (b : Bool). elim b [ true ↦ Err TooFar | false ↦ bind (within room (forming s.far 0 (bisecting s range))) (floored_in room s range) ]) c.0
        ∙ ap (λ (w : Work (List Float)). bind (within room w) (floored_in room s range)) (forming_clear s.far 0 (bisecting s range) c.1 ∙ ap forms (added_bisecting s range))
        ∙ ap (λ (x : Answer (List Float)). bind x (floored_in room s range)) (within_forms (bisected s range))

    pub sample_params_in_lem : NothingFar s range → within room (sample_params s range) ≡ sample_params_in room s range
    unfolding sample_params sample_params_in
    sample_params_in_lem clear = go s.closed
      where
        meets : (l : List Float) (b : Bool) → within {A = List Float} room (elim b [ true ↦ done l | false ↦ refined s range ]) ≡ elim b [ true ↦ Ok l | false ↦ refined_in room s range ]
        meets l true = within_ends (Ok l)
        meets l false = refined_in_lem clear

        go : (c : Option ℕ) → within {A = List Float} room (elim c [
          | None ↦ refined s range
          | Some n ↦ and_then (forms (evenly range n)) (λ l. elim (s.meets l) [ true ↦ done l | false ↦ refined s range ])
        ]) ≡ elim c [
          | None ↦ refined_in room s range
          | Some n ↦ bind (fitting room (evenly range n)) (λ l. elim (s.meets l) [ true ↦ Ok l | false ↦ refined_in room s range ])
        ]
        go None = refined_in_lem clear
        go (Some n) = list_in (evenly range n) (λ l. elim (s.meets l) [ true ↦ done l | false ↦ refined s range ]) (λ l. meets l (s.meets l))

    -- 11 only refuses: parameters that are answered are those of before
    pub sample_params_kept : (l : List Float) → within room (sample_params s range) ≡ Ok l → sample_params_in room s range ≡ Ok l
    unfolding sample_params sample_params_in
    sample_params_kept l = go s.closed
      where
        finer : within room (refined s range) ≡ Ok l → refined_in room s range ≡ Ok l
        finer q = sym (refined_in_lem (refined_kept s range l (within_got (refined s range) l q).1)) ∙ q

        meets : (k : List Float) (b : Bool) → within {A = List Float} room (elim b [ true ↦ done k | false ↦ refined s range ]) ≡ Ok l
            → ◌≡◌ {A = Answer (List Float)} (elim b [ true ↦ Ok k | false ↦ refined_in room s range ]) (Ok l)
        meets k true q = sym (within_ends (Ok k)) ∙ q
        meets k false q = finer q

        go : (c : Option ℕ) → within {A = List Float} room (elim c [
          | None ↦ refined s range
          | Some n ↦ and_then (forms (evenly range n)) (λ k. elim (s.meets k) [ true ↦ done k | false ↦ refined s range ])
        ]) ≡ Ok l → ◌≡◌ {A = Answer (List Float)} (elim c [
          | None ↦ refined_in room s range
          | Some n ↦ bind (fitting room (evenly range n)) (λ k. elim (s.meets k) [ true ↦ Ok k | false ↦ refined_in room s range ])
        ]) (Ok l)
        go None q = finer q
        go (Some n) q =
            then_kept (fitting room (evenly range n)) l (λ k. meets k (s.meets k))
            (sym (list_in (evenly range n) (λ k. elim (s.meets k) [ true ↦ done k | false ↦ refined s range ]) (λ k. refl)) ∙ q)

    -- in a room alone a refusal is 8
    pub sample_params_eight : (n : Refusal) → sample_params_in room s range ≡ Err n → n ≡ NoRoom
    unfolding sample_params_in refined_in floored_in
    sample_params_eight n = go s.closed
      where
        floor : (l : List Float) (b : Bool) → ◌≡◌ {A = Answer (List Float)} (elim b [ true ↦ fitting room (evenly range s.least) | false ↦ Ok l ]) (Err n) → n ≡ NoRoom
        floor l true q = fitting_eight room (evenly range s.least) n q
        floor l false q = cc

        finer : refined_in room s range ≡ Err n → n ≡ NoRoom
        finer = fitting_then room (bisected s range) (floored_in room s range) n (λ l. floor l (ltb (length l - 1) s.least))

        meets : (l : List Float) (b : Bool) → ◌≡◌ {A = Answer (List Float)} (elim b [ true ↦ Ok l | false ↦ refined_in room s range ]) (Err n) → n ≡ NoRoom
        meets l true q = cc
        meets l false q = finer q

        go : (c : Option ℕ) → ◌≡◌ {A = Answer (List Float)} (elim c [
          | None ↦ refined_in room s range
          | Some k ↦ bind (fitting room (evenly range k)) (λ l. elim (s.meets l) [ true ↦ Ok l | false ↦ refined_in room s range ])
        ]) (Err n) → n ≡ NoRoom
        go None q = finer q
        go (Some k) q = fitting_then room (evenly range k) (λ l. elim (s.meets l) [ true ↦ Ok l | false ↦ refined_in room s range ]) n (λ l. meets l (s.meets l)) q

    -- and with what is asked for it is 8 or 11
    pub sample_params_late : (n : Refusal) → within room (sample_params s range) ≡ Err n → (n ≡ NoRoom) ⊎ (n ≡ TooFar)
    sample_params_late n q = go (within_refused (sample_params s range) n q)
      where
        go : ((n ≡ NoRoom) × (overflows room (sample_params s range).acts ≡ true)) ⊎ ((sample_params s range).end ≡ Err n) → (n ≡ NoRoom) ⊎ (n ≡ TooFar)
        go (inl z) = inl z.0
        go (inr e) = inr (sample_params_refused s range n e)

    -- of a curve that has no closed form, with a depth above 0, where nothing that is asked for is too far: bisection asks for whatever it
    -- adds, so that nothing in an answer is too far but in the segment floor's steps, where they are the answer
    module _ (clear : NothingFar s range) (formless : s.closed ≡ None) (deep : 0 < s.depth)
        (floor : length (bisected s range) - 1 < s.least → suc s.least ≤ room → some_far s.far (evenly range s.least) ≡ false) where
      floored_near : (l : List Float) → floored_in room s range (bisected s range) ≡ Ok l → some_far s.far l ≡ false
      unfolding floored_in
      floored_near l = go (ltb (length (bisected s range) - 1) s.least) refl
        where
          near : (k : List Float) → k ≡ l → some_far s.far k ≡ false → some_far s.far l ≡ false
          near k e h = ap (some_far s.far) (sym e) ∙ h

          go : (b : Bool) → ltb (length (bisected s range) - 1) s.least ≡ b
              → ◌≡◌ {A = Answer (List Float)} (elim b [ true ↦ fitting room (evenly range s.least) | false ↦ Ok (bisected s range) ]) (Ok l) → some_far s.far l ≡ false
          go true p q =
              let f = fitting_got room (evenly range s.least) l q in
              near (evenly range s.least) f.0
              (floor (ltb-true (length (bisected s range) - 1) s.least p) (omega (arith, f.1, steps_length range s.least (suc s.least))))
          go false p q = near (bisected s range) (cc) (bisecting_asked s range deep clear.1)

      pub open_near : (l : List Float) → sample_params_in room s range ≡ Ok l → some_far s.far l ≡ false
      unfolding sample_params_in refined_in
      open_near l q = go (fitting room (bisected s range)) refl (sym formed ∙ q)
        where
          formed : sample_params_in room s range ≡ refined_in room s range
          formed = ap (λ (c : Option ℕ). elim c [
            | None ↦ refined_in room s range
            | Some n ↦ bind (fitting room (evenly range n)) (λ l. elim (s.meets l) [ true ↦ Ok l | false ↦ refined_in room s range ])
          ]) formless

          go : (x : Answer (List Float)) → fitting room (bisected s range) ≡ x → bind x (floored_in room s range) ≡ Ok l → some_far s.far l ≡ false
          go (Err n) e q = cc
          go (Ok k) e q = floored_near l (ap (floored_in room s range) (fitting_got room (bisected s range) k e).0 ∙ q)

-- ---- a larger room
module _ (room room' : ℕ) (more : room ≤ room') where
  overflows_less : (a : List Act) → overflows room a ≡ false → overflows room' a ≡ false
  unfolding overflows
  overflows_less [] e = refl
  overflows_less (joins k t ∷ a) e = go (overflows_less a) (ltb room k) refl e
    where
      go : (overflows room a ≡ false → overflows room' a ≡ false)
          → (b : Bool) → ltb room k ≡ b → b || overflows room a ≡ false → ltb room' k || overflows room' a ≡ false
      go on true q e = cc
      go on false q e = let h = ltb-false room k q in rw (le-ltb room' k (omega arith)) (on e)

  -- the room only refuses: an answer is the same in a larger one
  pub within_roomier : {A : Type 0} (w : Work A) (a : A) → within room w ≡ Ok a → within room' w ≡ Ok a
  within_roomier w a q =
      let g = within_got room w a q in
      ap (λ (b : Bool). cond b (Err NoRoom) w.end) (overflows_less w.acts g.0) ∙ g.1
