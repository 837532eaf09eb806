-- What the buffers hold of a repair, from what they hold of its parts. Assumes nothing.
use Rattle.std.specs.Prelude.{Ok, Err}
use mathlib.Core.Path.{◌≡◌, refl, sym, ap, ◌∙◌}
use mathlib.Core.Bool.{Bool, true, false}
use mathlib.Core.List.{List, []}
use Prim.Native.Nat.{ℕ, ◌-◌, ◌*◌, ◌≤◌, ◌<◌}
use native.Mathlib.Omega.{arith}
use lib.ListN.{length, replicate}
use lib.Dec.{leb}
use lib.Ieee.{Float, binary64, of_bits}
use borrow.Author.Tests.{leb-true}
use Rattle.base_lists.specs.Own.ListOf.{list_of}
use Rattle.base_lists.specs.Room.{filled}
use Rattle.base_lists.proofs.Filled.{filled_most}
use Rattle.math.specs.declared.Aabb.{Aabb}
use Rattle.brep.specs.declared.Edge.{Edge}
use Rattle.brep.specs.Rows.{Tables}
use Rattle.options.specs.declared.Mode.{Mode}
use Rattle.options.specs.declared.Resolved.{Resolved}
use Rattle.edge_params.specs.Work.{Work, within}
use Rattle.edge_record.specs.declared.Sample.{Sample}
use Rattle.edge_record.specs.Chain.{width, shortest, flat, samples}
use Rattle.edge_record.specs.Own.Stored.{counted_of as counted}
use Rattle.edge_record.proofs.Laws.{length_flat, reads, samples_from-length}
use Rattle.draw_spec.specs.declared.Way.{Way}
use Rattle.draw_spec.specs.declared.Way.TheVariants.{Runaway}
use Rattle.draw_spec.specs.Edge.{chord_of, discretised}
use Rattle.draw_spec.specs.Repair.{Got, by, escapes, runaway}
use Rattle.draw_spec.specs.Draw.{room_of, answer_of, in_first, first_after, second_after, drawn_as}
use Rattle.draw_spec.proofs.Answers.{late_above, answers_refused}
use Rattle.draw_spec.proofs.Discretised.{Room, discretised_answers}
use Rattle.edge_discretise.specs.Own.Discretised.{DiscretisedInto}
use Rattle.edge_repair.specs.declared.buffers.Buffers.{Buffers}
use Rattle.edge_repair.specs.Own.Buffers.{room_in, SameBuffers}
use Rattle.edge_repair.specs.Own.Redrawn.{RedrawnChain, RedrawnInto, DrawnInto, DrawnIn, InSecond}
use Rattle.draw_spec.specs.declared.Drawn.{Drawn}
use Rattle.refusal.specs.Answer.{Answer, bind}
use Rattle.refusal.specs.declared.Refusal.{Refusal}
use Rattle.refusal.specs.Refusal.{number_of}

-- ---- the same two buffers
pub then : {a b c : Buffers} → SameBuffers a b → SameBuffers b c → SameBuffers a c
then s t = record {
  first = t.first ∙ s.first;
  second = t.second ∙ s.second;
  first_room = t.first_room ∙ s.first_room;
  second_room = t.second_room ∙ s.second_room;
}

-- ---- `discretise` into the second buffer
room_swap : (a b : ℕ) → room_of a b ≡ room_of b a
unfolding room_of
room_swap a b = omega arith

enough : (a b : ℕ) → shortest ≤ a → shortest ≤ b → Room (room_of a b)
unfolding room_of
enough a b h k = record { least = omega arith; most = omega arith }

discretised_late : (mode : Mode) (T : Tables) (e : Edge) (r : Resolved) (a b : ℕ) (n : Refusal) → shortest ≤ a → shortest ≤ b → within (room_of a b) (discretised mode T e r) ≡ Err n → 7 < number_of n
discretised_late mode T e r a b n h k q =
    late_above (answers_refused n (discretised_answers ⊥ mode T e (λ x. absurd x) (λ x. absurd x) (room_of a b) (enough a b h k) r) q)

pub redrawn_chain : (mode other : Mode) (T U : Tables) (e d : Edge) (r : Resolved) (old : Buffers) {w : Answer ℕ} (new : Buffers) → SameBuffers old new → other ≡ mode → U ≡ T → e ≡ d
    → DiscretisedInto (discretised other U e r) old.second.now old.first.now w new.second.now new.first.now
    → RedrawnChain (within (room_in old) (discretised mode T d r)) old w new
redrawn_chain mode other T U e d r old new same m t s p =
    let first = old.first.now in
    let second = old.second.now in
    let q : within (room_of (length second) (length first)) (discretised other U e r) ≡ within (room_of (length first) (length second)) (discretised mode T d r) =
    rw (m, t, s, room_swap (length second) (length first)) in
    let a = p.drawn.answered ∙ ap counted q in
    record {
      same = same;
      answered = a;
      first_holds = p.cleared;
      second_holds = p.drawn.holds ∙ ap (λ (X : Answer (List Sample)). filled (length second) (flat (list_of X))) q;
      late = λ n t. go n (within (room_of (length first) (length second)) (discretised mode T d r)) (discretised_late mode T d r (length first) (length second) n old.first_long old.second_long) (sym t ∙ a);
    }
  where
    go : (n : Refusal) (X : Answer (List Sample)) → (X ≡ Err n → 7 < number_of n) → Err n ≡ counted X → 7 < number_of n
    go n (Err m) f e = f (cc)
    go n (Ok l) f e = absurd (let z : ◌≡◌ {A = ℕ} 0 1 = cc in omega arith)

-- ---- no refusal leaves a buffer as before
above : (n : ℕ) → 7 < n → leb n 7 ≡ false
above n h = go (leb n 7) refl
  where
    go : (b : Bool) → leb n 7 ≡ b → leb n 7 ≡ false
    go true q = absurd (omega (arith, leb-true n 7 q))
    go false q = q

-- ---- a chain that was drawn
pub record DrawnChain (X : Answer (List Sample)) (n : ℕ) (c : List Float) : Type 0 where
  pub chain : List Sample
  pub is : X ≡ Ok chain
  pub size : n ≡ length chain
  pub floats : c ≡ filled (length c) (flat chain)

module _ {X : Answer (List Sample)} {old : Buffers} {w : Answer ℕ} {new : Buffers} (d : RedrawnChain X old w new) where
  pub drawn_chain : (n : ℕ) → w ≡ Ok n → DrawnChain X n new.second.now
  drawn_chain n t = go X (sym t ∙ d.answered) d.second_holds
    where
      go : (Y : Answer (List Sample)) → Ok n ≡ counted Y → new.second.now ≡ filled (length old.second.now) (flat (list_of Y)) → DrawnChain Y n new.second.now
      go (Err m) a b = absurd (let z : ◌≡◌ {A = ℕ} 0 1 = cc in omega arith)
      go (Ok l) a b = record { chain = l; is = refl; size = cc; floats = b ∙ ap (λ (k : ℕ). filled k (flat l)) (sym d.same.second_room) }

  -- a refusal is carried on
  pub redrawn_refused : (D : Work Got) (f : List Sample → Answer Got) (n : Refusal) → w ≡ Err n
      → within (room_in old) D ≡ bind X f → RedrawnInto D old (Err n) new
  unfolding answer_of first_after second_after flat
  redrawn_refused D f n t q = go X (sym t ∙ d.answered) d.second_holds q
    where
      go : (Y : Answer (List Sample)) → Err n ≡ counted Y → new.second.now ≡ filled (length old.second.now) (flat (list_of Y)) → within (room_in old) D ≡ bind Y f → RedrawnInto D old (Err n) new
      go (Err m) a b q =
          let z : n ≡ m = cc in
          let l = above (number_of m) (rw z at (d.late n t)) in
          record { same = d.same; drawn = rw q (record { answered = ap (λ (x : Refusal). Err x) z; first_holds = rw l d.first_holds; second_holds = rw l b }); late = λ k u. let v : n ≡ k = cc in rw v at (d.late n t) }
      go (Ok l) a b q = absurd (let z : ◌≡◌ {A = ℕ} 0 1 = cc in omega arith)

module _ {X : Answer (List Sample)} {n : ℕ} {c : List Float} (d : DrawnChain X n c) where
  pub chain_room : width * n ≤ length c
  chain_room = omega (arith, d.size, length_flat d.chain, filled_most (length c) (flat d.chain) (sym (ap length d.floats)))

  pub chain_reads : samples n c ≡ d.chain
  chain_reads = ap (λ (k : ℕ). samples k c) d.size ∙ ap (samples (length d.chain)) d.floats ∙ reads d.chain (replicate (length c - length (flat d.chain)) (of_bits binary64 0))

  pub chain_floats_lem : c ≡ filled (length c) (flat (samples n c))
  chain_floats_lem = d.floats ∙ ap (λ (l : List Sample). filled (length c) (flat l)) (sym chain_reads)

  -- a test of the records is one of the chain
  pub chain_escapes : (r : Resolved) (box b : Aabb) (t v : Bool) → b ≡ box → t ≡ escapes b r (samples n c) → t ≡ v → escapes box r d.chain ≡ v
  chain_escapes r box b t v p q h = ap (escapes box r) (sym chain_reads) ∙ ap (λ (x : Aabb). escapes x r (samples n c)) (sym p) ∙ sym q ∙ h

-- ---- a chain that is in the second buffer
pub kept_second : (way : Way) (n : ℕ) (second : List Float) → in_first way ≡ false → second ≡ filled (length second) (flat (samples n second))
    → InSecond (by way (samples n second)) (length second) (drawn_as way n) second
unfolding answer_of
kept_second way n second w q = record { answered = ap (drawn_as way) (sym (samples_from-length second 0 n)); holds = q; there = w }

pub chord_second : (T : Tables) (e : Edge) (n : ℕ) (second : List Float) → second ≡ filled n (flat (chord_of T e e.range.lo e.range.lo))
    → InSecond (runaway T e) n (drawn_as Runaway 2) second
unfolding answer_of
chord_second T e n second q = record { answered = refl; holds = q; there = refl }

module _ {g : Got} {n : ℕ} {w : Answer Drawn} {second' : List Float} (i : InSecond g n w second') where
  -- another name for it
  pub second_is : (h : Got) → g ≡ h → InSecond h n w second'
  second_is h q = record {
    answered = i.answered ∙ ap (λ (x : Got). answer_of (Ok x)) q;
    holds = i.holds ∙ ap (λ (x : Got). filled n (flat x.chain)) q;
    there = ap (λ (x : Got). in_first x.way) (sym q) ∙ i.there;
  }

  -- with the first buffer cleared it is a repair's answer
  pub redrawn_second : (D : Work Got) (old new : Buffers) → SameBuffers old new → second' ≡ new.second.now → n ≡ length old.second.now
      → new.first.now ≡ filled (length old.first.now) [] → Ok g ≡ within (room_in old) D → RedrawnInto D old w new
  unfolding answer_of first_after second_after
  redrawn_second D old new same s m p q = record {
    same = same;
    drawn = rw (← q) (record { answered = i.answered; first_holds = rw i.there p; second_holds = rw i.there (sym s ∙ i.holds ∙ ap (λ (k : ℕ). filled k (flat g.chain)) m) });
    late = λ k t. absurd (let a = i.answered in let z : ◌≡◌ {A = ℕ} 0 1 = cc in omega arith);
  }

-- ---- a refusal that is answered at once, with both buffers cleared
pub redrawn_cleared : (D : Work Got) (old new : Buffers) → SameBuffers old new → (n : Refusal) → 7 < number_of n → new.first.now ≡ filled (length old.first.now) []
    → new.second.now ≡ filled (length old.second.now) [] → Err n ≡ within (room_in old) D → RedrawnInto D old (Err n) new
unfolding answer_of first_after second_after
redrawn_cleared D old new same n h p s q =
    let l = above (number_of n) h in
    record { same = same; drawn = rw (← q) (record { answered = refl; first_holds = rw l p; second_holds = rw l s }); late = λ k u. let v : n ≡ k = cc in rw v at h }

-- ---- another name for the answer, and buffers that were as long
module _ {D : Work Got} {old : Buffers} {w : Answer Drawn} {new : Buffers} (d : RedrawnInto D old w new) where
  pub redrawn_is : (E : Work Got) → within (room_in old) D ≡ within (room_in old) E → RedrawnInto E old w new
  redrawn_is E q = record { same = d.same; drawn = rw (← q) d.drawn; late = d.late }

  pub redrawn_as : (E : Answer Got) → within (room_in old) D ≡ E → DrawnIn E old w new
  redrawn_as E q = record { same = d.same; drawn = rw (← q) d.drawn }

  pub redrawn_from : (before : Buffers) → SameBuffers before old → RedrawnInto D before w new
  unfolding answer_of first_after second_after
  redrawn_from before s =
      let e = s.first_room in
      let f = s.second_room in
      let q : room_in old ≡ room_in before = rw (e, f) in
      record { same = then s d.same; drawn = rw (← q) (go (within (room_in old) D) d.drawn); late = d.late }
    where
      go : (X : Answer Got) → DrawnInto X old.first.now old.second.now w new.first.now new.second.now → DrawnInto X before.first.now before.second.now w new.first.now new.second.now
      go (Err n) x =
          let l = above (number_of n) (d.late n x.answered) in
          record { answered = x.answered; first_holds = rw (l, ← s.first_room) (rw l at x.first_holds); second_holds = rw (l, ← s.second_room) (rw l at x.second_holds) }
      go (Ok g) x = record { answered = x.answered; first_holds = rw (← s.first_room) x.first_holds; second_holds = rw (← s.second_room) x.second_holds }

-- ---- a chain that stays in the first
pub kept_first : (D : Answer Got) (way : Way) (n : ℕ) (b : Buffers) → D ≡ Ok (by way (samples n b.first.now)) → in_first way ≡ true
    → b.first.now ≡ filled (length b.first.now) (flat (samples n b.first.now)) → b.second.now ≡ filled (length b.second.now) []
    → DrawnIn D b (drawn_as way n) b
unfolding answer_of first_after second_after
kept_first D way n b q w p s = record {
  same = record { first = refl; second = refl; first_room = refl; second_room = refl };
  drawn = rw q (record { answered = ap (drawn_as way) (sym (samples_from-length b.first.now 0 n)); first_holds = rw w p; second_holds = rw w s });
}
