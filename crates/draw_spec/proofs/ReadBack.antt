-- The chain as the buffers hold it, and the five clauses of that: what a proof of `draw` cites. Assumes nothing but what its statements say.
use Rattle.std.specs.Prelude.{Err, Ok}
use mathlib.Core.Path.{◌≡◌, refl, sym, ap, ◌∙◌}
use mathlib.Core.Bool.{Bool, true, false, cond}
use mathlib.Core.List.{List, []}
use Prim.Native.Nat.{ℕ, ◌*◌, ◌-◌, ◌≤◌}
use native.Mathlib.Omega.{arith}
use lib.ListN.{length, replicate}
use lib.Ieee.{Float, binary64, of_bits}
use Rattle.base_lists.specs.Room.{filled}
use Rattle.brep.specs.declared.Edge.{Edge}
use Rattle.brep.specs.Rows.{Tables}
use Rattle.options.specs.declared.Mode.{Mode}
use Rattle.options.specs.declared.Options.{Options}
use Rattle.edge_record.specs.Chain.{width, flat, samples}
use Rattle.edge_record.proofs.Laws.{reads}
use Rattle.edge_merge.specs.Merge.{merge_floor}
use Rattle.draw_spec.specs.Repair.{Got}
use Rattle.draw_spec.specs.Draw.{local_options, room_of, drawn, answer_of, in_first, first_after, second_after, chain_in, Sound, Applies, Outcome, drawn_as}
use Rattle.draw_spec.proofs.Sound.{Binary, drawn_sound, drawn_fits}
use Rattle.draw_spec.proofs.Table.{lowest, none_applies}
use Rattle.draw_spec.specs.declared.Drawn.{Drawn}
use Rattle.refusal.specs.Answer.{Answer}
use Rattle.refusal.specs.declared.Refusal.{Refusal}

-- ---- the chain of the answer is read back from the buffer that holds it
pub read_back : (first second : List Float) (g : Got) → chain_in (first_after first (Ok g)) (second_after second (Ok g)) (answer_of (Ok g)) ≡ g.chain
unfolding chain_in first_after second_after answer_of
read_back first second g = go (in_first g.way)
  where
    read : (n : ℕ) → samples (length g.chain) (filled n (flat g.chain)) ≡ g.chain
    read n = reads g.chain (replicate (n - length (flat g.chain)) (of_bits binary64 0))

    go : (b : Bool)
        → samples (length g.chain) (cond b (filled (length first) (cond b (flat g.chain) [])) (filled (length second) (cond b [] (flat g.chain)))) ≡ g.chain
    go true = read (length first)
    go false = read (length second)

-- ---- the chain fits either buffer, so both are as long afterwards as before
module _ (mode : Mode) (t : Tables) (e : Edge) (o : Options) (first second : List Float) where
  module _ (g : Got) (q : drawn mode t e o (length first) (length second) ≡ Ok g) where
    pub fits_first : width * length g.chain ≤ length first
    unfolding room_of
    fits_first = omega (arith, drawn_fits mode t e o (length first) (length second) g q)

    pub fits_second : width * length g.chain ≤ length second
    unfolding room_of
    fits_second = omega (arith, drawn_fits mode t e o (length first) (length second) g q)

  -- ---- the five clauses, of what the buffers hold
  module _ (answer : Answer Drawn) (first' second' : List Float)
      (answered : answer ≡ answer_of (drawn mode t e o (length first) (length second)))
      (first_holds : first' ≡ first_after first (drawn mode t e o (length first) (length second)))
      (second_holds : second' ≡ second_after second (drawn mode t e o (length first) (length second))) where
    read_sound : Binary t e → (chain : Drawn) → answer ≡ Ok chain → Sound t e (merge_floor e.tolerance (local_options t e o).sag) (chain_in first' second' answer)
    unfolding answer_of
    read_sound b chain is = go (drawn mode t e o (length first) (length second)) refl (sym answered ∙ is)
      where
        go : (r : Answer Got) → drawn mode t e o (length first) (length second) ≡ r → answer_of (drawn mode t e o (length first) (length second)) ≡ Ok chain
            → Sound t e (merge_floor e.tolerance (local_options t e o).sag) (chain_in first' second' answer)
        go (Err k) q z = let w : ◌≡◌ {A = Answer Drawn} (Err k) (Ok chain) = sym (ap answer_of q) ∙ z in cc
        go (Ok g) q z =
            rw (answered, first_holds, second_holds, q, read_back first second g) (drawn_sound mode t e o (length first) (length second) g b q)

    -- the answer's own result
    drawn_refused : (n : Refusal) → answer ≡ Err n → drawn mode t e o (length first) (length second) ≡ Err n
    unfolding answer_of
    drawn_refused n is = go (drawn mode t e o (length first) (length second)) refl
      where
        go : (r : Answer Got) → drawn mode t e o (length first) (length second) ≡ r → drawn mode t e o (length first) (length second) ≡ Err n
        go (Err k) q = let w : ◌≡◌ {A = Answer Drawn} (Err k) (Err n) = sym (ap answer_of q) ∙ sym answered ∙ is in let z : k ≡ n = cc in q ∙ ap Err z
        go (Ok g) q = let w : ◌≡◌ {A = Answer Drawn} (drawn_as g.way (length g.chain)) (Err n) = sym (ap answer_of q) ∙ sym answered ∙ is in cc

    drawn_got : (chain : Drawn) → answer ≡ Ok chain → (m : ℕ) → Applies mode t e o (length first) (length second) m → ⊥
    unfolding answer_of
    drawn_got chain is = go (drawn mode t e o (length first) (length second)) refl
      where
        go : (r : Answer Got) → drawn mode t e o (length first) (length second) ≡ r → (m : ℕ) → Applies mode t e o (length first) (length second) m → ⊥
        go (Err k) q = let w : ◌≡◌ {A = Answer Drawn} (Err k) (Ok chain) = sym (ap answer_of q) ∙ sym answered ∙ is in cc
        go (Ok g) q = none_applies mode t e o (length first) (length second) g q

    -- the outcome whole
    pub outcome : Binary t e → Outcome mode t e o first second answer first' second'
    outcome b = record {
      answered = answered;
      first_holds = first_holds;
      second_holds = second_holds;
      refuses = λ n is. lowest mode t e o (length first) (length second) n (drawn_refused n is);
      accepts = drawn_got;
      sound = read_sound b;
    }
