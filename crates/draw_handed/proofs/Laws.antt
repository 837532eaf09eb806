-- The part of a buffer that holds a chain, and what is handed back with it. Assumes nothing.
use Rattle.std.specs.Prelude.{Err, Ok}
use mathlib.Core.Path.{◌≡◌, refl, sym, ap, ◌∙◌}
use mathlib.Core.Bool.{Bool, true, false, cond}
use mathlib.Core.List.{List, []}
use Prim.Native.Nat.{ℕ, ◌*◌}
use lib.ListN.{length, take}
use lib.Ieee.{Float}
use denote.Ref.{Bor, MutBor}
use Rattle.base_lists.specs.Room.{filled}
use Rattle.base_lists.proofs.Filled.{filled_front}
use Rattle.brep.specs.declared.Edge.{Edge}
use Rattle.brep.specs.Rows.{Tables}
use Rattle.options.specs.declared.Mode.{Mode}
use Rattle.options.specs.declared.Options.{Options}
use Rattle.edge_record.specs.declared.Sample.{Sample}
use Rattle.edge_record.specs.Chain.{width, flat}
use Rattle.edge_record.proofs.Laws.{length_flat}
use Rattle.draw_spec.specs.declared.Way.{Way}
use Rattle.draw_spec.specs.Repair.{Got}
use Rattle.draw_spec.specs.Draw.{drawn, answer_of, in_first, lies_in_first, chain_floats, first_after, second_after, Outcome, drawn_as}
use Rattle.draw_handed.specs.Handed.{chain_of, Handed}
use Rattle.draw_spec.specs.declared.Drawn.{Drawn}
use Rattle.refusal.specs.Answer.{Answer}

-- ---- chain_of: the part of the buffer that holds the chain
module _ {A : Type 0} (d : Answer Drawn) (way : Way) (n : ℕ) (is : d ≡ drawn_as way n) (b : Bool) (lies : b ≡ in_first way) where
  pub in_the_first : b ≡ true → (x y : A) → x ≡ cond (lies_in_first d) x y
  in_the_first e x y = ap (λ (t : Bool). cond t x y) (sym e ∙ lies ∙ sym (ap lies_in_first is))

  pub in_the_second : b ≡ false → (x y : A) → y ≡ cond (lies_in_first d) x y
  in_the_second e x y = ap (λ (t : Bool). cond t x y) (sym e ∙ lies ∙ sym (ap lies_in_first is))

pub so_many : (d : Answer Drawn) (way : Way) (n : ℕ) → d ≡ drawn_as way n → (l : List Float) → take (width * n) l ≡ take (chain_floats d) l
so_many d way n is l = ap (λ (m : ℕ). take m l) (sym (ap chain_floats is))

-- ---- of the buffers as drawing leaves them it is the chain
part_of : (D : Answer Got) (first second : List Float) → take (chain_floats (answer_of D)) (cond (lies_in_first (answer_of D)) (first_after first D) (second_after second D)) ≡ chain_of D
unfolding answer_of first_after second_after chain_of
part_of (Err n) first second = refl
part_of (Ok g) first second = at (in_first g.way)
  where
    lead : (n : ℕ) (l : List Sample) → take (width * length l) (filled n (flat l)) ≡ flat l
    lead n l = ap (λ (m : ℕ). take m (filled n (flat l))) (sym (length_flat l)) ∙ filled_front n (flat l)

    at : (b : Bool) → take (width * length g.chain) (cond b (filled (length first) (cond b (flat g.chain) [])) (filled (length second) (cond b [] (flat g.chain)))) ≡ flat g.chain
    at true = lead (length first) g.chain
    at false = lead (length second) g.chain

module _ (mode : Mode) (t : Tables) (e : Edge) (o : Options) (first second : List Float) (answer : Answer Drawn) (f s : List Float) (h : Outcome mode t e o first second answer f s) where
  abbrev D : Answer Got
  D = drawn mode t e o (length first) (length second)

  -- the part that chain_of returns of draw's own answer holds the chain's records
  pub part_is_chain : take (chain_floats answer) (cond (lies_in_first answer) f s) ≡ chain_of D
  part_is_chain = rw (h.answered, h.first_holds, h.second_holds) (part_of D first second)

  -- the outcome by the definition's own answer and buffers
  own_outcome : Outcome mode t e o first second (answer_of D) (first_after first D) (second_after second D)
  own_outcome = rw (← h.answered, ← h.first_holds, ← h.second_holds) h

-- ---- drawn_chain
lies : {A : Type 0} (d d' : Answer Drawn) (x x' y y' : A) → d ≡ d' → x ≡ x' → y ≡ y' → cond (lies_in_first d) x y ≡ cond (lies_in_first d') x' y'
lies d d' x x' y y' e p q = rw (e, p, q)

module _ (mode : Mode) (t : Tables) (e : Edge) (o : Options) (first second : MutBor (List Float)) (answer : Answer Drawn) (f s : Bor (List Float)) (h : Outcome mode t e o first.now second.now answer f.now s.now) where
  pub hands_back : (part : Bor (List Float)) → f.ref_ptr ≡ first.ref_ptr → s.ref_ptr ≡ second.ref_ptr
      → part.now ≡ take (chain_floats answer) (cond (lies_in_first answer) f.now s.now) → part.ref_ptr ≡ cond (lies_in_first answer) f.ref_ptr s.ref_ptr
      → Handed mode t e o first second (record { drawn = answer; chain = part; first = f; second = s })
  hands_back part p q l r = record {
    handed = record {
      answered = h.answered;
      chain_holds = l ∙ part_is_chain mode t e o first.now second.now answer f.now s.now h;
      first_holds = h.first_holds;
      second_holds = h.second_holds;
      chain_lies = r ∙ lies _ _ _ _ _ _ h.answered p q;
      first_lies = p;
      second_lies = q;
    };
    outcome = own_outcome mode t e o first.now second.now answer f.now s.now h;
  }
