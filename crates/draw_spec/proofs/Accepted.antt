-- When an edge is accepted, and which refusal it has otherwise. Assumes nothing.
use Rattle.std.specs.Prelude.{⊤, Ok, Err}
use mathlib.Core.Path.{◌≡◌, refl, sym, ap, ◌∙◌}
use mathlib.Core.Bool.{Bool, true, false, cond}
use Prim.Native.Nat.{ℕ}
use native.Mathlib.Omega.{arith}
use Rattle.brep.specs.declared.Edge.{Edge}
use Rattle.brep.specs.Rows.{Tables}
use Rattle.options.specs.declared.Mode.{Mode}
use Rattle.options.specs.declared.Options.{Options}
use Rattle.causes.specs.Causes.{verdict}
use Rattle.edge_params.specs.Work.{within}
use Rattle.edge_params.proofs.Work.{within_got}
use Rattle.draw_spec.specs.Repair.{Got}
use Rattle.draw_spec.specs.Draw.{local_options, referenced, room_of, too_short, drawn}
use Rattle.refusal.specs.Answer.{Answer}
use Rattle.refusal.specs.declared.Refusal.TheVariants.{ShortBuffer}
use Rattle.refusal.specs.declared.Refusal.{Refusal}

module _ (mode : Mode) (t : Tables) (e : Edge) (o : Options) (first second : ℕ) where
  -- drawing, once none of 1 to 7 applies
  abbrev pub in_room : Answer Got
  in_room = within (room_of first second) (referenced mode t e (local_options t e o))

  pub record Accepts (g : Got) : Type 0 where
    pub accepted : verdict t e o ≡ Ok tt
    pub long : too_short first second ≡ false
    pub made : in_room ≡ Ok g

  pub data Refuses (n : Refusal) : Type 0 where
    -- 1 to 6
    by_tables : verdict t e o ≡ Err n → Refuses n
    by_buffers : verdict t e o ≡ Ok tt → too_short first second ≡ true → n ≡ ShortBuffer → Refuses n
    -- 8, 9 or 11
    by_drawing : verdict t e o ≡ Ok tt → too_short first second ≡ false → in_room ≡ Err n → Refuses n

  -- by the verdict, and whether a buffer is too short
  abbrev pub chosen : Answer ⊤ → Bool → Answer Got
  chosen v s = elim v [ Err n ↦ Err n | Ok t ↦ cond s (Err ShortBuffer) in_room ]

  pub given : (v : Answer ⊤) (s : Bool) → verdict t e o ≡ v → too_short first second ≡ s → drawn mode t e o first second ≡ chosen v s
  unfolding drawn
  given v s a b = ap (λ (w : Answer ⊤). chosen w (too_short first second)) a ∙ ap (chosen v) b

  -- an edge is accepted exactly where the verdict is so, neither buffer is too short, and drawing gives a chain
  pub accepts : (g : Got) → drawn mode t e o first second ≡ Ok g → Accepts g
  accepts g q = go (verdict t e o) (too_short first second) refl refl
    where
      go : (v : Answer ⊤) (s : Bool) → verdict t e o ≡ v → too_short first second ≡ s → Accepts g
      go (Err n) s a b = absurd (let y = given (Err n) s a b in let z : ◌≡◌ {A = ℕ} 0 1 = cc in omega arith)
      go (Ok t) true a b = absurd (let y = given (Ok tt) true a b in let z : ◌≡◌ {A = ℕ} 0 1 = cc in omega arith)
      go (Ok t) false a b = record { accepted = a; long = b; made = sym (given (Ok tt) false a b) ∙ q }

  -- the chain is then the reference's own, which has no room
  pub reference_own : (g : Got) → drawn mode t e o first second ≡ Ok g → (referenced mode t e (local_options t e o)).end ≡ Ok g
  reference_own g q = (within_got (room_of first second) (referenced mode t e (local_options t e o)) g (accepts g q).made).1

  pub accepted_so : (g : Got) → Accepts g → drawn mode t e o first second ≡ Ok g
  accepted_so g a = given (Ok tt) false a.accepted a.long ∙ a.made

  -- and refused with n exactly where n is the verdict's, or 7 for a buffer, or that of drawing
  pub refuses : (n : Refusal) → drawn mode t e o first second ≡ Err n → Refuses n
  refuses n q = go (verdict t e o) (too_short first second) refl refl
    where
      go : (v : Answer ⊤) (s : Bool) → verdict t e o ≡ v → too_short first second ≡ s → Refuses n
      go (Err k) s a b =
          let y = given (Err k) s a b in
          let z : k ≡ n = cc in
          by_tables (a ∙ ap Err z)
      go (Ok t) true a b = let y = given (Ok tt) true a b in by_buffers a b (cc)
      go (Ok t) false a b = by_drawing a b (sym (given (Ok tt) false a b) ∙ q)

  pub refused_so : (n : Refusal) → Refuses n → drawn mode t e o first second ≡ Err n
  refused_so n (by_tables a) = given (Err n) (too_short first second) a refl
  refused_so n (by_buffers a b z) = given (Ok tt) true a b ∙ ap Err (sym z)
  refused_so n (by_drawing a b q) = given (Ok tt) false a b ∙ q
