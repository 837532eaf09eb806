-- A drawing that hands its chain back as a part of a lent buffer, with its answer and both buffers. Definitions only.
use Rattle.std.specs.Prelude.{◌≡◌, cond, List, [], length, Float, Err, Ok}
use Rattle.std.specs.Borrow.{MutBor}
use Rattle.brep.specs.declared.Edge.{Edge}
use Rattle.brep.specs.Rows.{Tables}
use Rattle.options.specs.declared.Mode.{Mode}
use Rattle.options.specs.declared.Options.{Options}
use Rattle.edge_record.specs.Chain.{flat}
use Rattle.draw_spec.specs.Repair.{Got}
use Rattle.draw_spec.specs.Draw.{drawn, answer_of, lies_in_first, first_after, second_after, Outcome}
use Rattle.draw_handed.specs.declared.HandedBack.{HandedBack}
use Rattle.refusal.specs.Answer.{Answer}

-- the floats of the chain that drawing came to; none for a refusal
unfoldable pub chain_of : Answer Got → List Float
chain_of (Err n) = []
chain_of (Ok g) = flat g.chain

-- what drawing D, into buffers first and second, hands back
pub record HandedBy (D : Answer Got) (first second : MutBor (List Float)) (back : HandedBack) : Type 0 where
  -- the answer, with its refusal, or its way and how many points there are
  pub answered : back.drawn ≡ answer_of D
  -- every float of all three
  pub chain_holds : back.chain.now ≡ chain_of D
  pub first_holds : back.first.now ≡ first_after first.now D
  pub second_holds : back.second.now ≡ second_after second.now D
  -- nothing is copied: each begins where its buffer does
  pub chain_lies : back.chain.ref_ptr ≡ cond (lies_in_first (answer_of D)) first.ref_ptr second.ref_ptr
  pub first_lies : back.first.ref_ptr ≡ first.ref_ptr
  pub second_lies : back.second.ref_ptr ≡ second.ref_ptr

-- that of the entry point in a mode, with all that `draw_in_mode` promises of its answer and buffers
pub record Handed (mode : Mode) (T : Tables) (e : Edge) (o : Options) (first second : MutBor (List Float)) (back : HandedBack) : Type 0 where
  pub handed : HandedBy (drawn mode T e o (length first.now) (length second.now)) first second back
  pub outcome :
      let D = drawn mode T e o (length first.now) (length second.now) in
      Outcome mode T e o first.now second.now (answer_of D) (first_after first.now D) (second_after second.now D)
