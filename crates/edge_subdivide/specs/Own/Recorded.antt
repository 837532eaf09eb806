-- A list of parameters in a buffer, and the curve's records at them in a chain. Definitions only.
use Rattle.std.specs.Prelude.{◌≡◌, List, ℕ, ◌*◌, ◌≤◌, length, Float, Option}
use Rattle.std.proofs.lemmas.List.Edits.{sets}
use Rattle.brep.specs.Tree.{CurveTree}
use Rattle.edge_params.specs.Own.Written.{ListAppended}
use Rattle.edge_record.specs.Chain.{width, flat}
use Rattle.edge_closed_form.specs.Located.{located}

-- k places of out are taken, and the chain has a record for each of its places
pub record Room (out chain : List Float) (k : ℕ) : Type 0 where
  pub taken : k ≤ length out
  pub wide : length chain ≡ width * length out

-- l written behind the first k floats of out, and the curve's records at l behind the first k of the chain, as far as there is room
pub record ListRecorded (c : CurveTree) (out chain : List Float) (k : ℕ) (l : List Float) (w : Option ℕ) (out' chain' : List Float) : Type 0 where
  pub listed : ListAppended out k l w out'
  pub records : chain' ≡ sets chain (width * k) (flat (located c l))
