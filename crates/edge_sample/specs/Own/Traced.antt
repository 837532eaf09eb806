-- What sampling leaves in the chain, and whether that is the curve's records at the answer. Definitions only.
use Rattle.std.specs.Prelude.{Bool, true, false, not, List, ℕ, ◌-◌, ltb, length, Float, Option, None, Some, Err, Ok}
use Rattle.std.proofs.lemmas.List.Edits.{sets}
use Rattle.std.specs.Float.Ieee.{le}
use Rattle.arith.specs.Notation.{plus_zero}
use Rattle.math.specs.declared.Interval.{Interval}
use Rattle.brep.specs.Tree.{CurveTree}
use Rattle.options.specs.declared.Mode.{Mode}
use Rattle.options.specs.declared.Resolved.{Resolved}
use Rattle.edge_params.specs.Params.{evenly}
use Rattle.edge_params.specs.Own.Bisected.{bisected}
use Rattle.edge_params.specs.Own.InRoom.{fitting}
use Rattle.edge_range.specs.Usable.{analytic_segments}
use Rattle.edge_record.specs.Chain.{flat}
use Rattle.edge_closed_form.specs.Located.{located}
use Rattle.edge_sample.specs.Sample.{worst_miss, sampler}
use Rattle.refusal.specs.Answer.{Answer}

-- the chain, and whether its first records are those of the parameters that are answered
pub record Traced : Type 0 where
  pub known : Bool
  pub chain : List Float

abbrev pub traced : Bool → List Float → Traced
traced known chain = record { known = known; chain = chain }

-- the curve's records at a list, stored over what a chain held
abbrev pub over : CurveTree → List Float → List Float → List Float
over c l chain = sets chain 0 (flat (located c l))

-- of bisection's list, with the segment floor: whether it fits and is the answer
unfoldable pub is_enough : ℕ → Answer (List Float) → Bool
is_enough least (Err n) = false
is_enough least (Ok l) = not (ltb (length l - 1) least)

-- refine
abbrev pub traced_refined : ℕ → Mode → CurveTree → Interval → Resolved → List Float → Traced
traced_refined room mode c range r chain =
    let l = bisected (sampler mode c range r) range in
    traced (is_enough r.segments (fitting room l)) (over c l chain)

-- a closed form, whose records stand in the chain, by whether it stays within the sag; bisection where it does not
unfoldable pub traced_checked : ℕ → Mode → CurveTree → Interval → Resolved → List Float → Bool → Traced
traced_checked room mode c range r chain true = traced true chain
traced_checked room mode c range r chain false = traced_refined room mode c range r chain

-- the steps of a closed form, which are checked if they fit
unfoldable pub traced_steps : ℕ → Mode → CurveTree → Interval → Resolved → List Float → Answer (List Float) → Traced
traced_steps room mode c range r chain (Err n) = traced false chain
traced_steps room mode c range r chain (Ok l) = traced_checked room mode c range r (over c l chain) (le (worst_miss c plus_zero l) r.sag)

-- by the closed form that the curve has
unfoldable pub traced_form : ℕ → Mode → CurveTree → Interval → Resolved → List Float → Option ℕ → Traced
traced_form room mode c range r chain None = traced_refined room mode c range r chain
traced_form room mode c range r chain (Some n) = traced_steps room mode c range r chain (fitting room (evenly range n))

-- sample_params
abbrev pub traced_sampled : ℕ → Mode → CurveTree → Interval → Resolved → List Float → Traced
traced_sampled room mode c range r chain = traced_form room mode c range r chain (analytic_segments c range r)
