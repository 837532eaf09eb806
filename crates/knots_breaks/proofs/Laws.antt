-- What callers use of a curve's breaks, in either mode: they ascend between the ends of the range, they are floats of 64 bits, and a curve
-- without knots has none. Assumes nothing.
use Rattle.std.proofs.Common.{◌≡◌, ◌-◌, T, List, [], ◌∷◌, length, refl, arith}
use lib.Ieee.{Float, binary64, fits}
use Rattle.arith_order.proofs.Modest.{Modest}
use Rattle.base_lists.specs.All.{All, none, more}
use Rattle.base_lists.proofs.Order.{sub_all}
use Rattle.brep.specs.Tree.{CurveTree}
use Rattle.options.specs.declared.Mode.{Mode}
use Rattle.options.specs.declared.Mode.TheVariants.{Reference, Strict}
use Rattle.knots_inside.specs.Breaks.{passing_knots, inside_of}
use Rattle.knots_inside.proofs.Kept.{passing_sub, inside_all}
use Rattle.knots_inside.proofs.Between.{Between, inside_between}
use Rattle.knots.specs.Knots.{curve_knots, curve_breaks}
use Rattle.knots_breaks.specs.Breaks.{wholes, segments_under, breaks_in}
use Rattle.knots_breaks.proofs.Passing.{passing_between, wholes_ascend, wholes_fit, wholes_length}
use Rattle.knots_breaks.proofs.Answers.{two_each}

-- ---- no knots
no_elements : (l : List Float) → 0 ≡ length l → All (λ k. ⊥) l
no_elements [] e = none
no_elements (k ∷ l) e = absurd (omega arith)

nothing : (l : List Float) → All (λ k. ⊥) l → [] ≡ l
nothing [] h = refl
nothing (k ∷ l) (more h g) = absurd h

pub breaks_none : (mode : Mode) (c : CurveTree) (lo hi : Float) → 0 ≡ length (curve_knots c) → [] ≡ breaks_in mode c lo hi
unfolding breaks_in curve_breaks
breaks_none Reference c lo hi e = nothing (inside_of (curve_knots c) lo hi) (inside_all (curve_knots c) (no_elements (curve_knots c) e) lo hi)
breaks_none Strict c lo hi e =
    let n = segments_under c - 1 in
    nothing (passing_knots (wholes 1 n) lo hi) (sub_all (passing_sub (wholes 1 n) lo hi) (no_elements (wholes 1 n) (omega (arith, wholes_length 1 n, two_each c))))

-- ---- what sampling asks of them
pub breaks_fit : (mode : Mode) (c : CurveTree) (lo hi : Float) → All (λ k. T (fits binary64 k)) (curve_knots c) → All (λ k. T (fits binary64 k)) (breaks_in mode c lo hi)
unfolding breaks_in curve_breaks
breaks_fit Reference c lo hi F = inside_all (curve_knots c) F lo hi
breaks_fit Strict c lo hi F = let n = segments_under c - 1 in sub_all (passing_sub (wholes 1 n) lo hi) (wholes_fit 1 n)

pub breaks_between : (mode : Mode) (c : CurveTree) (lo hi : Float) → T (fits binary64 lo) → T (fits binary64 hi) → Modest lo → Modest hi → Between lo hi (breaks_in mode c lo hi)
unfolding breaks_in curve_breaks
breaks_between Reference c = inside_between (curve_knots c)
breaks_between Strict c = let n = segments_under c - 1 in passing_between (wholes 1 n) (wholes_ascend 1 n)
