-- The breaks that the walk is handed: none of a curve without knots, else what `kept_breaks` leaves. Assumes nothing.
use Rattle.std.specs.Prelude.{Option, ℕ, Some, None}
use mathlib.Core.Path.{◌≡◌, refl, sym, ap, ◌∙◌}
use mathlib.Core.Bool.{Bool, true, false}
use mathlib.Core.List.{List, []}
use Prim.Native.Nat.{ℕ, ◌≤◌}
use native.Mathlib.Omega.{arith}
use lib.ListN.{length, take}
use lib.Ieee.{Float, lt}
use Rattle.arith.specs.Notation.{plus_zero}
use Rattle.base_lists.specs.Room.{filled}
use Rattle.base_lists.proofs.Filled.{filled_front, filled_most}
use Rattle.brep.specs.Tree.{CurveTree}
use Rattle.options.specs.declared.Mode.{Mode}
use Rattle.knots_inside.specs.Thinned.{thinned_from, thin_breaks}
use Rattle.knots.specs.Knots.{curve_knots}
use Rattle.knots.proofs.Answers.{counted, exceeded, after_fits}
use Rattle.knots_breaks.proofs.Laws.{breaks_none}
use Rattle.knots_thin.specs.Own.Kept.{curve_deviation, kept_answer, kept_after}
use Rattle.knots_thin.specs.Thin.{curve_thinned, kept_breaks}

-- ---- no knots
thin_none : (lo hi sag : Float) (deviation : Float → Float → Float) → [] ≡ thin_breaks [] lo hi sag deviation
unfolding thin_breaks thinned_from
thin_none lo hi sag deviation = go (lt plus_zero sag)
  where
    go : (t : Bool) → ◌≡◌ {A = List Float} [] (elim t [ true ↦ [] | false ↦ [] ])
    go true = refl
    go false = refl

module _ (mode : Mode) (c : CurveTree) (lo hi sag : Float) where
  pub no_breaks : 0 ≡ length (curve_knots c) → [] ≡ kept_breaks mode c lo hi sag
  no_breaks e = thin_none lo hi sag (curve_deviation c) ∙ ap (λ (bs : List Float). curve_thinned c bs lo hi sag) (breaks_none mode c lo hi e)

  -- ---- what kept_breaks answered and left of a buffer that the knots fit
  module _ (room : ℕ) (kept : Option ℕ) (fits : length (curve_knots c) ≤ room) (answered : kept ≡ kept_answer room mode c lo hi sag) where
    pub not_many : kept ≡ None → ⊥
    not_many e = omega (arith, exceeded c room (kept_breaks mode c lo hi sag) (sym answered ∙ e))

    module _ (buffer after : List Float) (long : length buffer ≡ room) (left : after ≡ kept_after buffer mode c lo hi sag) (m : ℕ) (e : kept ≡ Some m) where
      count : m ≡ length (kept_breaks mode c lo hi sag)
      count = (counted c room (kept_breaks mode c lo hi sag) m (sym answered ∙ e)).0

      floats : after ≡ filled (length buffer) (kept_breaks mode c lo hi sag)
      floats = left ∙ sym (after_fits c buffer (kept_breaks mode c lo hi sag) (omega arith))

      pub kept_room : length after ≡ length buffer → m ≤ length after
      kept_room s = omega (arith, count, filled_most (length buffer) (kept_breaks mode c lo hi sag) (sym (ap length floats) ∙ s))

      pub kept_list : take m after ≡ kept_breaks mode c lo hi sag
      kept_list =
          ap (take m) floats ∙ ap (λ (k : ℕ). take k (filled (length buffer) (kept_breaks mode c lo hi sag))) count
          ∙ filled_front (length buffer) (kept_breaks mode c lo hi sag)
