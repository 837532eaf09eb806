-- Whether strict mode finds nothing to draw a row over, by the row's kind: only a parabola or a hyperbola can lack a domain. Assumes nothing.
use mathlib.Core.Path.{◌≡◌, refl, ◌∙◌}
use mathlib.Core.Bool.{Bool, true, false, ◌&&◌}
use Prim.Native.Nat.{ℕ}
use Rattle.math.specs.declared.Interval.{Interval}
use Rattle.brep.specs.declared.Kind.TheVariants as kinds
use Rattle.brep.specs.Rows.{Tables, kind_of}
use Rattle.brep.specs.Tree.{CurveTree, grown, below, tree}
use Rattle.brep.proofs.Laws.{at_row}
use Rattle.brep.proofs.ByKind.{row_kind, by_kind, at_parabola, at_hyperbola}
use Rattle.options.specs.declared.Mode.{Mode}
use Rattle.options.specs.declared.Mode.TheVariants.{Reference, Strict}
use Rattle.edge_range.specs.Usable.{is_no_range, is_open_conic, has_no_domain}

module _ (T : Tables) (row : ℕ) {kind : ℕ} (k : kind ≡ row_kind T row) where
  open_parabola : kind ≡ 4 → true ≡ is_open_conic (tree T row)
  unfolding is_open_conic
  open_parabola h = at_parabola is_open_conic T row k h refl refl

  open_hyperbola : kind ≡ 8 → true ≡ is_open_conic (tree T row)
  unfolding is_open_conic
  open_hyperbola h = at_hyperbola is_open_conic T row k h refl refl refl

  not_open : (kind ≡ 4 → ⊥) → (kind ≡ 8 → ⊥) → false ≡ is_open_conic (tree T row)
  unfolding is_open_conic grown kind_of
  not_open m n =
      by_kind T row (λ c. false ≡ is_open_conic (grown T (below T row) c))
      (elim [
        | kinds.Line ↦ λ e. refl
        | kinds.Circle ↦ λ e. refl
        | kinds.Ellipse ↦ λ e. refl
        | kinds.Parabola ↦ λ e. absurd (m (k ∙ e))
        | kinds.Polyline ↦ λ e. refl
        | kinds.Trimmed ↦ λ e. refl
        | kinds.Composite ↦ λ e. refl
        | kinds.Hyperbola ↦ λ e. absurd (n (k ∙ e))
      ])
      refl
      ∙ at_row is_open_conic T row refl refl

  module _ (range : Interval) {mode : Mode} (s : mode ≡ Strict) where
    by_strict : {b : Bool} → b ≡ is_open_conic (tree T row) → b && is_no_range range ≡ has_no_domain mode (tree T row) range
    unfolding has_no_domain
    by_strict e = rw (s, ← e)

    pub of_parabola : kind ≡ 4 → is_no_range range ≡ has_no_domain mode (tree T row) range
    of_parabola h = by_strict (open_parabola h)

    pub of_hyperbola : kind ≡ 8 → is_no_range range ≡ has_no_domain mode (tree T row) range
    of_hyperbola h = by_strict (open_hyperbola h)

    pub of_another : (kind ≡ 4 → ⊥) → (kind ≡ 8 → ⊥) → false ≡ has_no_domain mode (tree T row) range
    of_another m n = by_strict (not_open m n)

-- nor does reference mode say so of any
pub of_reference : (c : CurveTree) (range : Interval) {mode : Mode} → mode ≡ Reference → false ≡ has_no_domain mode c range
unfolding has_no_domain
of_reference c range e = rw e
