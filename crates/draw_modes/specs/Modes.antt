-- That the reference mode is the Rust's, where strict mode differs from it, and that it differs nowhere else. Each claim is proved in proofs/Laws.antt. Definitions only.
use Rattle.std.specs.Prelude.{◌≡◌, true, false, ℕ, Float, Some, Ok}
use Rattle.math.specs.declared.Interval.{Interval}
use Rattle.brep.specs.declared.Edge.{Edge}
use Rattle.brep.specs.Rows.{Tables}
use Rattle.brep.specs.Tree.{CurveTree}
use Rattle.options.specs.declared.Mode.TheVariants.{Reference, Strict}
use Rattle.options.specs.declared.Options.{Options}
use Rattle.options.specs.declared.Resolved.{Resolved}
use Rattle.causes.specs.Causes.{oversize, verdict, edge_verdict}
use Rattle.knots.specs.Knots.{curve_breaks}
use Rattle.knots_breaks.specs.Breaks.{segments_under, breaks_in}
use Rattle.edge_params.specs.Work.{done}
use Rattle.edge_range.specs.Usable.{usable_range, is_open_conic, is_no_range, has_no_domain}
use Rattle.draw_spec.specs.Edge.{edge_curve}
use Rattle.draw_spec.specs.Repair.{short_range}
use Rattle.draw_spec.specs.Draw.{drawn_probed, lost_chord, referenced, too_short, drawn, Applies}
use Rattle.draw.specs.Over.{drawn_over}

-- ---- the reference mode
-- it is edge_extent's probes, discretise and repair_runaway for every edge, over the breaks of curve_breaks
pub record ReferenceIs : Type 0 where
  pub work : (T : Tables) (e : Edge) (r : Resolved) → referenced Reference T e r ≡ drawn_probed Reference T e r
  pub breaks : (c : CurveTree) (lo hi : Float) → breaks_in Reference c lo hi ≡ curve_breaks c lo hi

-- ---- where strict mode differs
-- strict mode draws the edge as the chord of its vertices, with parameters lo and hi
pub record DrawnAsChord (T : Tables) (e : Edge) : Type 0 where
  -- at once, whatever the box: no list is formed and the end is that chord, and nothing is repaired
  pub work : (r : Resolved) → referenced Strict T e r ≡ done (lost_chord T e)
  -- it is what drawing gives, once none of 1 to 7 applies
  pub drawing : (o : Options) (first second : ℕ) → verdict T e o ≡ Ok tt → too_short first second ≡ false
      → drawn Strict T e o first second ≡ Ok (lost_chord T e)
  -- the same over tables that are not gone through
  pub over : (o : Options) (first second : ℕ) → oversize T ≡ false → edge_verdict T e o ≡ Ok tt → too_short first second ≡ false
      → drawn_over Strict T e o first second ≡ Ok (lost_chord T e)
  -- 8, 9 and 11 never apply
  pub never_8 : (o : Options) (first second : ℕ) → Applies Strict T e o first second 8 → ⊥
  pub never_9 : (o : Options) (first second : ℕ) → Applies Strict T e o first second 9 → ⊥
  pub never_11 : (o : Options) (first second : ℕ) → Applies Strict T e o first second 11 → ⊥

-- so it draws every edge along a parabola or a hyperbola, the row itself and no trim of one, whose range is none: not finite, empty or reversed
abbrev pub StrictChord : Type 0
StrictChord = (T : Tables) (e : Edge) → is_open_conic (edge_curve T e) ≡ true → is_no_range e.range ≡ true → DrawnAsChord T e

-- ---- where it does not
-- strict mode draws the edge as the Rust does
pub record Alike (T : Tables) (e : Edge) : Type 0 where
  -- without a room: the same lists formed in the same order, and the same end
  pub work : (r : Resolved) → referenced Strict T e r ≡ referenced Reference T e r
  -- the same refusal, or the same chain and way, in buffers of any length
  pub drawing : (o : Options) (first second : ℕ) → drawn Strict T e o first second ≡ drawn Reference T e o first second
  -- the same over tables that nobody accepted
  pub over : (o : Options) (first second : ℕ) → drawn_over Strict T e o first second ≡ drawn_over Reference T e o first second
  -- each cause applies in the one mode exactly where it does in the other, whether or not a lower one does
  pub causes : (o : Options) (first second m : ℕ)
      → (Applies Strict T e o first second m → Applies Reference T e o first second m)
      × (Applies Reference T e o first second m → Applies Strict T e o first second m)

-- so it draws every other edge whose curve has no segments under it: no composite and no trim of one, or one without segments
abbrev pub StrictElsewhere : Type 0
StrictElsewhere = (T : Tables) (e : Edge) → has_no_domain Strict (edge_curve T e) e.range ≡ false → segments_under (edge_curve T e) ≡ 0 → Alike T e

-- the strict breaks are the Rust's in what is usable of a range
abbrev pub SameIn : CurveTree → Interval → Type 0
SameIn c own = (range : Interval) → usable_range c own ≡ Some range → breaks_in Strict c range.lo range.hi ≡ curve_breaks c range.lo range.hi

-- and so a composite, or trims of one, whose strict breaks are the Rust's in the edge's range and in the short arc's, the only two it is drawn over
abbrev pub SameBreaks : Type 0
SameBreaks =
    (T : Tables) (e : Edge) → has_no_domain Strict (edge_curve T e) e.range ≡ false
    → SameIn (edge_curve T e) e.range → SameIn (edge_curve T e) (short_range T e) → Alike T e
