-- Drawing over tables that are gone through only where composites nest: the answer and both chain buffers, whatever the tables hold. Definitions only.
use Rattle.std.specs.Prelude.{◌≡◌, Bool, cond, List, ℕ, ◌*◌, length, ltb, Float, Ok, Err}
use Rattle.brep.specs.declared.Edge.{Edge}
use Rattle.brep.specs.Rows.{Tables, most_segments}
use Rattle.options.specs.declared.Mode.{Mode}
use Rattle.options.specs.declared.Options.{Options}
use Rattle.causes.specs.Causes.{oversize, tables_verdict, edge_verdict}
use Rattle.curve_nests.specs.Nests.{nests}
use Rattle.knots.specs.Knots.{curve_knots}
use Rattle.draw_spec.specs.Edge.{edge_curve}
use Rattle.draw_spec.specs.Repair.{Got}
use Rattle.draw_spec.specs.Draw.{in_buffers, drawn, answer_of, first_after, second_after, Outcome}
use Rattle.draw_spec.specs.declared.Drawn.{Drawn}
use Rattle.refusal.specs.Answer.{Answer}
use Rattle.refusal.specs.declared.Refusal.TheVariants.{Oversize, IllFormed}

-- the edge's curve has more segments, of two knots each, than a table may have: their run lies outside it, which is cause 3
abbrev pub long_run : Tables → Edge → Bool
long_run T e = ltb (2 * most_segments) (length (curve_knots (edge_curve T e)))

-- where a composite lies inside the edge's own composite, all that `draw` does, which goes through the tables: nothing cheaper bounds how
-- deep such composites go; else drawing over what the rows read as
abbrev pub drawn_bounded : Mode → Tables → Edge → Options → ℕ → ℕ → Answer Got
drawn_bounded mode T e o first second = cond (nests (edge_curve T e)) (drawn mode T e o first second) (in_buffers mode T e o first second)

-- 1 by the tables' lengths alone; then 2, 3 or 6 of the edge and the options; then 3 for a run of segments that no table has room for;
-- else drawing, to a depth that is bounded
unfoldable pub drawn_over : Mode → Tables → Edge → Options → ℕ → ℕ → Answer Got
drawn_over mode T e o first second =
    cond (oversize T) (Err Oversize)
    (elim (edge_verdict T e o) [
      | Err n ↦ Err n
      | Ok t ↦ cond (long_run T e) (Err IllFormed) (drawn_bounded mode T e o first second)
    ])

-- what drawing over tables promises: answer and buffers by the definition, and over accepted tables all that `draw` promises
pub record Over (mode : Mode) (T : Tables) (e : Edge) (o : Options) (first second : List Float) (answer : Answer Drawn) (first' second' : List Float) : Type 0 where
  pub answered : answer ≡ answer_of (drawn_over mode T e o (length first) (length second))
  pub first_holds : first' ≡ first_after first (drawn_over mode T e o (length first) (length second))
  pub second_holds : second' ≡ second_after second (drawn_over mode T e o (length first) (length second))
  pub same : tables_verdict T ≡ Ok tt → Outcome mode T e o first second answer first' second'
