-- `edge_segment::chord_along` meets its contract. Assumes nothing.
use mathlib.Core.Path.{sym, ◌∙◌}
use Rattle.brep.specs.Rows.{Tables}
use Rattle.edge_segment.proofs.chord_along.Goals as goal

pub returns-then-runs_back : goal.returns-then-runs_back
returns-then-runs_back c = λ (T : Tables) s e. rw (sym (c.runs_back.ensures T s e) ∙ c.if-runs_back.true) c.chord_between.ensures

pub returns-else-runs_back : goal.returns-else-runs_back
returns-else-runs_back c = λ (T : Tables) s e. rw (sym (c.runs_back.ensures T s e) ∙ c.if-runs_back.false) c.chord_between-else-runs_back.ensures
