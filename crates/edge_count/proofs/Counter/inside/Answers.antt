-- `edge_count::Counter::inside` meets its contract: an end that is too far is asked for first. Assumes nothing.
use mathlib.Core.Path.{sym, ◌∙◌}
use Rattle.edge_count.proofs.Counting.{at_end, at_left, at_right}
use Rattle.edge_count.proofs.Counter.inside.Goals as goal
use Rattle.edge_count.proofs.Counter.inside.Goals.{then-is_far-via-then-is_far, then-is_far-via-else-is_far+then-is_far-2}

pub returns-then-depth-eq0 : goal.returns-then-depth-eq0
returns-then-depth-eq0 c = at_end _ _ _ _ _ _ _ c.if-depth-eq0.true

pub returns-then-is_far : goal.returns-then-is_far
returns-then-is_far c =
    elim c.then-is_far.branch [
      | then-is_far-via-then-is_far w ↦ at_left _ _ _ _ _ _ _ c.if-depth-eq0.false (sym c.is_far.ensures ∙ w.if-is_far.true)
      | then-is_far-via-else-is_far+then-is_far-2 w ↦
          at_right _ _ _ _ _ _ _ c.if-depth-eq0.false (sym c.is_far.ensures ∙ w.if-is_far.false) (sym w.is_far-else-is_far.ensures ∙ w.if-is_far-2.true)
    ]

pub subdivided-requires : goal.subdivided-requires
subdivided-requires c = (c.requires.0, c.requires.1, sym c.is_far.ensures ∙ c.if-is_far.false, sym c.is_far-else-is_far.ensures ∙ c.if-is_far-2.false)
