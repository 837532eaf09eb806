-- The flags of the first i even steps are set.
use Rattle.std.proofs.Common.{◌≡◌, length}
use Rattle.edge_thin_mark.specs.Spans.{marks}
use Rattle.edge_thin.specs.Thin.{evens}
use Rattle.edge_thin.proofs.mark_evenly.Given as goal

abbrev pub invariant-loop-i : goal.invariant-loop-i
invariant-loop-i l = l.keep ≡ marks l.initial.keep (evens (length l.initial.keep) l.want l.i)
