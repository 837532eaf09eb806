-- `edge_merge::before_end` meets its contract. Assumes nothing.
use mathlib.Core.Path.{sym}
use borrow.Author.Rules.{rules}
use borrow.Author.Tests.{lt-ltb, le-ltb}
use Rattle.edge_merge.proofs.before_end.Goals as goal

pub returns-then-k-le1 : goal.returns-then-k-le1
returns-then-k-le1 c = (sym (rw (le-ltb 1 c.args.k c.if-k-le1.true)), search rules)

pub returns-then-distance-floor : goal.returns-then-distance-floor
returns-then-distance-floor c = (sym (rw (lt-ltb 1 _ c.if-k-le1.false, sym c.distance.ensures, c.if-distance-floor.true)), search rules)

pub returns : goal.returns
returns c = (sym (rw (lt-ltb 1 _ c.if-k-le1.false, sym c.distance.ensures, c.if-distance-floor.false)), search rules)
