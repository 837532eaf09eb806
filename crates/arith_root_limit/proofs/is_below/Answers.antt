-- `arith_root_limit::is_below` meets its contract: a root is not below where what stands under it is not, and is where that is by one part in a
-- million. Assumes nothing.
use Rattle.arith_root_limit.proofs.Roots.{surely_below, of_roots, root_not_below}
use mathlib.Core.Path.{sym}
use borrow.Author.Rules.{rules}
use Rattle.arith_root_limit.proofs.is_below.Goals as goal

pub returns-then-s-t-2 : goal.returns-then-s-t-2
returns-then-s-t-2 c =
    let a = c.args in
    surely_below a.s a.t (search rules) (search rules) c.if-s-t.true c.if-s.true c.if-s-t-2.true

pub returns-then-s-t : goal.returns-then-s-t
returns-then-s-t c =
    let a = c.args in
    of_roots a.s a.t c.root.ensures.0 c.root-then-s-t.ensures.0

pub returns : goal.returns
returns c = let a = c.args in sym (root_not_below a.s a.t (search rules) (search rules) c.if-s-t.false)
