-- `bench_draw::cs_breaks` meets its contract. Assumes nothing.
use mathlib.Core.Path.{refl}
use borrow.Author.Tests.{le-leb, lt-leb}
use Rattle.bench_draw.proofs.cs_breaks.Goals as goal

pub returns-then-knots-le-MOST_KNOTS : goal.returns-then-knots-le-MOST_KNOTS
returns-then-knots-le-MOST_KNOTS c = rw (le-leb _ _ c.if-knots-le-MOST_KNOTS.true) c.inside.ensures

pub returns : goal.returns
returns c = rw (lt-leb _ _ c.if-knots-le-MOST_KNOTS.false) (refl, refl)
