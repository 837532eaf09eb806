-- `curve_asks::never_asks` meets its contract. Assumes nothing.
use Rattle.std.proofs.Common.{arith, ap}
use lib.Dec.{ltb}
use borrow.Author.Tests.{ltb-true}
use Rattle.curve_asks.proofs.Laws.{plain_near}
use Rattle.curve_asks.proofs.never_asks.Goals as goal

pub returns : goal.returns
returns c =
    let k = c.int_at.ensures in
    (ap (λ n. ltb n 6) k, λ points reals parts ranges h. plain_near _ _ (omega (arith, k, ltb-true c.int_at.result 6 h)))
