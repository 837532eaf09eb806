-- `draw::draw_in_buffers` meets its contract. Assumes nothing.
use mathlib.Core.Path.{◌∙◌}
use lib.ListN.{length}
use native.Mathlib.Omega.{arith}
use Rattle.brep.specs.Rows.{lent}
use Rattle.draw.proofs.Laws.{too_short_lem, first_short, second_short}
use Rattle.draw.proofs.draw_in_buffers.Goals as goal
use Rattle.draw.proofs.draw_in_buffers.Goals.{then-first-lt-SHORTEST-via-then-first-lt-SHORTEST, then-first-lt-SHORTEST-via-else-first-lt-SHORTEST+then-second-lt-SHORTEST}

pub returns-then-first-lt-SHORTEST : goal.returns-then-first-lt-SHORTEST
returns-then-first-lt-SHORTEST c =
    let a = c.args in
    too_short_lem a.mode (lent a.tables.now) a.edge a.options a.first.now a.second.now
    (elim c.then-first-lt-SHORTEST.branch [
      | then-first-lt-SHORTEST-via-then-first-lt-SHORTEST x ↦ first_short (length a.first.now) (length a.second.now) x.if-first-lt-SHORTEST.true
      | then-first-lt-SHORTEST-via-else-first-lt-SHORTEST+then-second-lt-SHORTEST y ↦ second_short (length a.first.now) (length a.second.now) y.if-second-lt-SHORTEST.true
    ])

pub returns : goal.returns
returns c =
    let d = c.new-drawing.ensures in
    let told = c.draw_unchecked.ensures in
    let drawn = rw (d.over, d.of, d.in_mode) at told.drawn in
    -- the buffers are those that were lent
    let first = told.same.first in
    let second = told.same.second in
    record { answered = drawn.answered; first_holds = (grind arith) ∙ drawn.first_holds; second_holds = (grind arith) ∙ drawn.second_holds }
