-- `thin` meets its contract: a short chain or no tolerance leaves the chain as it is.
use Rattle.std.proofs.Common.{inl, inr, ◌/◌, ◌≤◌, length, arith}
use Rattle.edge_record.specs.Chain.{width, most}
use Rattle.edge_thin.proofs.Ways.{lent_length, lent, said_as_it_was}
use Rattle.edge_thin.proofs.thin.Goals as goal
use Rattle.edge_thin.proofs.thin.Goals.{then-n-lt3-via-then-n-lt3, then-n-lt3-via-else-n-lt3+then-not-tolerance}

pub returns-then-n-lt3 : goal.returns-then-n-lt3
returns-then-n-lt3 c =
    let a = c.args in
    said_as_it_was a.tolerance a.angle a.floor (length a.chain.now / width) a.chain.now
    (elim c.then-n-lt3.branch [ then-n-lt3-via-then-n-lt3 w ↦ inl w.if-n-lt3.true | then-n-lt3-via-else-n-lt3+then-not-tolerance w ↦ inr w.if-not-tolerance.true ])

pub thin_by-requires : goal.thin_by-requires
thin_by-requires c =
    let n = length c.args.chain.now / width in
    let h : n ≤ 128 = omega arith in
    let l = lent_length n 128 h in
    (omega arith, omega arith, omega arith, lent n 128 h, c.if-not-tolerance.false)

pub thin_by-requires-2 : goal.thin_by-requires-2
thin_by-requires-2 c =
    let n = length c.args.chain.now / width in
    let h : n ≤ most = omega arith in
    let l = lent_length n most h in
    (omega arith, omega arith, omega arith, lent n most h, c.if-not-tolerance.false)
