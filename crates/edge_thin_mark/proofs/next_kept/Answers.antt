-- `next_kept` meets its contract.
use Rattle.std.proofs.Common.{◌≡◌, ◌<◌, Bool, true, false, MatchOption, length, drop, length-drop, ◌∙◌, arith, rules}
use lib.Seq.{take_all}
use Rattle.std.proofs.lemmas.Iterator.{YieldsList-from_slice, IsFirst-from_position}
use Rattle.std.specs.List.{AllWithin, HoldsAt}
use borrow.Author.Tests.{tests}
use Rattle.edge_thin_mark.proofs.Flags.{found_at, found_none}
use Rattle.edge_thin_mark.proofs.next_kept.Goals as goal
use Rattle.edge_thin_mark.proofs.next_kept.Goals.{After-position}

-- the first flag that is set, of those from `from` on
first : (c : After-position) → MatchOption c.position.result (AllWithin (λ b. b ≡ false) (drop c.args.from c.args.keep.now) 0 (length (drop c.args.from c.args.keep.now)))
    (λ i. (i < length (drop c.args.from c.args.keep.now)) × HoldsAt (λ b. b ≡ true) (drop c.args.from c.args.keep.now) i × AllWithin (λ b. b ≡ false) (drop c.args.from c.args.keep.now) 0 i)
first c =
    IsFirst-from_position _ _ c.position.result (λ b. b ≡ true) (λ b. b ≡ false) c.position.ensures.ran
    (YieldsList-from_slice (drop c.args.from c.args.keep.now) (c.iter.ensures.rest ∙ take_all _ (drop c.args.from c.args.keep.now) (omega (arith, length-drop c.args.from c.args.keep.now)))) (λ x q k. search (rules, tests)) (λ x q k. search (rules, tests))

pub returns-in-Some : goal.returns-in-Some
returns-in-Some c =
    let f = rw c.in-Some.is at (first (goal.at.returns-in-Some c).After-position) in
    found_at c.args.keep.now c.args.from c.requires c.in-Some.i f

pub returns-in-None : goal.returns-in-None
returns-in-None c =
    let f = rw c.in-None.is at (first (goal.at.returns-in-None c).After-position) in
    found_none c.args.keep.now c.args.from c.requires f
