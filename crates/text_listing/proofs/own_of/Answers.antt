-- `text_listing::own_of` meets its contract. Assumes nothing.
use borrow.Author.Tests.{eq-eqb, ne_eqb}
use Rattle.text_listing.specs.Listing.{own_of}
use Rattle.text_listing.proofs.own_of.Goals as goal

pub returns-then-i-eq0 : goal.returns-then-i-eq0
unfolding own_of
returns-then-i-eq0 c = rw (eq-eqb _ _ c.if-i-eq0.true)

pub returns-then-i-n : goal.returns-then-i-n
unfolding own_of
returns-then-i-n c = rw (ne_eqb _ _ c.if-i-eq0.false, eq-eqb _ _ c.if-i-n.true)

pub returns-else-i-n : goal.returns-else-i-n
unfolding own_of
returns-else-i-n c = rw (ne_eqb _ _ c.if-i-eq0.false, ne_eqb _ _ c.if-i-n.false)
