-- `knots_inside::dedup` meets its contract: the first stays, and of the rest those that are not near the last one kept. Assumes nothing.
use Rattle.std.proofs.Common.{rules}
use Rattle.knots_inside.proofs.Keep.{apart_kept, none_kept, first_kept}
use Rattle.knots_inside.proofs.dedup.Goals as goal

pub returns-in_default-clause-kept : goal.returns-in_default-clause-kept
returns-in_default-clause-kept c = none_kept _ _ c.in_default.ensures.cases

pub returns-clause-kept : goal.returns-clause-kept
returns-clause-kept c =
    first_kept _ _ _ _ _ _ c.in-Some.ensures.cases.0
    (apart_kept _ (λ p. p.1.now) (λ p. p.0.now) (λ p x b q h. (search rules, search rules, search rules)) _ _ _ c.keep_if.ensures.kept)
