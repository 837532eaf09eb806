-- `knots_inside::retain` meets its contract: the test is that of the definition. Assumes nothing.
use Rattle.std.proofs.Common.{rules}
use Rattle.std.proofs.lemmas.Fn.{filter_same}
use Rattle.knots_inside.specs.Breaks.{retained_knots}
use Rattle.knots_inside.proofs.retain.Goals as goal

pub returns-clause-kept : goal.returns-clause-kept
unfolding retained_knots
returns-clause-kept c = filter_same _ _ _ (λ x b f' k. search rules) _ _ c.keep_if.ensures.kept
