use Rattle.causes_nesting.proofs.Runs.{known_more}
use Rattle.causes_nesting.proofs.BlocksDepths.pass.Goals as goal

pub invariant_of-self-clause-known : goal.invariant_of-self-clause-known
invariant_of-self-clause-known g c = rw c.pass.ensures (known_more _ _ c.args.self.now.known)
