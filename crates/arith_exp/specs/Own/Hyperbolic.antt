-- The hyperbolic cosine and sine of one number, together. Definitions only.
use Rattle.std.specs.Prelude.{Float}
use Rattle.arith_exp.specs.Exp.{cosh_of, sinh_of}
use Rattle.arith_exp.specs.declared.Hyperbolic.{Hyperbolic}

-- both
unfoldable pub hyperbolic_of : Float → Hyperbolic
hyperbolic_of t = record { cosh = cosh_of t; sinh = sinh_of t }
