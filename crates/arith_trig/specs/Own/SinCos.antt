-- The sine and the cosine of one angle, which the code works out together. Definitions only.
use Rattle.std.specs.Prelude.{Float}
use Rattle.arith_trig.specs.declared.SinCos.{SinCos}
use Rattle.arith_trig.specs.Trig.{cos_of, sin_of}

-- both
unfoldable pub sin_cos_of : Float → SinCos
sin_cos_of t = record { sin = sin_of t; cos = cos_of t }
