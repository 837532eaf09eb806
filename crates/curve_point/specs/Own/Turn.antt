-- The pair of numbers that a row's point is made of, by its kind. Definitions only.
use Rattle.std.specs.Prelude.{Float, Option, Some}
use Rattle.arith.specs.Notation.{plus_zero}
use Rattle.arith_trig.specs.declared.SinCos.{SinCos}
use Rattle.arith_trig.specs.Own.SinCos.{sin_cos_of}
use Rattle.arith_exp.specs.Exp.{cosh_of, sinh_of}
use Rattle.brep.specs.declared.Kind.{Kind}
use Rattle.brep.specs.declared.Kind.TheVariants.{Circle, Ellipse, Hyperbola}

-- a circle and an ellipse have a sine and a cosine; a hyperbola has sinh and cosh in their place; any other has none
unfoldable pub sin_cos_for : Option Kind → Float → SinCos
sin_cos_for (Some Circle) t = sin_cos_of t
sin_cos_for (Some Ellipse) t = sin_cos_of t
sin_cos_for (Some Hyperbola) t = record { sin = sinh_of t; cos = cosh_of t }
sin_cos_for _ t = record { sin = plus_zero; cos = plus_zero }
