-- `text_format::digits_to`: what is left to be read behind n gives the whole.
use mathlib.Core.Path.{◌≡◌}
use lib.ListN.{drop}
use Rattle.text_format.specs.Format.{read_decimal}
use Rattle.text_format.proofs.digits_to.Given as goal

abbrev pub invariant-loop-i : goal.invariant-loop-i
invariant-loop-i l = read_decimal l.most l.end l.n (drop l.i l.s) ≡ read_decimal l.most l.end l.v l.s
