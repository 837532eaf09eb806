-- Each constant of the reference is the float nearest to what its name says. Assumes nothing.
use Rattle.std.proofs.Common.{refl}
use lib.Ieee.{round, of_bits, of_int}
use Rattle.arith.specs.Constants.{Constants}

pub constants : Constants
unfolding round of_bits of_int
constants = record {
  is_zero = refl;
  is_half = refl;
  is_one = refl;
  is_two = refl;
  is_four = refl;
  is_eight = refl;
  is_ten = refl;
  is_sixteen = refl;
  is_thirty_five = refl;
  is_five_twelve = refl;
  is_million = refl;
  is_billion = refl;
  is_trillion = refl;
  is_hundredth = refl;
  is_thousandth = refl;
  is_four_ten_thousandths = refl;
  is_ten_thousandth = refl;
  is_billionth = refl;
  is_ten_to_minus20 = refl;
  is_ten_to_minus300 = refl;
  is_two_to_minus511 = refl;
  is_least_normal = refl;
}
