-- `text_listing::bits_or` meets its contract. Assumes nothing.
use Rattle.std.specs.Float.{binary64}
use lib.Ieee.Bits.{nan_bits_is}
use Rattle.text_listing.specs.Listing.{bits_or}
use Rattle.text_listing.proofs.bits_or.Goals as goal

pub returns-then-not-is_nan : goal.returns-then-not-is_nan
unfolding bits_or
returns-then-not-is_nan c = rw (← c.if-not-is_nan.ensures.value)

pub returns-then-is_nan : goal.returns-then-is_nan
unfolding bits_or
returns-then-is_nan c = rw (← c.if-not-is_nan.ensures.value, nan_bits_is binary64 c.args.own, ← c.f64_from_bits_with_nan.ensures, ← c.if-is_nan.ensures.value)

pub returns-else-is_nan : goal.returns-else-is_nan
unfolding bits_or
returns-else-is_nan c = rw (← c.if-not-is_nan.ensures.value, nan_bits_is binary64 c.args.own, ← c.f64_from_bits_with_nan.ensures, ← c.if-is_nan.ensures.value)
