-- `text_digits::hex` meets its contract. Assumes nothing.
use Rattle.text_format.specs.Format.{◌ending◌}
use Rattle.text_digits.proofs.hex.Goals as goal

pub returns : goal.returns
unfolding ◌ending◌
returns c = rw c.put_digits.ensures
