-- What a reader of the code answers: a value, and the rest of the text.
use Rattle.std.specs.Prelude.{List, ℕ, Option, length}
use Rattle.std.specs.Option.{option_map}
use Rattle.std.specs.Borrow.{Bor}
use Rattle.text_format.specs.Format.{Parsed}

-- the value, and the rest itself in place of the reference to it
abbrev pub as_read : {A : Type 0} → Option (A × Bor (List ℕ)) → Parsed A
as_read r = option_map (λ p. (p.0, p.1.now)) r

-- of a list that was read: how many
abbrev pub counted : {A : Type 0} → Parsed (List A) → Parsed ℕ
counted q = option_map (λ p. (length p.0, p.1)) q
