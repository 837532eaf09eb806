-- Bytes that wait in a buffer of 4,096 to be written. Definitions only.
use Rattle.std.specs.Prelude.{◌≡◌, ⊤, cond, List, [], ◌∷◌, ◌++◌, ℕ, ◌+◌, length, ltb}
use Rattle.std.specs.Borrow.{Bor, MutBor}
use Rattle.text_format.specs.Table.{end_byte}

-- one byte more; a full buffer is written first
unfoldable pub put_one : ℕ → List ℕ → List ℕ
put_one b w = cond (ltb (length w) 4096) (w ++ b ∷ []) (b ∷ [])

-- bytes, one behind the other
unfoldable pub puts : List ℕ → List ℕ → List ℕ
puts [] w = w
puts (b ∷ l) w = puts l (put_one b w)

-- a line of what is in a list, from number i on, by the text of each
unfoldable pub line_from : {T : Type 0} → (ℕ → T → ℕ → List ℕ) → ℕ → List T → List ℕ
line_from text i [] = []
line_from text i (x ∷ l) = text i x (end_byte l) ++ line_from text (i + 1) l

-- a closure puts the text of what it is given, by its number and the byte behind it
abbrev pub PutsEach : {T F : Type 0} → (F → ℕ → Bor T → ℕ → MutBor (List ℕ) → ⊤ → MutBor (List ℕ) → Type 0) → F → (ℕ → T → ℕ → List ℕ) → Type 0
PutsEach {T} post put text = (i : ℕ) (x : Bor T) (end : ℕ) (w w' : MutBor (List ℕ)) → post put i x end w tt w' → w'.now ≡ puts (text i x.now end) w.now
