-- `text_format::one_of`: the words from i on are left to be tried.
use mathlib.Core.Path.{◌≡◌}
use mathlib.Core.List.{map}
use Prim.Native.Nat.{◌+◌}
use lib.ListN.{drop}
use Rattle.text_format.specs.Format.{read_word}
use Rattle.text_format.proofs.one_of.Given as goal

abbrev pub invariant-loop-i : goal.invariant-loop-i
invariant-loop-i l = read_word (l.i + 1) (map (λ w. w.now) (drop l.i l.words)) l.s ≡ read_word 1 (map (λ w. w.now) l.words) l.s
