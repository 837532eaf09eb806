-- `text_format::hex`: what is left to be read gives the whole, and the digits that are left fit 64 bits behind those that made v.
use mathlib.Core.Path.{◌≡◌}
use Prim.Native.Nat.{◌+◌, ◌-◌, ◌*◌, ◌^◌, ◌≤◌}
use lib.ListN.{drop}
use Rattle.text_format.specs.Format.{read_digits}
use Rattle.text_format.proofs.hex.Given as goal

abbrev pub invariant-loop-b : goal.invariant-loop-b
invariant-loop-b l = record {
  fits : (l.v + 1) * 16 ^ (16 - l.b-index) ≤ 16 ^ 16;
  left : read_digits 16 (16 - l.b-index) l.v (drop l.b-index l.s) ≡ read_digits 16 16 0 l.s;
}
