-- `arith_root::by_digits` meets its contract. After i digits w is n * 2 ^ (2 * i + 10), root and rest are those of w / 2 ^ 64, and left is w % 2 ^ 64.
-- Assumes nothing.
use Rattle.std.proofs.Common.{◌≡◌, ℕ, ◌+◌, ◌*◌, ◌/◌, ◌%◌, ◌^◌, ◌≤◌}
use Rattle.arith_root.proofs.by_digits.Given as goal

abbrev w : ℕ → ℕ → ℕ
w n i = n * 2 ^ (2 * i + 10)

abbrev pub invariant-loop : goal.invariant-loop
invariant-loop l = record {
  value : l.digits.root * l.digits.root + l.digits.rest ≡ w l.n l.counter / 2 ^ 64;
  small : l.digits.rest ≤ 2 * l.digits.root;
  rest : l.left ≡ w l.n l.counter % 2 ^ 64;
}
