-- `arith_root::by_digits` meets its contract. After i digits w is n * 2 ^ (2 * i + 10), root and rest are those of w / 2 ^ 64, and left is w % 2 ^ 64.
-- Assumes nothing.
use Rattle.std.proofs.Common.{◌≡◌, ℕ, ◌+◌, ◌*◌, ◌/◌, ◌%◌, ◌^◌, ◌<◌, ◌≤◌, sym, ap, ◌∙◌, lt_of_le_of_lt, le_of_lt, mul_assoc, div-lt_iff_lt-mul, mul-le-mul, mul-div_cancel, arith, lit<, pow_pos, pow_mono, pow-add}
use Rattle.arith_root.proofs.Whole.{sq_lt, is_r, is_next}
use Rattle.arith_root.proofs.by_digits.Goals as goal

abbrev w : ℕ → ℕ → ℕ
w n i = n * 2 ^ (2 * i + 10)

next : (n i : ℕ) → w n i * 4 ≡ w n (i + 1)
next n i =
    let e : 2 * i + 10 + 2 ≡ 2 * (i + 1) + 10 = omega arith in
    mul_assoc n (2 ^ (2 * i + 10)) 4 ∙ ap (λ (x : ℕ). n * x) (sym (pow-add 2 (2 * i + 10) 2) ∙ ap (λ (x : ℕ). 2 ^ x) e)

-- two digits more of v / 2 ^ 64 are the two on top of v % 2 ^ 64
sums : (a left v : ℕ) → a ≡ v / 2 ^ 64 → left ≡ v % 2 ^ 64 → 4 * a + left / 2 ^ 62 ≡ v * 4 / 2 ^ 64
sums a left v h k = omega arith

lefts : (left v : ℕ) → left ≡ v % 2 ^ 64 → left * 4 % 2 ^ 64 ≡ v * 4 % 2 ^ 64
lefts left v h = omega arith

low : (r rest v : ℕ) → r * r + rest ≡ v → v < 2 ^ 106 → r < 2 ^ 53
low r rest v e h = sq_lt r (2 ^ 53) (omega arith)

in_loop : (n i : ℕ) → n < 2 ^ 54 → i < 53 → w n i / 2 ^ 64 < 2 ^ 106
in_loop n i h k = (div-lt_iff_lt-mul {k = 2 ^ 64} (lit< tt)).1 (lt_of_le_of_lt (mul-le-mul (le_of_lt h) (pow_mono {j = 114} (omega arith))) (lit< tt))

-- after the last digit
all : (n i a : ℕ) → i ≤ 53 → 53 ≤ i → a ≡ w n i / 2 ^ 64 → a ≡ n * 2 ^ 52
all n i a h k e =
    let z : i ≡ 53 = omega arith in
    e ∙ ap (λ (x : ℕ). w n x / 2 ^ 64) z ∙ ap (λ (x : ℕ). x / 2 ^ 64) (sym (mul_assoc n (2 ^ 52) (2 ^ 64))) ∙ mul-div_cancel (n * 2 ^ 52) (pow_pos 64)

wide : (n : ℕ) → n < 2 ^ 54 → n * 2 ^ 52 < 2 ^ 106
wide n h = omega arith

some : (n : ℕ) → 0 < n → 0 < n * 2 ^ 52
some n h = omega arith

pub with-digits-requires : goal.with-digits-requires
with-digits-requires c =
    let d = c.loop.digits in
    let v = c.loop.invariant in
    (v.small, low d.root d.rest (w c.args.n c.loop.counter / 2 ^ 64) v.value (in_loop c.args.n c.loop.counter c.requires.1 c.loop-test.true), omega arith)

pub loop-preserved : goal.loop-preserved
loop-preserved c =
    let d = c.loop.digits in
    let v = c.loop.invariant in
    let n = c.args.n in
    let e = next n c.loop.counter in
    record {
      value = c.with-digits.ensures.0 ∙ sums (d.root * d.root + d.rest) c.loop.left (w n c.loop.counter) v.value v.rest ∙ ap (λ (x : ℕ). x / 2 ^ 64) e;
      small = c.with-digits.ensures.1;
      rest = lefts c.loop.left (w n c.loop.counter) v.rest ∙ ap (λ (x : ℕ). x % 2 ^ 64) e;
    }

pub overflow_add-result : goal.overflow_add-result
overflow_add-result c =
    let d = c.loop.digits in
    let n = c.args.n in
    let e = all n c.loop.counter (d.root * d.root + d.rest) c.loop.auto.counter-end c.loop-test.false c.loop.invariant.value in
    record { fits = more d.root (low d.root d.rest (n * 2 ^ 52) e (wide n c.requires.1)) }
  where
    more : (r : ℕ) → r < 2 ^ 53 → r + 1 < 2 ^ 64
    more r h = omega arith

pub returns-then-root-rest : goal.returns-then-root-rest
returns-then-root-rest c =
    let d = c.loop.digits in
    let n = c.args.n in
    let e = all n c.loop.counter (d.root * d.root + d.rest) c.loop.auto.counter-end c.loop-test.false c.loop.invariant.value in
    is_next d.root d.rest (n * 2 ^ 52) e (wide n c.requires.1) c.if-root-rest.true (omega (arith, c.loop.invariant.small))

pub returns-else-root-rest : goal.returns-else-root-rest
returns-else-root-rest c =
    let d = c.loop.digits in
    let n = c.args.n in
    let e = all n c.loop.counter (d.root * d.root + d.rest) c.loop.auto.counter-end c.loop-test.false c.loop.invariant.value in
    is_r d.root d.rest (n * 2 ^ 52) e (some n c.requires.0) (wide n c.requires.1) c.if-root-rest.false
