-- `arith_root::positive` meets its contract. A subnormal b is its own digits (`Moved`), and of the others the field and the digits say what
-- `Scaled` asks; so `root_bits` gives the pattern of the root. Assumes nothing.
use Rattle.std.proofs.Common.{◌≡◌, ℕ, zero, suc, ◌+◌, ◌-◌, ◌*◌, ◌/◌, ◌%◌, ◌^◌, ◌<◌, ◌≤◌, refl, ap, ◌∙◌, mod-lt, arith, lit<}
use lib.Arith.{digits_div, digits_mod}
use lib.Count.{count_leading_zeros}
use lib.Ieee.{of_bits, binary64}
use Rattle.arith_root.specs.Root.{near_root, root_of}
use Rattle.arith_root.proofs.Grid.{under, room, Moved, moved, units_of, positive_units, scaled_normal, root_bits, root_of_bits}
use Rattle.arith_root.proofs.positive.Goals as goal

abbrev digits : ℕ → ℕ
digits b = b * 2 ^ (count_leading_zeros 64 b - 11) % 2 ^ 64

abbrev count : ℕ → ℕ
count b = 64 - count_leading_zeros 64 b

found : (b : ℕ) → 0 < b → b / 2 ^ 52 ≡ 0 → Moved b (count_leading_zeros 64 b)
found b p e = moved b p (omega arith)

-- the digits m in a pattern with the parity of z
abbrev pattern : ℕ → ℕ → ℕ
pattern m z = z % 2 * 2 ^ 52 + m % 2 ^ 52

same-under : (m z : ℕ) → 2 ^ 52 ≤ m → m < 2 ^ 53 → under (pattern m z % 2 ^ 52 + 2 ^ 52) (pattern m z / 2 ^ 52) ≡ under m z
same-under m z lo hi =
    let l : m % 2 ^ 52 < 2 ^ 52 = mod-lt m (lit< tt) in
    let a : pattern m z % 2 ^ 52 + 2 ^ 52 ≡ m = rw (digits_mod (z % 2) l) (omega arith) in
    let b : pattern m z / 2 ^ 52 % 2 ≡ z % 2 = rw (digits_div (z % 2) l) (omega arith) in
    ap (λ (x : ℕ). x * (2 - pattern m z / 2 ^ 52 % 2) * 2 ^ 52) a ∙ ap (λ (x : ℕ). m * (2 - x) * 2 ^ 52) b

rooted : (b q : ℕ) → 0 < b → b / 2 ^ 52 ≡ 0 → q ≡ near_root (under (pattern (digits b) (count b) % 2 ^ 52 + 2 ^ 52) (pattern (digits b) (count b) / 2 ^ 52))
    → q ≡ near_root (under (digits b) (count b))
rooted b q p e h = let m = (found b p e).scaled in h ∙ ap near_root (same-under (digits b) (count b) m.least m.most)

subnormal : (b q : ℕ) → 0 < b → b / 2 ^ 52 ≡ 0 → q ≡ near_root (under (digits b) (count b))
    → of_bits binary64 (((count b + 1) / 2 + 484) * 2 ^ 52 + q) ≡ root_of (of_bits binary64 b)
subnormal b q p e h =
    ap (λ (x : ℕ). of_bits binary64 (((count b + 1) / 2 + 484) * 2 ^ 52 + x)) h
    ∙ root_bits b (digits b) (count b) (found b p e).scaled
    ∙ root_of_bits b 0 b (omega arith) e (omega arith) p

normal : (b y q : ℕ) → b < 2047 * 2 ^ 52 → b / 2 ^ 52 ≡ y → (y ≡ 0 → ⊥) → q ≡ near_root (under (b % 2 ^ 52 + 2 ^ 52) y)
    → of_bits binary64 (((y + 53) / 2 + 484) * 2 ^ 52 + q) ≡ root_of (of_bits binary64 b)
normal b zero q h e n g = absurd (n refl)
normal b (suc x) q h e n g =
    let t = b % 2 ^ 52 in
    let z = suc x + 52 in
    let u : suc x + 53 ≡ z + 1 = omega arith in
    let v : suc x % 2 ≡ z % 2 = omega arith in
    ap (λ (y : ℕ). of_bits binary64 (((suc x + 53) / 2 + 484) * 2 ^ 52 + y)) (g ∙ ap (λ (y : ℕ). near_root ((t + 2 ^ 52) * (2 - y) * 2 ^ 52)) v)
    ∙ ap (λ (y : ℕ). of_bits binary64 ((y / 2 + 484) * 2 ^ 52 + near_root (under (t + 2 ^ 52) z))) u
    ∙ root_bits (units_of (suc x) t) (t + 2 ^ 52) z (scaled_normal x t (omega arith) (omega arith))
    ∙ root_of_bits b (suc x) t h e refl (positive_units (suc x) t (omega arith))

pub overflow_sub-m : goal.overflow_sub-m
overflow_sub-m c = (found c.args.b c.requires.0 c.if-field-eq0.true).low

pub overflow_add-result-then-field-eq0-2 : goal.overflow_add-result-then-field-eq0-2
overflow_add-result-then-field-eq0-2 c =
    let b = c.args.b in
    let m = (found b c.requires.0 c.if-field-eq0.true).scaled in
    record {
      fits =
          room (digits b) (count b) m.least m.most ((count b + 1) / 2 + 484) c.near_root.result (omega arith)
          (rooted b c.near_root.result c.requires.0 c.if-field-eq0.true c.near_root.ensures);
    }

pub overflow_add-result-else-field-eq0-3 : goal.overflow_add-result-else-field-eq0-3
overflow_add-result-else-field-eq0-3 c =
    let b = c.args.b in
    record {
      fits =
          room (b % 2 ^ 52 + 2 ^ 52) (b / 2 ^ 52) (omega arith) (omega arith) ((b / 2 ^ 52 + 53) / 2 + 484) c.near_root-else-field-eq0.result
          (omega arith) c.near_root-else-field-eq0.ensures;
    }

pub returns-then-field-eq0 : goal.returns-then-field-eq0
returns-then-field-eq0 c =
    subnormal c.args.b c.near_root.result c.requires.0 c.if-field-eq0.true
    (rooted c.args.b c.near_root.result c.requires.0 c.if-field-eq0.true c.near_root.ensures)

pub returns-else-field-eq0 : goal.returns-else-field-eq0
returns-else-field-eq0 c = normal c.args.b (c.args.b / 2 ^ 52) c.near_root-else-field-eq0.result c.requires.1 refl c.if-field-eq0.false c.near_root-else-field-eq0.ensures
