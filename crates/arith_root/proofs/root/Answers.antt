-- `arith_root::root` meets its contract: each test is one of the root's special cases, and `positive` has the rest; and the definition is IEEE
-- 754's root. Assumes nothing.
use Rattle.std.proofs.Common.{◌≡◌, ℕ, Bool, not, T, sym, ap, ◌∙◌, subst, rules}
use lib.Ieee.{Float, nan, inf, fin, binary64, of_bits, fits, is_nan, nan_bits}
use lib.Ieee.Bits.{of_bits-to_bits, nan_bits_is}
use lib.Ieee.Positive.{positive}
use Rattle.arith_root.specs.Root.{root_of}
use Rattle.arith_root.specs.Ieee.{Units}
use Rattle.arith_root.proofs.Cases.{nan_root, zero_root, neg_root, inf_root, left, pattern_range}
use Rattle.arith_root.proofs.Ieee.{nearest_root, as_ieee}
use Rattle.arith_root.proofs.root.Goals as goal

no_nan : (x : Float) → T (positive x) → T (not (is_nan x))
unfolding is_nan
no_nan nan p = absurd p
no_nan (inf s) p = tt
no_nan (fin s m e) p = tt

-- the root's value says that it is no NaN
no-nan-units : (x : Float) (a : ℕ) → Units x a → T (not (is_nan x))
unfolding is_nan
no-nan-units nan a u = absurd u
no-nan-units (inf s) a u = tt
no-nan-units (fin s m e) a u = tt

no-nan-bits : (x : Float) (r : ℕ) → T (fits binary64 x) → T (positive x) → of_bits binary64 r ≡ root_of x → T (not (nan_bits binary64 r))
no-nan-bits x r F p h =
    let n = (nearest_root x F p).2 in
    subst (λ (o : Bool). T (not o)) (sym (nan_bits_is binary64 r ∙ ap is_nan h)) (no-nan-units (root_of x) n.a n.value)

pub returns-then-is_nan : goal.returns-then-is_nan
returns-then-is_nan c = let x = c.args.x in as_ieee x x (search rules) (nan_root x (sym c.is_nan.ensures.value ∙ c.if-is_nan.true))

pub returns-then-x : goal.returns-then-x
unfolding of_bits
returns-then-x c = let x = c.args.x in as_ieee x x (search rules) (zero_root x c.if-x.true)

pub returns-then-x-2 : goal.returns-then-x-2
unfolding of_bits
returns-then-x-2 c = let x = c.args.x in as_ieee x _ (search rules) (neg_root x c.if-x-2.true)

pub returns-then-x-3 : goal.returns-then-x-3
unfolding of_bits
returns-then-x-3 c = let x = c.args.x in as_ieee x x (search rules) (inf_root x c.if-x-3.true)

pub positive-requires : goal.positive-requires
unfolding of_bits
positive-requires c = pattern_range c.args.x (search rules) (left c.args.x (sym c.is_nan.ensures.value ∙ c.if-is_nan.false) c.if-x.false c.if-x-2.false c.if-x-3.false)

pub float_from_bits-result : goal.float_from_bits-result
unfolding of_bits
float_from_bits-result c =
    let x = c.args.x in
    no-nan-bits x c.positive.result (search rules) (left c.args.x (sym c.is_nan.ensures.value ∙ c.if-is_nan.false) c.if-x.false c.if-x-2.false c.if-x-3.false)
    (c.positive.ensures ∙ ap root_of (of_bits-to_bits binary64 x (search rules)))

pub returns : goal.returns
returns c =
    let x = c.args.x in
    as_ieee x _ (search rules) (c.positive.ensures ∙ ap root_of (of_bits-to_bits binary64 x (search rules)))
