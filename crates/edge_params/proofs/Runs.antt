-- Lists of parameters that run from one float to another in an order R, which may be up or down: even steps, the middles of
-- bisection, the walk over the breaks. Assumes nothing.
use Rattle.std.proofs.Common.{ℕ, zero, suc, ◌^◌, ◌<◌, ◌≤◌, Bool, true, false, T, List, [], ◌∷◌, ◌++◌, arith}
use lib.Ieee.{Float, binary64, of_bits, le, ne, fits}
use lib.Ieee.Fits.{mul-fits}
use Rattle.arith.specs.Notation.{◌⊕◌, half}
use Rattle.math.specs.declared.Interval.{Interval}
use Rattle.math.specs.Math.{at}
use Rattle.arith_order.proofs.Laws.{number, number_left, le_trans, le_refl, Modest, middle, middle_down, rises, falls}
use Rattle.arith_order.proofs.Modest.{big}
use Rattle.base_lists.specs.Own.Way.{Up, Down}
use Rattle.base_lists.specs.All.{All, none, more}
use Rattle.base_lists.specs.Own.Sub.{Pairwise, empty, first}
use Rattle.base_lists.proofs.Joined.{all_join, all_one, pair_snoc, Within, within_none, within_join, within_mid, within_ends}
use Rattle.edge_params.specs.Params.{midpoint, Sampler, step_at, steps, evenly, unless_hi}
use Rattle.edge_params.specs.Own.Bisected.{subdivided, walked, through}

-- a float that sampling can halve: of the format, and at most 2 ^ 60
pub record Good (x : Float) : Type 0 where
  pub fits64 : T (fits binary64 x)
  pub modest : Modest x

pub good_number : {x : Float} → Good x → T (number x)
good_number {x} X = number_left x (big 60 false) X.modest.1

pub good_between : (a x b : Float) → Good a → Good b → T (fits binary64 x) → T (le a x) → T (le x b) → Good x
good_between a x b A B F p q = record {
  fits64 = F;
  modest = (le_trans (big 60 true) a x A.modest.0 p, le_trans x b (big 60 false) q B.modest.1);
}

-- ---- an order that middles and even steps keep
pub record Middle (R : Float → Float → Type 0) (a b : Float) : Type 0 where
  pub from : R a (midpoint a b)
  pub to : R (midpoint a b) b
  pub good : Good (midpoint a b)

pub record Order (R : Float → Float → Type 0) : Type 0 where
  pub same : (a : Float) → Good a → R a a
  pub trans : (x y z : Float) → R x y → R y z → R x z
  pub middle_of : (a b : Float) → Good a → Good b → R a b → Middle R a b
  pub step_on : (range : Interval) (n i j : ℕ) → Good range.lo → Good range.hi → 0 < n → n ≤ 2 ^ 53
      → i ≤ j → j ≤ n → R range.lo range.hi → R (step_at range n i) (step_at range n j)

module _ (R : Float → Float → Type 0) (o : Order R) where
  -- ---- even steps
  module _ (range : Interval) (n : ℕ) (L : Good range.lo) (H : Good range.hi) (h : R range.lo range.hi)
      (np : 0 < n) (nb : n ≤ 2 ^ 53) where
    steps_before : (k j : ℕ) → k ≤ suc j → j ≤ n → All (λ x. R x (step_at range n j)) (steps range n k)
    unfolding steps
    steps_before zero j p q = none
    steps_before (suc k) j p q =
        all_join (steps_before k j (omega arith) q) (all_one (o.step_on range n k j L H np nb (omega arith) q h))

    steps_pairs : (k : ℕ) → k ≤ suc n → Pairwise R (steps range n k)
    unfolding steps
    steps_pairs zero p = empty
    steps_pairs (suc k) p =
        pair_snoc (steps_pairs k (omega arith)) (steps_before k k (omega arith) (omega arith))

  pub evenly_pairs : (range : Interval) (n : ℕ) → Good range.lo → Good range.hi → R range.lo range.hi
      → n ≤ 2 ^ 53 → Pairwise R (evenly range n)
  unfolding steps
  evenly_pairs range zero L H h nb = first none empty
  evenly_pairs range (suc n) L H h nb = steps_pairs range (suc n) L H h (omega arith) nb (suc (suc n)) (omega arith)

  -- ---- what subdivide pushes
  pub subdivided_within : (within : Float → Float → Bool) (depth : ℕ) (a b : Float) → Good a → Good b → R a b
      → Within R a (subdivided within depth a b) b
  unfolding subdivided
  subdivided_within within zero a b A B h = within_none R o.trans a b
  subdivided_within within (suc depth) a b A B h =
      let m = midpoint a b in
      let M = o.middle_of a b A B h in
      go (within a b)
      (within_mid R o.trans a m b M.from M.to (o.same m M.good)
      (subdivided_within within depth a m A M.good M.from) (subdivided_within within depth m b M.good B M.to))
    where
      go : (t : Bool) {l : List Float} → Within R a l b → Within R a (elim t [ true ↦ [] | false ↦ l ]) b
      go true w = within_none R o.trans a b
      go false w = w

  -- ---- the walk over breaks that stand in order between left and the range's end
  module _ (s : Sampler) (range : Interval) (H : Good range.hi) where
    unless_within : (b : Float) {l : List Float} → Good b → R b range.hi → Within R b l range.hi
        → Within R b (unless_hi range b ++ l) range.hi
    unfolding unless_hi
    unless_within b B h w = go (ne b range.hi) w
      where
        go : (t : Bool) {l : List Float} → Within R b l range.hi
            → Within R b (elim t [ true ↦ b ∷ [] | false ↦ [] ] ++ l) range.hi
        go true w =
            within_mid R o.trans b b range.hi (o.same b B) h (o.same b B) (within_none R o.trans b b) w
        go false w = w

    span_within : (left b : Float) {l : List Float} → Good left → Good b → R left b → R b range.hi
        → Within R b l range.hi
        → Within R left (subdivided s.within s.depth left b ++ (unless_hi range b ++ l)) range.hi
    span_within left b L B p q w =
        within_join R o.trans left b range.hi p q (subdivided_within s.within s.depth left b L B p)
        (unless_within b B q w)

    walked_within : (left : Float) (bs : List Float) → Good left → All Good bs → R left range.hi
        → All (R left) bs → All (λ b. R b range.hi) bs → Pairwise R bs
        → Within R left (walked s range left (bs ++ (range.hi ∷ []))) range.hi
    unfolding walked
    walked_within left [] L none h none none empty =
        span_within left range.hi L H h (o.same range.hi H) (within_none R o.trans range.hi range.hi)
    walked_within left (b ∷ bs) L (more B G) h (more p P) (more q Q) (first r rs) =
        span_within left b L B p q (walked_within b bs B G q r Q rs)

    pub through_pairs : (bs : List Float) → Good range.lo → All Good bs → R range.lo range.hi
        → All (R range.lo) bs → All (λ b. R b range.hi) bs → Pairwise R bs → Pairwise R (through s range bs)
    unfolding through
    through_pairs bs L G h p q r =
        within_ends R o.trans range.lo range.hi (o.same range.lo L) h (o.same range.hi H)
        (walked_within range.lo bs L G h p q r)

-- ---- the two orders
good_same : (a : Float) → Good a → T (le a a)
good_same a A = le_refl a (good_number A)

midpoint_good : (a b x y : Float) → Good x → Good y → T (le x (midpoint a b)) → T (le (midpoint a b) y) → Good (midpoint a b)
midpoint_good a b x y X Y p q = good_between x (midpoint a b) y X Y (mul-fits binary64 half (a ⊕ b)) p q

pub up : Order Up
unfolding at of_bits
up = record {
  same = good_same;
  trans = le_trans;
  middle_of = λ a b A B h.
      let m = middle a b A.fits64 B.fits64 A.modest B.modest h in
      record { from = m.0; to = m.1; good = midpoint_good a b a b A B m.0 m.1 };
  step_on = λ range n i j L H np nb p q h. rises range.lo range.hi n i j L.modest H.modest np nb p q h;
}

pub down : Order Down
unfolding at of_bits
down = record {
  same = good_same;
  trans = λ x y z p q. le_trans z y x q p;
  middle_of = λ a b A B h.
      let m = middle_down a b A.fits64 B.fits64 A.modest B.modest h in
      record { from = m.1; to = m.0; good = midpoint_good a b b a B A m.0 m.1 };
  step_on = λ range n i j L H np nb p q h. falls range.lo range.hi n i j L.modest H.modest np nb p q h;
}
