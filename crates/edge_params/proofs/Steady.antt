-- A list of floats whose pairs all stand in one order runs one way, and so does each of its sublists, either way round.
-- Assumes nothing.
use Rattle.std.proofs.Common.{T, List, [], ◌∷◌, reverse, ⊎_elim}
use lib.Ieee.{Float}
use Rattle.arith_order.proofs.Laws.{number, le_total, lt→le, lt→nle}
use Rattle.base_lists.specs.Own.Way.{Up, Down}
use Rattle.base_lists.specs.All.{none, more}
use Rattle.base_lists.specs.Own.Sub.{Pairwise, empty, first, Sub}
use Rattle.base_lists.proofs.Order.{sub_pairwise}
use Rattle.base_lists.proofs.Joined.{all_one, pair_reverse}
use Rattle.edge_params.specs.OneWay.{Rises, rise, later, Falls, fall, after, OneWay}

pub data Steady : List Float → Type 0 where
  rising : {l : List Float} → Pairwise Up l → Steady l
  falling : {l : List Float} → Pairwise Down l → Steady l

up_no_fall : (l : List Float) → Pairwise Up l → Falls l → ⊥
up_no_fall _ empty f = elim f [ ]
up_no_fall l (first (more p q) h) (fall {a = a} {b = b} g) = lt→nle b a g p
up_no_fall l (first {l = k} p h) (after g) = up_no_fall k h g

down_no_rise : (l : List Float) → Pairwise Down l → Rises l → ⊥
down_no_rise _ empty r = elim r [ ]
down_no_rise l (first (more p q) h) (rise {a = a} {b = b} g) = lt→nle a b g p
down_no_rise l (first {l = k} p h) (later g) = down_no_rise k h g

pub steady_one_way : {l : List Float} → Steady l → OneWay l
steady_one_way {l} (rising h) r f = up_no_fall l h f
steady_one_way {l} (falling h) r f = down_no_rise l h r

pub steady_sub : {k l : List Float} → Sub k l → Steady l → Steady k
steady_sub s (rising h) = rising (sub_pairwise s h)
steady_sub s (falling h) = falling (sub_pairwise s h)

pub steady_reverse : (l : List Float) → Steady l → Steady (reverse l)
steady_reverse l (rising h) = falling (pair_reverse l h)
steady_reverse l (falling h) = rising (pair_reverse l h)

-- ---- a chord's two parameters: whatever they are, they run one way
one_no_rise : (a : Float) → Rises (a ∷ []) → ⊥
one_no_rise a (later r) = none_rises r
  where
    none_rises : Rises [] → ⊥
    none_rises = elim [ ]

one_no_fall : (a : Float) → Falls (a ∷ []) → ⊥
one_no_fall a (after r) = none_falls r
  where
    none_falls : Falls [] → ⊥
    none_falls = elim [ ]

pub two_one_way : (a b : Float) → OneWay (a ∷ b ∷ [])
two_one_way a b (rise p) (fall q) = lt→nle a b p (lt→le b a q)
two_one_way a b (later r) f = one_no_rise b r
two_one_way a b (rise p) (after f) = one_no_fall b f

-- two numbers stand in one order or the other
pub two_steady : (a b : Float) → T (number a) → T (number b) → Steady (a ∷ b ∷ [])
two_steady a b A B =
    ⊎_elim (λ h. rising (first (all_one h) (first none empty))) (λ h. falling (first (all_one h) (first none empty)))
    (le_total a b A B)
