-- The parameters that sampling gives stand in one order. Assumes nothing.
use Rattle.std.specs.Prelude.{Ok}
use Rattle.std.proofs.Common.{◌≡◌, ℕ, ◌^◌, ◌≤◌, Bool, true, false, cond, T, List, [], ◌∷◌, reverse, refl, arith}
use lib.Ieee.{Float, binary64, fits, le, lt}
use Rattle.arith.specs.Notation.{plus_zero}
use Rattle.math.specs.declared.Interval.{Interval}
use Rattle.arith_order.proofs.Laws.{lt→le, nlt→le}
use Rattle.base_lists.specs.Own.Way.{Up, Down}
use Rattle.base_lists.specs.All.{All}
use Rattle.base_lists.specs.Own.Sub.{Sub, end, keep, skip}
use Rattle.base_lists.proofs.Joined.{Within, all_map, all_reverse, pair_reverse}
use Rattle.base_lists.proofs.Parts.{all_both}
use Rattle.base_lists.proofs.Order.{sub_all, sub_pairwise, sub_same}
use Rattle.knots_inside.proofs.Between.{Between}
use Rattle.knots_inside.specs.Thinned.{next_of, thinned_from, thin_breaks}
use Rattle.edge_params.specs.Params.{Sampler, evenly, breaks_along}
use Rattle.edge_params.specs.Own.Bisected.{through, bisected}
use Rattle.edge_params.specs.Own.InRoom.{sample_params_in}
use Rattle.edge_params.proofs.Steady.{Steady, rising, falling}
use Rattle.edge_params.proofs.Runs.{Good, good_number, good_between, up, down, evenly_pairs, through_pairs}
use Rattle.edge_params.proofs.Lists.{gives_got, sampled_gives}

-- a range and breaks that can be sampled
pub record Sampleable (s : Sampler) (range : Interval) : Type 0 where
  pub low : Good range.lo
  pub high : Good range.hi
  pub fit : All (λ b. T (fits binary64 b)) s.breaks
  pub between : Between range.lo range.hi s.breaks

-- floats of the format that run from one good float up to another are good
goods : {a b : Float} {l : List Float} → Good a → Good b → All (λ x. T (fits binary64 x)) l → Within Up a l b → All Good l
goods {a} {b} A B F w =
    all_map (λ x p. good_between a x b A B p.0 p.1.0 p.1.1) (all_both F (all_both w.from w.to))

module _ (s : Sampler) (range : Interval) (sampleable : Sampleable s range) where
  rising_ends : lt range.hi range.lo ≡ false → T (le range.lo range.hi)
  rising_ends e = nlt→le range.hi range.lo (good_number sampleable.high) (good_number sampleable.low) (rw e tt)

  falling_ends : lt range.hi range.lo ≡ true → T (le range.hi range.lo)
  falling_ends e = lt→le range.hi range.lo (rw e tt)

  evenly_steady : (n : ℕ) → n ≤ 2 ^ 53 → Steady (evenly range n)
  evenly_steady n h = go (lt range.hi range.lo) refl
    where
      go : (t : Bool) → lt range.hi range.lo ≡ t → Steady (evenly range n)
      go true e = falling (evenly_pairs Down down range n sampleable.low sampleable.high (falling_ends e) h)
      go false e = rising (evenly_pairs Up up range n sampleable.low sampleable.high (rising_ends e) h)

  bisected_steady : Steady (bisected s range)
  unfolding breaks_along
  bisected_steady = go (lt range.hi range.lo) refl sampleable.between
    where
      go : (t : Bool) → lt range.hi range.lo ≡ t
          → cond t (Within Up range.hi s.breaks range.lo) (Within Up range.lo s.breaks range.hi)
          → Steady (through s range (elim t [ true ↦ reverse s.breaks | false ↦ s.breaks ]))
      go true e w =
          falling
          (through_pairs Down down s range sampleable.high (reverse s.breaks) sampleable.low
          (all_reverse s.breaks (goods sampleable.high sampleable.low sampleable.fit w)) (falling_ends e)
          (all_reverse s.breaks w.to) (all_reverse s.breaks w.from) (pair_reverse s.breaks w.pairs))
      go false e w =
          rising
          (through_pairs Up up s range sampleable.high s.breaks sampleable.low
          (goods sampleable.low sampleable.high sampleable.fit w) (rising_ends e) w.from w.to w.pairs)

  -- ---- what a caller cites
  module _ (room : ℕ) (small : room ≤ 2 ^ 53) (l : List Float) (e : sample_params_in room s range ≡ Ok l) where
    pub sampled_steady : Steady l
    sampled_steady =
        gives_got l
        (sampled_gives Steady room s range (λ n h. evenly_steady n (omega arith)) (λ h. bisected_steady)) e

-- ---- thin_breaks leaves breaks out
thinned_sub : (deviation : Float → Float → Float) (sag hi start : Float) (bs : List Float)
    → Sub (thinned_from deviation sag hi start bs) bs
unfolding thinned_from
thinned_sub deviation sag hi start [] = end
thinned_sub deviation sag hi start (b ∷ bs) =
    go (lt sag (deviation start (next_of hi bs))) (thinned_sub deviation sag hi b bs) (thinned_sub deviation sag hi start bs)
  where
    go : (t : Bool) {k m : List Float} → Sub k bs → Sub m bs → Sub (elim t [ true ↦ b ∷ k | false ↦ m ]) (b ∷ bs)
    go true u v = keep u
    go false u v = skip v

thin_sub : (bs : List Float) (lo hi sag : Float) (deviation : Float → Float → Float)
    → Sub (thin_breaks bs lo hi sag deviation) bs
unfolding thin_breaks
thin_sub bs lo hi sag deviation = go (lt plus_zero sag)
  where
    go : (t : Bool) → Sub (elim t [ true ↦ thinned_from deviation sag hi lo bs | false ↦ bs ]) bs
    go true = thinned_sub deviation sag hi lo bs
    go false = sub_same bs

within_sub : {a b : Float} {k l : List Float} → Sub k l → Within Up a l b → Within Up a k b
within_sub s w = record { from = sub_all s w.from; to = sub_all s w.to; pairs = sub_pairwise s w.pairs }

between_sub : (lo hi : Float) {k l : List Float} → Sub k l → Between lo hi l → Between lo hi k
between_sub lo hi {k} {l} s = go (lt hi lo)
  where
    go : (t : Bool) → cond t (Within Up hi l lo) (Within Up lo l hi) → cond t (Within Up hi k lo) (Within Up lo k hi)
    go true w = within_sub s w
    go false w = within_sub s w

-- ---- what a caller shows of its range: the breaks are what thin_breaks leaves of some that lie between its ends
module _ (s : Sampler) (range : Interval) (inside : List Float) (sag : Float) (deviation : Float → Float → Float)
    (e : s.breaks ≡ thin_breaks inside range.lo range.hi sag deviation) where
  leaves : Sub s.breaks inside
  leaves = rw e (thin_sub inside range.lo range.hi sag deviation)

  pub thin_sampleable : All (λ k. T (fits binary64 k)) inside → Between range.lo range.hi inside → Good range.lo → Good range.hi → Sampleable s range
  thin_sampleable F B L H = record {
    low = L;
    high = H;
    fit = sub_all leaves F;
    between = between_sub range.lo range.hi leaves B;
  }
