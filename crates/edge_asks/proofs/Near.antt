-- A hyperbola over a range whose ends are near: nothing that sampling asks for is too far. And what may ask has no closed form. Assumes nothing.
use Rattle.std.specs.Prelude.{None}
use Rattle.std.proofs.Common.{◌≡◌, ℕ, zero, suc, Bool, true, false, ◌&&◌, T, ◌⊎◌, List, [], ◌∷◌, ◌++◌, reverse, length, sym, refl, ap, ◌∙◌, inl, inr, append-nil, arith}
use lib.Ieee.{Float, binary64, of_bits, fits, neg, le, lt}
use lib.Ieee.Fits.{mul-fits}
use Rattle.arith_order.proofs.Laws.{number_left, le_trans, le_total, middle, middle_down}
use Rattle.arith.specs.Notation.{◌⊕◌, half}
use Rattle.arith.proofs.Cmp.{holds}
use Rattle.math.specs.declared.Interval.{Interval}
use Rattle.brep.specs.Tree.{CurveTree, analytic, line, circle, ellipse, parabola, hyperbola, polyline, trimmed, composite}
use Rattle.options.specs.declared.Mode.{Mode}
use Rattle.options.specs.declared.Resolved.{Resolved}
use Rattle.curve_asks.specs.Asks.{farthest, is_far, asks_far}
use Rattle.curve_asks.specs.Own.Risk.{in_reach, is_hyperbola, may_ask}
use Rattle.curve_asks.proofs.Calm.{Near, near, not_far, near_modest}
use Rattle.knots.specs.Knots.{curve_knots}
use Rattle.edge_params.specs.Work.{some_far}
use Rattle.edge_params.specs.Params.{midpoint, Move, adds, asked, subdividing, Sampler, breaks_along, walking, bisecting}
use Rattle.edge_params.specs.Own.Bisected.{NothingFar}
use Rattle.edge_params.proofs.Asks.{asked_append, asked_adds, some_far-none, some_far-more, some_far-join}
use Rattle.edge_range.specs.Usable.{analytic_segments}
use Rattle.edge_sample.specs.Sample.{sampler}
use Rattle.edge_sample.proofs.Broken.{no_breaks}
use Rattle.edge_count.proofs.Laws.{no_asks}

no : {A : Type 0} → false ≡ true → A
no e = let z : ◌≡◌ {A = ℕ} 0 1 = cc in absurd (omega arith)

pub both : (a b : Bool) → a && b ≡ true → (a ≡ true) × (b ≡ true)
both true b e = (refl, e)
both false b e = no e

-- ---- by the kind of a curve
-- only lines, circles and ellipses have a closed form, and they ask for nothing
pub may_open : (rows : Bool) (c : CurveTree) → may_ask rows c ≡ true → (range : Interval) (r : Resolved) → analytic_segments c range r ≡ None
unfolding may_ask is_hyperbola analytic_segments
may_open rows (analytic (line o d)) h range r = no h
may_open rows (analytic (circle f a)) h range r = no h
may_open rows (analytic (ellipse f a b)) h range r = no h
may_open rows (analytic (parabola f d)) h range r = refl
may_open rows (analytic (hyperbola f a b)) h range r = refl
may_open rows (polyline ps) h range r = refl
may_open rows (trimmed base own) h range r = may_open rows base h range r
may_open rows (composite ss) h range r = refl

-- a hyperbola, under any trims, is asked for the parameters as they are, and has no knots
hyperbola_is : (c : CurveTree) → is_hyperbola c ≡ true → ((t : Float) → asks_far c t ≡ is_far t) × (0 ≡ length (curve_knots c))
unfolding is_hyperbola asks_far curve_knots
hyperbola_is (analytic (line o d)) h = no h
hyperbola_is (analytic (circle f a)) h = no h
hyperbola_is (analytic (ellipse f a b)) h = no h
hyperbola_is (analytic (parabola f d)) h = no h
hyperbola_is (analytic (hyperbola f a b)) h = ((λ t. refl), refl)
hyperbola_is (polyline ps) h = no h
hyperbola_is (trimmed base own) h = hyperbola_is base h
hyperbola_is (composite ss) h = no h

-- ---- without breaks
module _ (s : Sampler) (range : Interval) (e : s.breaks ≡ []) where
  along_none : breaks_along s range ≡ []
  unfolding breaks_along
  along_none = go (lt range.hi range.lo)
    where
      go : (v : Bool) → ◌≡◌ {A = List Float} (elim v [ true ↦ reverse s.breaks | false ↦ s.breaks ]) []
      go true = ap reverse e
      go false = e

  -- without breaks bisection asks for what its one span asks for
  asked_whole : asked (bisecting s range) ≡ asked (subdividing s.within s.depth range.lo range.hi)
  unfolding bisecting walking asked
  asked_whole =
      ap (λ (bs : List Float). asked (walking s range range.lo (bs ++ (range.hi ∷ [])) ++ (adds range.hi ∷ []))) along_none
      ∙ simp (asked_append, asked_adds, append-nil)

-- ---- near
-- a binary64 from -100 to 100
record Near64 (x : Float) : Type 0 where
  fits64 : T (fits binary64 x)
  in100 : Near x

near_between : {a m b : Float} → Near64 a → Near64 b → T (fits binary64 m) → T (le a m) → T (le m b) → Near64 m
near_between {a} {m} {b} A B F p q =
    record { fits64 = F; in100 = (le_trans (neg farthest) a m A.in100.0 p, le_trans m b farthest q B.in100.1) }

near_middle : {a b : Float} → Near64 a → Near64 b → Near64 (midpoint a b)
unfolding of_bits
near_middle {a} {b} A B = go (le_total a b (number_left a farthest A.in100.1) (number_left b farthest B.in100.1))
  where
    F : T (fits binary64 (midpoint a b))
    F = mul-fits binary64 half (a ⊕ b)

    go : T (le a b) ⊎ T (le b a) → Near64 (midpoint a b)
    go (inl h) =
        let m = middle a b A.fits64 B.fits64 (near_modest a A.in100) (near_modest b B.in100) h in
        near_between A B F m.0 m.1
    go (inr h) =
        let m = middle_down a b A.fits64 B.fits64 (near_modest a A.in100) (near_modest b B.in100) h in
        near_between B A F m.0 m.1

-- bisection between ends that are near asks for nothing that is too far
module _ (far : Float → Bool) (same : (t : Float) → far t ≡ is_far t) (budget : Float → Float → Bool) where
  near_asked : {t : Float} (l : List Float) → Near64 t → some_far far l ≡ false → some_far far (t ∷ l) ≡ false
  near_asked {t} l n e = some_far-more far t l (same t ∙ not_far t n.in100) e

  subdividing_near : (depth : ℕ) {a b : Float} → Near64 a → Near64 b → some_far far (asked (subdividing budget depth a b)) ≡ false
  unfolding subdividing asked
  subdividing_near zero A B = some_far-none far
  subdividing_near (suc depth) {a} {b} A B =
      let M = near_middle A B in
      near_asked _ A (near_asked _ B (near_asked _ M (go (budget a b) (subdividing_near depth A M) (subdividing_near depth M B))))
    where
      m : Float
      m = midpoint a b

      L : List Move
      L = subdividing budget depth a m

      R : List Move
      R = subdividing budget depth m b

      go : (v : Bool) → some_far far (asked L) ≡ false → some_far far (asked R) ≡ false → some_far far (asked (elim v [ true ↦ [] | false ↦ L ++ adds m ∷ R ])) ≡ false
      go true l r = some_far-none far
      go false l r = rw (asked_append L (adds m ∷ R)) (some_far-join far (asked L) (asked R) l r)

-- ---- THE LAW of near hyperbolas
pub near_clear : (mode : Mode) (c : CurveTree) (range : Interval) (r : Resolved) → T (fits binary64 range.lo) → T (fits binary64 range.hi)
    → is_hyperbola c && (in_reach range.lo && in_reach range.hi) ≡ true → NothingFar (sampler mode c range r) range
unfolding sampler
near_clear mode c range r F G e =
    let h = both (is_hyperbola c) (in_reach range.lo && in_reach range.hi) e in
    let n = both (in_reach range.lo) (in_reach range.hi) h.1 in
    let k = hyperbola_is c h.0 in
    let s = sampler mode c range r in
    let lo : Near64 range.lo = record { fits64 = F; in100 = near range.lo (holds n.0) } in
    let hi : Near64 range.hi = record { fits64 = G; in100 = near range.hi (holds n.1) } in (
      rw (no_asks mode c range.lo range.hi r.sag k.1) (some_far-none (asks_far c)),
      rw (asked_whole s range (sym (no_breaks mode c range.lo range.hi r.sag k.1))) (subdividing_near (asks_far c) k.0 s.within s.depth lo hi),
    )
