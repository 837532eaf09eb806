-- The parameters' samples, oriented and pinned: both ends are the vertices, those between are the curve's own points, and the
-- parameters stay in one order. Assumes nothing.
use mathlib.Core.Path.{◌≡◌, refl, sym, ap, subst, ◌∙◌}
use mathlib.Core.Bool.{Bool, true, false, cond}
use mathlib.Core.List.{List, [], ◌∷◌, reverse, reverse_aux, drop_last, map}
use Prim.Native.Nat.{suc, ◌≤◌}
use native.Mathlib.Omega.{arith}
use lib.ListN.{length, get_or, length-reverse}
use lib.Ieee.{Float}
use Rattle.base_lists.specs.All.{All, none, more}
use Rattle.base_lists.proofs.Joined.{all_reverse}
use Rattle.math.specs.declared.Vec3.{Vec3}
use Rattle.brep.specs.declared.Edge.{Edge}
use Rattle.brep.specs.Rows.{Tables}
use Rattle.brep.specs.Tree.{CurveTree}
use Rattle.curve.specs.Eval.{point_at}
use Rattle.edge_params.proofs.Steady.{Steady, steady_reverse}
use Rattle.edge_record.specs.declared.Sample.{Sample}
use Rattle.edge_record.specs.Chain.{last_of, inner_samples}
use Rattle.edge_closed_form.proofs.Located.{located_length}
use Rattle.draw_spec.specs.Edge.{edge_curve, edge_start, edge_end, located, is_reversed, oriented, last_pinned, pinned, placed}

-- a chain's parameters
abbrev pub params_of : List Sample → List Float
params_of l = map (λ (s : Sample). s.param) l

-- the curve's own point at the parameter beside it
abbrev pub Own : CurveTree → Sample → Type 0
Own c s = s.point ≡ point_at c s.param

-- ---- the curve's points at the parameters
located_params : (c : CurveTree) (l : List Float) → params_of (located c l) ≡ l
unfolding located
located_params c [] = refl
located_params c (t ∷ l) = ap (λ (k : List Float). t ∷ k) (located_params c l)

located_own : (c : CurveTree) (l : List Float) → All (Own c) (located c l)
unfolding located
located_own c [] = none
located_own c (t ∷ l) = more refl (located_own c l)

-- ---- as they are, or turned round
params_turned : (l r : List Sample) → params_of (reverse_aux l r) ≡ reverse_aux (params_of l) (params_of r)
params_turned [] r = refl
params_turned (s ∷ l) r = params_turned l (s ∷ r)

oriented_either : (t : Tables) (e : Edge) (P : List Sample → Type 0) (l : List Sample) → P l → P (reverse l) → P (oriented t e l)
unfolding oriented
oriented_either t e P [] p q = p
oriented_either t e P (s ∷ l) p q = go (is_reversed t e s.point (last_of s l).point)
  where
    go : (b : Bool) → P (cond b (reverse (s ∷ l)) (s ∷ l))
    go true = q
    go false = p

oriented_length : (t : Tables) (e : Edge) (l : List Sample) → length (oriented t e l) ≡ length l
oriented_length t e l = oriented_either t e (λ k. length k ≡ length l) l refl (length-reverse l)

-- ---- pinned
module _ (end : Vec3) where
  last_length : (q : Sample) (l : List Sample) → length (last_pinned end q l) ≡ suc (length l)
  unfolding last_pinned
  last_length q [] = refl
  last_length q (r ∷ l) = ap suc (last_length r l)

  last_params : (q : Sample) (l : List Sample) → params_of (last_pinned end q l) ≡ params_of (q ∷ l)
  unfolding last_pinned
  last_params q [] = refl
  last_params q (r ∷ l) = ap (λ (k : List Float). q.param ∷ k) (last_params r l)

  last_point : (d q : Sample) (l : List Sample) → (last_of d (last_pinned end q l)).point ≡ end
  unfolding last_pinned last_of
  last_point d q [] = refl
  last_point d q (r ∷ l) = last_point q r l

  last_own : {P : Sample → Type 0} (q : Sample) (l : List Sample) → All P (q ∷ l) → All P (drop_last (last_pinned end q l))
  unfolding last_pinned
  last_own q [] h = none
  last_own q (r ∷ []) (more p h) = more p none
  last_own q (r ∷ s ∷ l) (more p h) = more p (last_own r (s ∷ l) h)

-- ---- what holds of the samples before thinning and merging
pub record Placed (t : Tables) (e : Edge) (l : List Sample) : Type 0 where
  pub two : 2 ≤ length l
  pub begins : (d : Sample) → (get_or l 0 d).point ≡ edge_start t e
  pub finishes : (d : Sample) → (last_of d l).point ≡ edge_end t e
  pub own : All (Own (edge_curve t e)) (inner_samples l)
  pub steady : Steady (params_of l)

module _ (t : Tables) (e : Edge) where
  pinned_placed : (l : List Sample) → 2 ≤ length l → All (Own (edge_curve t e)) l → Steady (params_of l)
      → Placed t e (pinned (edge_start t e) (edge_end t e) l)
  unfolding pinned last_pinned last_of
  pinned_placed [] h a s = absurd (omega arith)
  pinned_placed (p ∷ []) h a s = absurd (omega arith)
  pinned_placed (p ∷ q ∷ l) h (more o a) s = record {
    two = omega (arith, last_length (edge_end t e) q l);
    begins = λ d. refl;
    finishes = λ d. last_point (edge_end t e) _ q l;
    own = last_own (edge_end t e) q l a;
    steady = subst Steady (ap (λ (k : List Float). p.param ∷ k) (sym (last_params (edge_end t e) q l))) s;
  }

  pinned_length : (l : List Sample) → length (pinned (edge_start t e) (edge_end t e) l) ≡ length l
  unfolding pinned
  pinned_length [] = refl
  pinned_length (p ∷ l) = last_length (edge_end t e) _ l

  pub placed_length : (l : List Float) → length (placed t e l) ≡ length l
  unfolding placed
  placed_length l =
      let k = located (edge_curve t e) l in
      pinned_length (oriented t e k) ∙ oriented_length t e k ∙ located_length (edge_curve t e) l

  -- of two and more parameters in one order
  pub placed_holds : (l : List Float) → 2 ≤ length l → Steady l → Placed t e (placed t e l)
  unfolding placed
  placed_holds l h s =
      let c = edge_curve t e in
      let k = located c l in
      let own = located_own c l in
      let steady : Steady (params_of k) = subst Steady (sym (located_params c l)) s in
      pinned_placed (oriented t e k) (omega (arith, oriented_length t e k, located_length c l))
      (oriented_either t e (All (Own c)) k own (all_reverse k own))
      (oriented_either t e (λ m. Steady (params_of m)) k steady
      (subst Steady (sym (params_turned k [])) (steady_reverse (params_of k) steady)))
