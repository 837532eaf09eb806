-- The sweep of `nearest`: one parameter more. Assumes nothing.
use mathlib.Core.Path.{◌≡◌, refl, sym, ap, ◌∙◌}
use mathlib.Core.Bool.{Bool, true, false, cond}
use Prim.Native.Nat.{ℕ, suc, ◌+◌, ◌≤◌}
use native.Mathlib.Numerals.{add-one}
use native.Mathlib.Omega.{arith}
use lib.Ieee.{Float, lt}
use Rattle.arith_root.specs.Root.{root_of}
use Rattle.math.specs.declared.Vec3.{Vec3}
use Rattle.math.specs.declared.Interval.{Interval}
use Rattle.math.specs.Math.{v_length, distance}
use Rattle.brep.specs.Tree.{CurveTree}
use Rattle.curve.specs.Eval.{natural_range, point_at}
use Rattle.draw_spec.specs.Repair.{sweep_at, nearest_of, nearest}
use Rattle.edge_escape.specs.declared.Best.{Best}
use Rattle.edge_escape.specs.Own.Best.{measured, nearer_of}

-- ---- `nearer`
module _ (best next : Best) (o : Bool) (h : o ≡ lt (root_of next.square) (root_of best.square)) where
  pub nearer_new : o ≡ true → next ≡ nearer_of best next
  unfolding nearer_of
  nearer_new k = rw (sym h ∙ k)

  pub nearer_old : o ≡ false → best ≡ nearer_of best next
  unfolding nearer_of
  nearer_old k = rw (sym h ∙ k)

-- ---- `nearest`
-- a parameter with its own point
abbrev own : CurveTree → Vec3 → Float → Best
own c target t = measured target t (point_at c t)

-- what the sweep holds after n steps
pub record Swept (c : CurveTree) (natural : Interval) (target : Vec3) (n : ℕ) (b : Best) : Type 0 where
  pub held : b ≡ own c target (nearest_of c natural target n)

nearer_own : (c : CurveTree) (target : Vec3) (t u : Float) → nearer_of (own c target t) (own c target u) ≡ own c target (cond (lt (distance (point_at c u) target) (distance (point_at c t) target)) u t)
unfolding nearer_of measured v_length
nearer_own c target t u = go (lt (distance (point_at c u) target) (distance (point_at c t) target))
  where
    go : (b : Bool) → cond b (own c target u) (own c target t) ≡ own c target (cond b u t)
    go true = refl
    go false = refl

nearest_more : (c : CurveTree) (natural : Interval) (target : Vec3) (n : ℕ) → nearer_of (own c target (nearest_of c natural target n)) (own c target (sweep_at natural (suc n))) ≡ own c target (nearest_of c natural target (suc n))
unfolding nearest_of
nearest_more c natural target n = nearer_own c target (nearest_of c natural target n) (sweep_at natural (suc n))

module _ {c : CurveTree} {natural : Interval} {target : Vec3} where
  pub swept_first : (t : Float) (p : Vec3) {b : Best} → t ≡ sweep_at natural 0 → p ≡ point_at c t → b ≡ measured target t p → Swept c natural target 0 b
  unfolding nearest_of
  swept_first t p d f g = record { held = cc }

  module _ {n : ℕ} {b : Best} (w : Swept c natural target n b) where
    pub swept_more : (t : Float) (p : Vec3) {x : Best} → t ≡ sweep_at natural (n + 1) → p ≡ point_at c t → x ≡ nearer_of b (measured target t p) → Swept c natural target (n + 1) x
    swept_more t p e f g = record { held = rw add-one (cc (nearest_more c natural target n, w.held, rw add-one at e)) }

    pub swept_all : natural ≡ natural_range c → n ≤ 512 → 512 ≤ n → b.param ≡ nearest c target
    unfolding measured
    swept_all e h k = let q : n ≡ 512 = omega arith in ap (λ (x : Best). x.param) w.held ∙ rw (e, q)
