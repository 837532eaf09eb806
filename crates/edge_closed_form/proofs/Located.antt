-- The samples at the parameters, one after the other, as they are written. Assumes nothing.
use mathlib.Core.Path.{◌≡◌, refl, sym, ap, ◌∙◌}
use mathlib.Core.List.{List, [], ◌∷◌, ◌++◌}
use Prim.Native.Nat.{ℕ, zero, suc, ◌+◌, ◌*◌, ◌<◌, ◌≤◌}
use native.Mathlib.Numerals.{add-one}
use native.Mathlib.Omega.{arith}
use lib.ListN.{length, get_or, take}
use lib.Seq.{sets, take-suc, take_all, length-take-le}
use lib.Ieee.{Float, nan}
use Rattle.math.specs.declared.Vec3.{Vec3}
use Rattle.brep.specs.Tree.{CurveTree}
use Rattle.curve.specs.Eval.{point_at}
use Rattle.edge_record.specs.declared.Sample.{Sample}
use Rattle.edge_record.specs.Chain.{width, row, flat}
use Rattle.edge_record.proofs.Laws.{push}
use Rattle.edge_closed_form.specs.Located.{located}

-- the parameters behind the first
abbrev pub rest_of : {params rest : List Float} {a : Float} → params ≡ a ∷ rest → List Float
rest_of {params} {rest} {a} e = rest

-- a parameter of the rest is the next one of all
pub next_of : (params rest : List Float) (a : Float) (i : ℕ) → params ≡ a ∷ rest → get_or rest i nan ≡ get_or params (i + 1) nan
next_of params rest a i e = rw (e, add-one i)

abbrev pub on : CurveTree → Float → Sample
on c t = record { point = point_at c t; param = t }

module _ (c : CurveTree) where
  pub located_at : (l : List Float) (i : ℕ) (d : Sample) → i < length l → get_or (located c l) i d ≡ on c (get_or l i nan)
  unfolding located
  located_at [] i d h = absurd (omega arith)
  located_at (t ∷ l) zero d h = refl
  located_at (t ∷ l) (suc i) d h = located_at l i d (omega arith)

  pub located_length : (l : List Float) → length (located c l) ≡ length l
  unfolding located
  located_length [] = refl
  located_length (t ∷ l) = ap suc (located_length l)

  pub located_append : (l m : List Float) → located c (l ++ m) ≡ located c l ++ located c m
  unfolding located
  located_append [] m = refl
  located_append (t ∷ l) m = ap (λ k. on c t ∷ k) (located_append l m)

  -- the chain before: the first i parameters' samples
  module _ (before : List Float) (params : List Float) where
    abbrev pub Written : List Float → ℕ → Type 0
    Written chain i = chain ≡ sets before 0 (flat (located c (take i params)))

    -- none yet
    pub written_none : (chain : List Float) → chain ≡ before → Written chain 0
    unfolding located flat
    written_none chain e = e

    -- one more
    pub written_more : (chain next : List Float) (i : ℕ) (p : Vec3) (t : Float) → i < length params → Written chain i → p ≡ point_at c t → t ≡ get_or params i nan
        → next ≡ sets chain (width * i) (row (record { point = p; param = t })) → Written next (i + 1)
    unfolding located
    written_more chain next i p t l h e g n =
        let len : length (located c (take i params)) ≡ i = located_length (take i params) ∙ length-take-le i params (omega arith) in
        let s : Sample = record { point = p; param = t } in
        n ∙ ap (λ x. sets x (width * i) (row s)) h
        ∙ ap (λ k. sets (sets before 0 (flat (located c (take i params)))) (width * k) (row s)) (sym len)
        ∙ push before (located c (take i params)) s
        ∙ ap (λ k. sets before 0 (flat (located c (take i params) ++ (k ∷ [])))) (rw (e, g))
        ∙ ap (λ k. sets before 0 (flat k)) (sym (ap (located c) (ap (λ k. take k params) (add-one i) ∙ take-suc params i nan l) ∙ located_append (take i params) (get_or params i nan ∷ [])))

    -- all
    pub written_all : (chain : List Float) (i : ℕ) → length params ≤ i → Written chain i → chain ≡ sets before 0 (flat (located c params))
    written_all chain i l h = h ∙ ap (λ k. sets before 0 (flat (located c k))) (take_all i params l)
