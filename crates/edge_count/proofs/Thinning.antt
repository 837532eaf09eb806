-- The loop of thin_far: of what thin_breaks asks for, what is too far is in the rest of it. Assumes nothing.
use Rattle.std.specs.List.{list_any}
use mathlib.Core.Path.{◌≡◌, refl, sym, ap, ◌∙◌}
use mathlib.Core.Bool.{Bool, true, false, ◌||◌}
use mathlib.Core.List.{List, [], ◌∷◌}
use Prim.Native.Nat.{ℕ, ◌+◌, ◌≤◌, ◌<◌}
use native.Mathlib.Numerals.{add-one}
use lib.ListN.{length, get_or, drop, drop_of_length-le}
use lib.Seq.{drop-cons}
use lib.Ieee.{Float, nan, lt, div, of_bits, of_int}
use Rattle.arith.specs.Notation.{◌⊕◌, ◌⊖◌, ◌⊗◌, bits, half, plus_zero}
use Rattle.brep.specs.Tree.{CurveTree}
use Rattle.curve.specs.Eval.{point_at}
use Rattle.knots_inside.specs.Thinned.{next_of}
use Rattle.knots.specs.Knots.{deviation}
use Rattle.knots_thin.specs.Thin.{deviation_asks, thin_asks, thinning_asks}
use Rattle.edge_params.specs.Work.{some_far}
use Rattle.edge_params.proofs.Asks.{some_far-++}

module _ (far : Float → Bool) where
  -- ---- the points of deviation: k / 4 is exact
  pub five : (a b : Float)
      → list_any far (a ∷ b ∷ (a ⊕ (b ⊖ a) ⊗ bits 0x3FD0000000000000) ∷ (a ⊕ (b ⊖ a) ⊗ half) ∷ (a ⊕ (b ⊖ a) ⊗ bits 0x3FE8000000000000) ∷ [])
      ≡ some_far far (deviation_asks a b)
  unfolding some_far div of_bits of_int
  five a b = refl

  -- ---- a break, by the test that thin_breaks makes
  module _ (dev : Float → Float → Float) (sag hi : Float) where
    abbrev pub far_from : Float → List Float → Bool
    far_from start bs = some_far far (thin_asks dev sag hi start bs)

    abbrev after : Float → Float → List Float → Bool → List Float
    after start b bs u = elim u [ true ↦ thin_asks dev sag hi b bs | false ↦ thin_asks dev sag hi start bs ]

    from : (start b : Float) (bs : List Float) (u : Bool) → lt sag (dev start (next_of hi bs)) ≡ u
        → some_far far (deviation_asks start (next_of hi bs)) || far_from (elim u [ true ↦ b | false ↦ start ]) bs ≡ far_from start (b ∷ bs)
    unfolding thin_asks
    from start b bs u e =
        ap (λ (l : List Float). some_far far (deviation_asks start (next_of hi bs)) || some_far far l) (go u)
        ∙ ap (λ (u : Bool). some_far far (deviation_asks start (next_of hi bs)) || some_far far (after start b bs u)) (sym e)
        ∙ sym (some_far-++ far (deviation_asks start (next_of hi bs)) (after start b bs (lt sag (dev start (next_of hi bs)))))
      where
        go : (u : Bool) → thin_asks dev sag hi (elim u [ true ↦ b | false ↦ start ]) bs ≡ after start b bs u
        go true = refl
        go false = refl

    -- ---- the loop, at break number i
    module _ (lo start : Float) (breaks : List Float) (i : ℕ) (left : far_from start (drop i breaks) ≡ far_from lo breaks) where
      -- what is too far behind it, by the test
      abbrev behind : Bool → Bool
      behind u = far_from (elim u [ true ↦ get_or breaks i nan | false ↦ start ]) (drop (i + 1) breaks)

      module _ (h : i < length breaks) (next : Float) (N : next ≡ next_of hi (drop (i + 1) breaks)) {v : Bool} (F : v ≡ some_far far (deviation_asks start next)) where
        here : (u : Bool) → lt sag (dev start next) ≡ u → v || behind u ≡ far_from lo breaks
        here u e =
            ap (λ (x : Bool). x || behind u) (F ∙ ap (λ (x : Float). some_far far (deviation_asks start x)) N)
            ∙ from start (get_or breaks i nan) (drop (i + 1) breaks) u (ap (λ (x : Float). lt sag (dev start x)) (sym N) ∙ e)
            ∙ ap (λ (n : ℕ). far_from start (get_or breaks i nan ∷ drop n breaks)) (add-one i)
            ∙ sym (ap (far_from start) (drop-cons breaks i nan h))
            ∙ left

        pub span_found : v ≡ true → true ≡ far_from lo breaks
        span_found e =
            let u = lt sag (dev start next) in
            ap (λ (x : Bool). x || behind u) (sym e) ∙ here u refl

        -- the break is kept, or not
        module _ (e : v ≡ false) {d : Float} (D : d ≡ dev start next) where
          past : (u : Bool) → lt sag d ≡ u → behind u ≡ far_from lo breaks
          past u q = ap (λ (x : Bool). x || behind u) (sym e) ∙ here u (ap (lt sag) (sym D) ∙ q)

          pub span_kept : lt sag d ≡ true → far_from (get_or breaks i nan) (drop (i + 1) breaks) ≡ far_from lo breaks
          span_kept q = past true q

          pub span_skipped : lt sag d ≡ false → far_from start (drop (i + 1) breaks) ≡ far_from lo breaks
          span_skipped q = past false q

      pub none_found : length breaks ≤ i → false ≡ far_from lo breaks
      unfolding thin_asks some_far
      none_found h = sym (ap (far_from start) (drop_of_length-le breaks {i = i} h)) ∙ left

  -- ---- by whether the sag is above 0
  module _ (c : CurveTree) (breaks : List Float) (lo hi sag : Float) where
    pub sag_some : lt plus_zero sag ≡ true → far_from (deviation (point_at c)) sag hi lo breaks ≡ some_far far (thinning_asks c breaks lo hi sag)
    unfolding thinning_asks
    sag_some e = sym (rw (e, thinning_asks))

    pub sag_none : lt plus_zero sag ≡ false → false ≡ some_far far (thinning_asks c breaks lo hi sag)
    unfolding thinning_asks some_far
    sag_none e = sym (rw (e, thinning_asks))
