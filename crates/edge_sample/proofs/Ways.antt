-- The ways through sample_params: no closed form, one that is refused, one that meets the sag or misses it. Assumes nothing.
use Rattle.std.specs.Prelude.{Option, ℕ, None, Some, Err, Ok}
use mathlib.Core.Path.{◌≡◌, refl, sym, ap, subst, ◌∙◌}
use mathlib.Core.Bool.{Bool, true, false, not}
use mathlib.Core.List.{List, ◌++◌, append_assoc}
use Prim.Native.Nat.{ℕ, ◌+◌, ◌-◌, ◌*◌, ◌≤◌}
use native.Mathlib.Omega.{arith}
use lib.Dec.{leb, ltb}
use lib.ListN.{length, take, drop}
use lib.Seq.{sets-eq, length-sets}
use lib.Ieee.{Float, le}
use Rattle.arith.specs.Notation.{plus_zero}
use Rattle.math.specs.declared.Interval.{Interval}
use Rattle.brep.specs.Tree.{CurveTree}
use Rattle.options.specs.declared.Mode.{Mode}
use Rattle.options.specs.declared.Resolved.{Resolved}
use Rattle.edge_params.specs.Params.{evenly}
use Rattle.edge_params.specs.Own.Bisected.{bisected}
use Rattle.edge_params.specs.Own.InRoom.{fitting, floored_in, refined_in, sample_params_in}
use Rattle.edge_params.specs.Own.Written.{said, ListWritten}
use Rattle.edge_params.proofs.Written.{fitting_fits, written_count, written_list}
use Rattle.edge_range.specs.Usable.{analytic_segments}
use Rattle.edge_params.proofs.Lists.{sampled_length}
use Rattle.edge_record.specs.Chain.{width, flat, samples}
use Rattle.edge_record.proofs.Laws.{length_flat, reads}
use Rattle.edge_closed_form.specs.Located.{located}
use Rattle.edge_closed_form.proofs.Located.{located_length}
use Rattle.edge_sample.specs.Sample.{worst_miss, sampler}
use Rattle.edge_sample.specs.Own.Traced.{traced, over, is_enough, traced_refined, traced_checked, traced_steps, traced_form, traced_sampled}
use Rattle.edge_sample.specs.Own.Answered.{sampled_in, SampledInto}
use Rattle.refusal.specs.Answer.{Answer, each, bind}
use Rattle.refusal.specs.declared.Refusal.TheVariants.{NoRoom}

-- an answer of refine, whose buffer came from another call
pub answered_as : (w : Option ℕ) (last : List Float) (n room : ℕ) → n ≡ room → (f : ℕ → Answer (List Float)) (s : Answer (List Float)) → f room ≡ s
    → SampledInto n (f n) w last → SampledInto room s w last
answered_as w last n room e f s is a =
    subst (λ (x : Answer (List Float)). SampledInto room x w last) is (subst (λ (m : ℕ). SampledInto m (f m) w last) e a)

-- what refine leaves in the chain
pub refined_traced : (room : ℕ) (mode : Mode) (c : CurveTree) (range : Interval) (r : Resolved) (chain : List Float) {left : List Float} → left ≡ over c (bisected (sampler mode c range r) range) chain
    → {known : Bool} → known ≡ is_enough r.segments (fitting room (bisected (sampler mode c range r) range)) → traced known left ≡ traced_refined room mode c range r chain
refined_traced room mode c range r chain L K = rw (K, L)

module _ (room : ℕ) (mode : Mode) (c : CurveTree) (range : Interval) (r : Resolved) where
  -- a closed form's list, by whether it meets the sag
  checked : List Float → Bool → Answer (List Float)
  checked l t = elim t [ true ↦ Ok l | false ↦ refined_in room (sampler mode c range r) range ]

  by_form : (x : Option ℕ) → Answer (List Float)
  by_form x = elim x [
    | None ↦ refined_in room (sampler mode c range r) range
    | Some n ↦ bind (fitting room (evenly range n)) (λ l. checked l (le (worst_miss c plus_zero l) r.sag))
  ]

  form_of : (x : Option ℕ) → x ≡ analytic_segments c range r → by_form x ≡ sampled_in room mode c range r
  unfolding by_form checked sampled_in sample_params_in sampler
  form_of x e = ap by_form e

  pub no_form : (x : Option ℕ) → x ≡ analytic_segments c range r → x ≡ None → refined_in room (sampler mode c range r) range ≡ sampled_in room mode c range r
  unfolding by_form
  no_form x is e = form_of None (sym e ∙ is)

  pub no_form_traced : (chain : List Float) (x : Option ℕ) → x ≡ analytic_segments c range r → x ≡ None → traced_refined room mode c range r chain ≡ traced_sampled room mode c range r chain
  unfolding traced_form
  no_form_traced chain x is e = ap (traced_form room mode c range r chain) (sym e ∙ is)

  module _ (x : Option ℕ) (is : x ≡ analytic_segments c range r) (n : ℕ) (e : x ≡ Some n) where
    form : bind (fitting room (evenly range n)) (λ l. checked l (le (worst_miss c plus_zero l) r.sag)) ≡ sampled_in room mode c range r
    unfolding by_form
    form = form_of (Some n) (sym e ∙ is)

    steps_traced : (chain : List Float) → traced_steps room mode c range r chain (fitting room (evenly range n)) ≡ traced_sampled room mode c range r chain
    unfolding traced_form
    steps_traced chain = ap (traced_form room mode c range r chain) (sym e ∙ is)

    module _ {out mid : List Float} (long : length out ≡ room) (v : Option ℕ) (h : ListWritten out (evenly range n) v mid) where
      answer : said v ≡ each length (fitting room (evenly range n))
      answer = h.answer ∙ ap (λ (m : ℕ). each length (fitting m (evenly range n))) long

      pub form_refused : v ≡ None → fitting room (evenly range n) ≡ sampled_in room mode c range r
      form_refused z =
          go (fitting room (evenly range n)) (λ l. checked l (le (worst_miss c plus_zero l) r.sag)) (ap said (sym z) ∙ answer) ∙ form
        where
          go : (y : Answer (List Float)) (f : List Float → Answer (List Float)) → Err NoRoom ≡ each length y → y ≡ bind y f
          go (Err k) f p = refl
          go (Ok l) f p = let o : ◌≡◌ {A = ℕ} 0 1 = cc in absurd (omega arith)

      pub refused_traced : (chain : List Float) → v ≡ None → traced false chain ≡ traced_sampled room mode c range r chain
      unfolding traced_steps
      refused_traced chain z = go (fitting room (evenly range n)) (ap said (sym z) ∙ answer) ∙ steps_traced chain
        where
          go : (y : Answer (List Float)) → Err NoRoom ≡ each length y → traced false chain ≡ traced_steps room mode c range r chain y
          go (Err k) p = refl
          go (Ok l) p = let o : ◌≡◌ {A = ℕ} 0 1 = cc in absurd (omega arith)

      module _ (m : ℕ) (z : v ≡ Some m) where
        held : ListWritten out (evenly range n) (Some m) mid
        held = subst (λ (q : Option ℕ). ListWritten out (evenly range n) q mid) z h

        fits : fitting room (evenly range n) ≡ Ok (evenly range n)
        fits = fitting_fits room (evenly range n) (omega (arith, (written_count held).fits))

        -- t is what meets answered
        form_checked : (t : Bool) → le (worst_miss c plus_zero (take m mid)) r.sag ≡ t → checked (evenly range n) t ≡ sampled_in room mode c range r
        form_checked t p =
            ap (checked (evenly range n)) (sym p ∙ ap (λ (l : List Float). le (worst_miss c plus_zero l) r.sag) (written_list held))
            ∙ ap (λ (y : Answer (List Float)). bind y (λ l. checked l (le (worst_miss c plus_zero l) r.sag))) (sym fits) ∙ form

        module _ (t : Bool) (of : t ≡ le (worst_miss c plus_zero (take m mid)) r.sag) where
          pub form_meets : t ≡ true → fitting room (evenly range n) ≡ sampled_in room mode c range r
          unfolding checked
          form_meets p = fits ∙ form_checked true (sym of ∙ p)

          pub form_misses : t ≡ false → refined_in room (sampler mode c range r) range ≡ sampled_in room mode c range r
          unfolding checked
          form_misses p = form_checked false (sym of ∙ p)

          -- the chain after the check
          module _ (chain : List Float) {left : List Float} (L : left ≡ over c (take m mid) chain) where
            check_traced : traced_checked room mode c range r left t ≡ traced_sampled room mode c range r chain
            unfolding traced_steps
            check_traced =
                ap (λ (k : List Float). traced_checked room mode c range r k t) L ∙ ap (traced_checked room mode c range r (over c (take m mid) chain)) of
                ∙ ap (λ (l : List Float). traced_steps room mode c range r chain (Ok l)) (written_list held)
                ∙ ap (traced_steps room mode c range r chain) (sym fits) ∙ steps_traced chain

            pub meets_traced : t ≡ true → traced true left ≡ traced_sampled room mode c range r chain
            unfolding traced_checked
            meets_traced p = ap (traced_checked room mode c range r left) (sym p) ∙ check_traced

            pub misses_traced : (n : ℕ) → n ≡ room → t ≡ false → traced_refined n mode c range r left ≡ traced_sampled room mode c range r chain
            unfolding traced_checked
            misses_traced n k p = ap (λ (i : ℕ). traced_refined i mode c range r left) k ∙ ap (traced_checked room mode c range r left) (sym p) ∙ check_traced

-- ---- where the chain's records are those of the answer
module _ (c : CurveTree) (l : List Float) where
  -- over what some chain of that length held
  pub record Held (chain left : List Float) : Type 0 where
    pub held : List Float
    pub long : length held ≡ length chain
    pub floats : left ≡ over c l held

  over_held : (k chain : List Float) → k ≡ l → Held chain (over c k chain)
  over_held k chain e = record { held = chain; long = refl; floats = ap (λ (x : List Float). over c x chain) e }

  module _ (room : ℕ) (mode : Mode) (range : Interval) (r : Resolved) where
    refined_held : refined_in room (sampler mode c range r) range ≡ Ok l → is_enough r.segments (fitting room (bisected (sampler mode c range r) range)) ≡ true → bisected (sampler mode c range r) range ≡ l
    unfolding refined_in floored_in fitting is_enough sampler
    refined_held = go (bisected (sampler mode c range r) range) (leb (length (bisected (sampler mode c range r) range)) room)
      where
        floor : (k : List Float) (t : Bool) → ◌≡◌ {A = Answer (List Float)} (elim t [ true ↦ fitting room (evenly range r.segments) | false ↦ Ok k ]) (Ok l) → not t ≡ true → k ≡ l
        floor k true e h = absurd (let o : ◌≡◌ {A = ℕ} 0 1 = cc in omega arith)
        floor k false e h = cc

        go : (k : List Float) (t : Bool) → ◌≡◌ {A = Answer (List Float)} (bind (elim t [ true ↦ Ok k | false ↦ Err NoRoom ]) (floored_in room (sampler mode c range r) range)) (Ok l)
            → is_enough r.segments (elim t [ true ↦ Ok k | false ↦ Err NoRoom ]) ≡ true → k ≡ l
        go k true e h = floor k (ltb (length k - 1) r.segments) e h
        go k false e h = absurd (let o : ◌≡◌ {A = ℕ} 0 1 = cc in omega arith)

    checked_held : (k chain : List Float) (t : Bool) → checked room mode c range r k t ≡ Ok l → (traced_checked room mode c range r (over c k chain) t).known ≡ true
        → Held chain (traced_checked room mode c range r (over c k chain) t).chain
    unfolding checked traced_checked
    checked_held k chain true e h = over_held k chain cc
    checked_held k chain false e h =
        let o = over_held (bisected (sampler mode c range r) range) (over c k chain) (refined_held e h) in
        record { held = o.held; long = o.long ∙ length-sets chain 0 (flat (located c k)); floats = o.floats }

    steps_held : (chain : List Float) (y : Answer (List Float)) → bind y (λ k. checked room mode c range r k (le (worst_miss c plus_zero k) r.sag)) ≡ Ok l
        → (traced_steps room mode c range r chain y).known ≡ true → Held chain (traced_steps room mode c range r chain y).chain
    unfolding traced_steps
    steps_held chain (Err n) e h = absurd (let o : ◌≡◌ {A = ℕ} 0 1 = cc in omega arith)
    steps_held chain (Ok k) e h = checked_held k chain (le (worst_miss c plus_zero k) r.sag) e h

    form_held : (chain : List Float) (x : Option ℕ) → by_form room mode c range r x ≡ Ok l → (traced_form room mode c range r chain x).known ≡ true → Held chain (traced_form room mode c range r chain x).chain
    unfolding by_form traced_form
    form_held chain None e h = over_held (bisected (sampler mode c range r) range) chain (refined_held e h)
    form_held chain (Some n) e h = steps_held chain (fitting room (evenly range n)) e h

    pub sampled_held : (chain : List Float) → sampled_in room mode c range r ≡ Ok l → (traced_sampled room mode c range r chain).known ≡ true → Held chain (traced_sampled room mode c range r chain).chain
    sampled_held chain e h = form_held chain (analytic_segments c range r) (form_of room mode c range r (analytic_segments c range r) refl ∙ e) h

    -- a chain of that many records, of which more may lie behind
    pub reads_held : (chain more : List Float) → width * room ≤ length chain → sampled_in room mode c range r ≡ Ok l → (traced_sampled room mode c range r chain).known ≡ true
        → samples (length l) ((traced_sampled room mode c range r chain).chain ++ more) ≡ located c l
    unfolding sampled_in
    reads_held chain more wide e h =
        let s = sampled_held chain e h in
        let n = located_length c l in
        let w : 0 + length (flat (located c l)) ≤ length s.held = omega (arith, length_flat (located c l), n, s.long, wide, sampled_length room (sampler mode c range r) range l e) in
        ap (λ (i : ℕ). samples i ((traced_sampled room mode c range r chain).chain ++ more)) (sym n)
        ∙ ap (λ (k : List Float). samples (length (located c l)) (k ++ more)) (s.floats ∙ sets-eq (flat (located c l)) s.held 0 w)
        ∙ ap (samples (length (located c l))) (append_assoc (flat (located c l)) (drop (0 + length (flat (located c l))) s.held) more)
        ∙ reads (located c l) (drop (0 + length (flat (located c l))) s.held ++ more)
