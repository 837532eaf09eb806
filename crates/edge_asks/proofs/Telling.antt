-- What a count of the moves tells of the parameters of a range in a room. Assumes nothing.
use Rattle.std.specs.Prelude.{None, Err, Ok}
use Rattle.std.proofs.Common.{◌≡◌, ℕ, suc, ◌-◌, ◌<◌, ◌≤◌, Bool, true, false, ◌&&◌, ltb, List, length, sym, refl, ap, ◌∙◌, arith, ltb-true, lt-ltb}
use lib.Ieee.{Float}
use Rattle.math.specs.declared.Interval.{Interval}
use Rattle.brep.specs.Tree.{CurveTree}
use Rattle.options.specs.declared.Mode.{Mode}
use Rattle.options.specs.declared.Resolved.{Resolved}
use Rattle.curve_asks.specs.Asks.{asks_far}
use Rattle.knots_thin.specs.Thin.{break_asks}
use Rattle.edge_params.specs.Work.{Work, some_far, asking, within}
use Rattle.edge_params.specs.Params.{forming, Sampler, evenly, bisecting}
use Rattle.edge_params.specs.Own.Bisected.{bisected, NothingFar}
use Rattle.edge_params.specs.Own.InRoom.{fitting, floored_in}
use Rattle.edge_params.proofs.Asks.{added_bisecting, within_asking, asking_got, forming_kept, forming_list}
use Rattle.edge_params.proofs.Work.{sample_params_open, refined_within, within_got}
use Rattle.edge_params.proofs.Lists.{steps_length}
use Rattle.edge_params.proofs.Written.{fitting_fits}
use Rattle.edge_range.specs.Usable.{analytic_segments}
use Rattle.edge_sample.specs.Sample.{sampler, sampled}
use Rattle.edge_sample.specs.Own.Answered.{sampled_in}
use Rattle.edge_sample.proofs.Laws.{sampled_in_eight}
use Rattle.edge_sample.proofs.Settled.{bisected_long}
use Rattle.edge_count.specs.Own.Said.{range_counted}
use Rattle.edge_count.proofs.Laws.{range_counted_lem}
use Rattle.draw_spec.specs.Edge.{listed}
use Rattle.draw_spec.proofs.Listed.{listed_refused, listed_far, listed_open}
use Rattle.edge_asks.proofs.Near.{both}
use Rattle.refusal.specs.Answer.{Answer, bind, each}
use Rattle.refusal.specs.declared.Refusal.TheVariants.{NoRoom, TooFar}
use Rattle.refusal.specs.declared.Refusal.{Refusal}

-- the segment floor's even steps fit the room and one of them is too far
abbrev pub floor_far : ℕ → CurveTree → Interval → Resolved → Bool
floor_far room c range r = ltb r.segments room && some_far (asks_far c) (evenly range r.segments)

-- ---- what is told, behind some parameters that are asked for
module _ (room : ℕ) (mode : Mode) (c : CurveTree) (range : Interval) (r : Resolved) (before : List Float) where
  abbrev behind : Answer (List Float)
  behind = within room (asking (asks_far c) before (listed mode c range r))

  by_far : (v : Bool) → some_far (asks_far c) before ≡ v → behind ≡ elim v [ true ↦ Err TooFar | false ↦ within room (listed mode c range r) ]
  by_far v e =
      within_asking (asks_far c) before (listed mode c range r) room ∙ ap (λ (b : Bool). elim b [ true ↦ Err TooFar | false ↦ within room (listed mode c range r) ]) e

  -- none of them is too far: what is told of the range alone
  pub told_near : {x : Answer (List Float)} → some_far (asks_far c) before ≡ false → within room (listed mode c range r) ≡ x → behind ≡ x
  told_near near own = by_far false near ∙ own

  -- one of them is: 11, whatever follows
  pub told_far : some_far (asks_far c) before ≡ true → behind ≡ Err TooFar
  told_far = by_far true

  -- what is told to be clear is near, before and in sampling: sampling itself refuses with 8 alone
  pub told_clear : behind ≡ sampled_in room mode c range r → (some_far (asks_far c) before ≡ false) × (within room (listed mode c range r) ≡ sampled_in room mode c range r)
  told_clear q = go (some_far (asks_far c) before) refl
    where
      go : (v : Bool) → some_far (asks_far c) before ≡ v → (v ≡ false) × (within room (listed mode c range r) ≡ sampled_in room mode c range r)
      go true e = let z : ◌≡◌ {A = Refusal} TooFar NoRoom = sampled_in_eight room mode c range r TooFar (sym q ∙ by_far true e) in cc
      go false e = (refl, sym (by_far false e) ∙ q)

-- what is refused is refused before it is measured
each_refused : {A B : Type 0} (f : A → B) (x : Answer A) (n : Refusal) → each f x ≡ Err n → x ≡ Err n
each_refused f (Err i) n q = cc
each_refused f (Ok a) n q = cc

-- ---- of a curve that has no closed form
module _ (room : ℕ) (mode : Mode) (c : CurveTree) (range : Interval) (r : Resolved) (formless : analytic_segments c range r ≡ None) where
  abbrev s : Sampler
  s = sampler mode c range r

  abbrev halves : List Float
  halves = bisected s range

  abbrev floor : List Float → Answer (List Float)
  floor = floored_in room s range

  -- nothing that sampling asks for is too far: of the answer only the floor's steps are looked at, where bisection has fewer segments
  pub clear_told : NothingFar s range → 0 < r.depth → (length halves ≤ r.segments → floor_far room c range r ≡ false)
      → within room (listed mode c range r) ≡ sampled_in room mode c range r
  clear_told clear deep near =
      listed_open room mode c range r clear formless deep
      (λ few fits. rw (lt-ltb r.segments room (omega arith)) at (near (omega (arith, bisected_long s range))))

  -- what thinning the breaks asks for, and bisection's list behind it
  abbrev asks : List Float
  asks = break_asks mode c range.lo range.hi r.sag

  abbrev forms : Work (List Float)
  forms = forming (asks_far c) 0 (bisecting s range)

  abbrev formed : Answer (List Float)
  formed = within room (asking (asks_far c) asks forms)

  -- sample_params: that list, and then the floor
  sampled_formed : within room (sampled mode c range r) ≡ bind formed floor
  unfolding sampled sampler
  sampled_formed =
      ap (within room) (sample_params_open s range formless) ∙ refined_within room s range ∙ go (some_far (asks_far c) asks)
      ∙ sym (ap (λ (x : Answer (List Float)). bind x floor) (within_asking (asks_far c) asks forms room))
    where
      go : (v : Bool) → elim v [ true ↦ Err TooFar | false ↦ bind (within room forms) floor ]
          ≡ bind (elim v [ true ↦ Err TooFar | false ↦ within room forms ]) floor
      go true = refl
      go false = refl

  -- what is refused in counting is refused
  pub refused_told : (n : Refusal) → range_counted room mode c range r ≡ Err n → within room (listed mode c range r) ≡ Err n
  refused_told n q =
      listed_refused room mode c range r n
      (sampled_formed ∙ ap (λ (x : Answer (List Float)). bind x floor) (each_refused length formed n (sym (range_counted_lem room mode c range r) ∙ q)))

  -- a count: nothing that is asked for is too far, and it is that of bisection's list, which fits the room
  pub record Formed (n : ℕ) : Type 0 where
    pub clear : NothingFar s range
    pub list : formed ≡ Ok halves
    pub long : n ≡ length halves

  pub counted_told : (n : ℕ) → range_counted room mode c range r ≡ Ok n → Formed n
  unfolding sampler
  counted_told n q = go formed refl (sym (range_counted_lem room mode c range r) ∙ q)
    where
      go : (x : Answer (List Float)) → formed ≡ x → each length x ≡ Ok n → Formed n
      go (Err i) e q = cc
      go (Ok l) e q =
          let a = asking_got (asks_far c) asks forms room l e in
          let f = (within_got room forms l a.1).1 in
          let same : l ≡ halves = forming_list (asks_far c) 0 (bisecting s range) l f ∙ added_bisecting s range in
          let long : length l ≡ n = cc in
          record { clear = (a.0, forming_kept (asks_far c) 0 (bisecting s range) l f); list = e ∙ ap Ok same; long = sym long ∙ ap length same }

  -- fewer segments than the floor: its steps are formed in the room
  few_formed : length halves - 1 < r.segments → r.segments < room → floor halves ≡ Ok (evenly range r.segments)
  unfolding floored_in sampler
  few_formed few fits =
      let steps = evenly range r.segments in
      ap (λ (b : Bool). elim b [ true ↦ fitting room steps | false ↦ Ok halves ]) (lt-ltb (length halves - 1) r.segments few)
      ∙ fitting_fits room steps (omega (arith, steps_length range r.segments (suc r.segments)))

  -- and then one of them may not be asked for
  pub floor_told : (n : ℕ) → Formed n → n ≤ r.segments → floor_far room c range r ≡ true → within room (listed mode c range r) ≡ Err TooFar
  floor_told n k few far =
      let steps = evenly range r.segments in
      let f = both (ltb r.segments room) (some_far (asks_far c) steps) far in
      listed_far room mode c range r steps
      (sampled_formed ∙ ap (λ (x : Answer (List Float)). bind x floor) k.list
      ∙ few_formed (omega (arith, k.long, bisected_long s range)) (ltb-true r.segments room f.0))
      f.1
