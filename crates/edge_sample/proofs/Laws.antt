-- What callers cite of `sampled_in`: at least two parameters, and no more than the room has, and that it is `sampled` within the room where
-- nothing that sampling asks for is too far, and wherever `sampled` answers; and that a curve with a closed form needs no tables, and asks no
-- hyperbola for anything. Assumes nothing.
use Rattle.std.specs.Prelude.{Option, ℕ, None, Some, Err, Ok}
use mathlib.Core.Path.{◌≡◌, refl}
use mathlib.Core.Logic.{◌⊎◌}
use mathlib.Core.Bool.{Bool, true, false}
use mathlib.Core.List.{List}
use Prim.Native.Nat.{ℕ, suc, max, ◌-◌, ◌≤◌}
use native.Mathlib.Omega.{arith}
use lib.Dec.{leb, ltb}
use lib.ListN.{length}
use lib.Ieee.{Float}
use borrow.Author.Tests.{ltb-true}
use Rattle.math.specs.declared.Interval.{Interval}
use Rattle.brep.specs.Tree.{CurveTree, analytic, line, circle, ellipse, parabola, hyperbola, polyline, trimmed, composite}
use Rattle.options.specs.declared.Mode.{Mode}
use Rattle.options.specs.declared.Resolved.{Resolved}
use Rattle.options.specs.Options.{segments_for_arc}
use Rattle.edge_params.specs.Work.{within}
use Rattle.edge_params.specs.Params.{Sampler, evenly}
use Rattle.edge_params.specs.Own.Bisected.{bisected, NothingFar}
use Rattle.edge_params.specs.Own.InRoom.{fitting, floored_in, refined_in, sample_params_in}
use Rattle.edge_params.proofs.Work.{sample_params_in_lem, sample_params_kept, sample_params_eight, sample_params_late, sample_params_refused}
use Rattle.edge_params.proofs.Lists.{Gives, list, eight, gives_got, steps_length, sampled_length}
use Rattle.curve_asks.specs.Asks.{asks_far}
use Rattle.curve_prepared.specs.Own.Prepared.{prepared_of, is_plain}
use Rattle.edge_range.specs.Usable.{analytic_segments}
use Rattle.edge_sample.specs.Sample.{sampler, sampled}
use Rattle.edge_sample.specs.Claims.{ClosedNeverFar}
use Rattle.edge_sample.specs.Own.Answered.{sampled_in}
use Rattle.edge_sample.proofs.Settled.{bisected_long}
use Rattle.refusal.specs.Answer.{Answer, bind}
use Rattle.refusal.specs.declared.Refusal.TheVariants.{NoRoom, TooFar}
use Rattle.refusal.specs.declared.Refusal.{Refusal}

-- ---- a closed form has at least one segment
at_least : (m n : ℕ) → Some (max m 1) ≡ Some n → 1 ≤ n
at_least m n e = let p : max m 1 ≡ n = cc in omega arith

formless : (n : ℕ) → None ≡ Some n → 1 ≤ n
formless n e = let z : ◌≡◌ {A = ℕ} 0 1 = cc in absurd (omega arith)

form_some : (c : CurveTree) (range : Interval) (r : Resolved) (n : ℕ) → analytic_segments c range r ≡ Some n → 1 ≤ n
unfolding analytic_segments segments_for_arc
form_some (analytic (line o d)) range r n e = at_least _ n e
form_some (analytic (circle f radius)) range r n e = at_least _ n e
form_some (analytic (ellipse f major minor)) range r n e = at_least _ n e
form_some (analytic (parabola f d)) range r n e = formless n e
form_some (analytic (hyperbola f a b)) range r n e = formless n e
form_some (polyline ps) range r n e = formless n e
form_some (trimmed base own) range r n e = form_some base range r n e
form_some (composite ss) range r n e = formless n e

-- a curve that has a closed form needs no tables
pub form_plain : (c : CurveTree) (range : Interval) (r : Resolved) (n : ℕ) → analytic_segments c range r ≡ Some n → is_plain (prepared_of c) ≡ true
unfolding analytic_segments prepared_of is_plain
form_plain (analytic (line o d)) range r n e = refl
form_plain (analytic (circle f radius)) range r n e = refl
form_plain (analytic (ellipse f major minor)) range r n e = refl
form_plain (analytic (parabola f d)) range r n e = refl
form_plain (analytic (hyperbola f a b)) range r n e = let z : ◌≡◌ {A = ℕ} 0 1 = cc in absurd (omega arith)
form_plain (polyline ps) range r n e = let z : ◌≡◌ {A = ℕ} 0 1 = cc in absurd (omega arith)
form_plain (trimmed base own) range r n e = form_plain base range r n e
form_plain (composite ss) range r n e = let z : ◌≡◌ {A = ℕ} 0 1 = cc in absurd (omega arith)

-- nor does it ask a hyperbola for anything
pub closed_never_far : ClosedNeverFar
unfolding analytic_segments asks_far
closed_never_far (analytic (line o d)) range r n e t = refl
closed_never_far (analytic (circle f radius)) range r n e t = refl
closed_never_far (analytic (ellipse f major minor)) range r n e t = refl
closed_never_far (analytic (parabola f d)) range r n e t = refl
closed_never_far (analytic (hyperbola f a b)) range r n e t = let z : ◌≡◌ {A = ℕ} 0 1 = cc in absurd (omega arith)
closed_never_far (polyline ps) range r n e t = refl
closed_never_far (trimmed base own) range r n e t = closed_never_far base range r n e t
closed_never_far (composite ss) range r n e t = let z : ◌≡◌ {A = ℕ} 0 1 = cc in absurd (omega arith)

-- ---- two parameters or more
abbrev Long : List Float → Type 0
Long l = 2 ≤ length l

module _ (room : ℕ) (s : Sampler) (range : Interval) where
  fitting_long : (l : List Float) → Long l → Gives Long (fitting room l)
  unfolding fitting
  fitting_long l h = go (leb (length l) room)
    where
      go : (t : Bool) → Gives Long (elim t [ true ↦ Ok l | false ↦ Err NoRoom ])
      go true = list h
      go false = eight

  even_long : (n : ℕ) → 1 ≤ n → Gives Long (fitting room (evenly range n))
  even_long n h = fitting_long (evenly range n) (omega (arith, steps_length range n (suc n)))

  floored_long : (l : List Float) → Long l → Gives Long (floored_in room s range l)
  unfolding floored_in
  floored_long l h = go (ltb (length l - 1) s.least) refl
    where
      go : (t : Bool) → ltb (length l - 1) s.least ≡ t → Gives Long (elim t [ true ↦ fitting room (evenly range s.least) | false ↦ Ok l ])
      go true p = even_long s.least (omega (arith, ltb-true (length l - 1) s.least p))
      go false p = list h

  then_long : {x : Answer (List Float)} (f : List Float → Answer (List Float)) → Gives Long x
      → ((l : List Float) → Long l → Gives Long (f l)) → Gives Long (bind x f)
  then_long f (list {l = l} p) g = g l p
  then_long f eight g = eight

  refined_long : Gives Long (refined_in room s range)
  unfolding refined_in
  refined_long = then_long (floored_in room s range) (fitting_long (bisected s range) (bisected_long s range)) floored_long

  sampled_long : ((n : ℕ) → s.closed ≡ Some n → 1 ≤ n) → Gives Long (sample_params_in room s range)
  unfolding sample_params_in
  sampled_long some = go s.closed refl
    where
      checked : (l : List Float) → Long l → (t : Bool) → Gives Long (elim t [ true ↦ Ok l | false ↦ refined_in room s range ])
      checked l h true = list h
      checked l h false = refined_long

      go : (x : Option ℕ) → s.closed ≡ x → Gives Long (elim x [
        | None ↦ refined_in room s range
        | Some n ↦ bind (fitting room (evenly range n)) (λ l. elim (s.meets l) [ true ↦ Ok l | false ↦ refined_in room s range ])
      ])
      go None e = refined_long
      go (Some n) e =
          then_long (λ l. elim (s.meets l) [ true ↦ Ok l | false ↦ refined_in room s range ]) (even_long n (some n e)) (λ l h. checked l h (s.meets l))

module _ (room : ℕ) (mode : Mode) (c : CurveTree) (range : Interval) (r : Resolved) (l : List Float) (e : sampled_in room mode c range r ≡ Ok l) where
  pub sampled_two : 2 ≤ length l
  unfolding sampled_in sampler
  sampled_two = gives_got l (sampled_long room (sampler mode c range r) range (form_some c range r)) e

  pub sampled_room : length l ≤ room
  unfolding sampled_in
  sampled_room = sampled_length room (sampler mode c range r) range l e

-- ---- the reference's sample_params, within the room
module _ (room : ℕ) (mode : Mode) (c : CurveTree) (range : Interval) (r : Resolved) where
  -- where nothing that it asks for is too far
  pub sampled_in_lem : NothingFar (sampler mode c range r) range → within room (sampled mode c range r) ≡ sampled_in room mode c range r
  unfolding sampled sampled_in
  sampled_in_lem clear = sample_params_in_lem room (sampler mode c range r) range clear

  -- parameters that are answered
  pub sampled_kept : (l : List Float) → within room (sampled mode c range r) ≡ Ok l → sampled_in room mode c range r ≡ Ok l
  unfolding sampled sampled_in
  sampled_kept l = sample_params_kept room (sampler mode c range r) range l

  -- in a room alone a refusal is 8
  pub sampled_in_eight : (n : Refusal) → sampled_in room mode c range r ≡ Err n → n ≡ NoRoom
  unfolding sampled_in
  sampled_in_eight = sample_params_eight room (sampler mode c range r) range

  -- a refusal is 8 or 11, and what has no room is refused with 11 alone
  pub sampled_late : (n : Refusal) → within room (sampled mode c range r) ≡ Err n → (n ≡ NoRoom) ⊎ (n ≡ TooFar)
  unfolding sampled
  sampled_late n = sample_params_late room (sampler mode c range r) range n

pub sampled_refused : (mode : Mode) (c : CurveTree) (range : Interval) (r : Resolved) (n : Refusal) → (sampled mode c range r).end ≡ Err n → n ≡ TooFar
unfolding sampled
sampled_refused mode c range r n = sample_params_refused (sampler mode c range r) range n
