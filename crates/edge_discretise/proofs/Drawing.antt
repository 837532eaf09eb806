-- The ways through `draw_sampled`, `draw_range` and `discretise_usable`. Assumes nothing.
use Rattle.std.specs.Prelude.{Option, Some, None, Err, Ok, ⊤}
use mathlib.Core.Path.{◌≡◌, refl, sym, ap, subst, ◌∙◌}
use mathlib.Core.Bool.{Bool, true, false}
use mathlib.Core.List.{List, [], ◌++◌}
use Prim.Native.Nat.{ℕ, ◌+◌, ◌-◌, ◌*◌, ◌/◌, ◌≤◌}
use native.Mathlib.Omega.{arith}
use lib.ListN.{length, take, drop, replicate, length-append, length-replicate, replicate-append-replicate, take-append-drop}
use lib.Seq.{sets, length-sets, length-take-le, take_at}
use lib.Ieee.{Float, binary64, of_bits}
use Rattle.base_lists.specs.Room.{filled}
use Rattle.base_lists.proofs.Filled.{filled_length, filled_front, filled_part}
use Rattle.math.specs.declared.Interval.{Interval}
use Rattle.brep.specs.declared.Edge.{Edge}
use Rattle.brep.specs.Rows.{Tables}
use Rattle.brep.specs.Tree.{CurveTree}
use Rattle.options.specs.declared.Mode.{Mode}
use Rattle.options.specs.declared.Resolved.{Resolved}
use Rattle.curve_asks.specs.Asks.{asks_far}
use Rattle.edge_params.specs.Work.{Work, some_far, asking, overflows, within}
use Rattle.edge_params.proofs.Asks.{some_far-none, asking_clear, within_asking}
use Rattle.edge_params.specs.Own.Written.{said}
use Rattle.edge_record.specs.declared.Sample.{Sample}
use Rattle.edge_record.specs.Own.Stored.{counted_of}
use Rattle.edge_record.specs.Chain.{width, most, flat, samples}
use Rattle.edge_record.proofs.Laws.{lead}
use Rattle.edge_discretise.proofs.Thinning.{flat_reads, leads_more}
use Rattle.std.specs.Result.{result_unwrap_or}
use Rattle.edge_range.specs.Usable.{usable_range}
use Rattle.edge_subdivide.specs.Own.Recorded.{Room}
use Rattle.base_lists.specs.Own.ListOf.{list_of}
use Rattle.edge_sample.specs.Own.Answered.{sampled_in, SampledInto}
use Rattle.edge_sample.specs.Own.Traced.{Traced, traced, traced_sampled}
use Rattle.edge_sample.proofs.Laws.{sampled_two, sampled_room}
use Rattle.edge_sample.proofs.Ways.{reads_held}
use Rattle.edge_closed_form.specs.Located.{located}
use Rattle.draw_spec.specs.Edge.{edge_curve, chord_of, placed, thinned_merged, finished, listed, over_range, discretised}
use Rattle.draw_spec.specs.Draw.{probes, room_of}
use Rattle.draw_spec.proofs.Listed.{over_within}
use Rattle.edge_asks.specs.Own.Told.{asked_first, told_of}
use Rattle.edge_asks.proofs.Telling.{told_clear}
use Rattle.edge_place.proofs.Laws.{placed_length}
use Rattle.edge_discretise.specs.Own.Discretised.{ChainInto, ChainLeads, asked_discretised, DiscretisedInto}
use Rattle.refusal.specs.Answer.{Answer, bind, each}
use Rattle.refusal.specs.declared.Refusal.{Refusal}
use Rattle.refusal.specs.declared.Refusal.TheVariants.{NoRoom, TooFar}

into_is : (n m : ℕ) (D E : Answer (List Sample)) {w : Answer ℕ} {g : List Float} → n ≡ m → D ≡ E → ChainInto n D w g → ChainInto m E w g
into_is n m D E k e p = record {
  answered = p.answered ∙ ap counted_of e;
  holds = p.holds ∙ ap (λ (i : ℕ). filled i (flat (list_of D))) k ∙ ap (λ (x : Answer (List Sample)). filled m (flat (list_of x))) e;
}

leads_is : (D E : Answer (List Sample)) {w : Answer ℕ} {g : List Float} → D ≡ E → ChainLeads D w g → ChainLeads E w g
leads_is D E {w} {g} e = subst (λ (X : Answer (List Sample)). ChainLeads X w g) e

-- ---- `draw_sampled`
-- the part of the chain that is lent for records: one for each float of scratch
module _ (scratch chain : List Float) (fits : width * length scratch ≤ length chain) where
  pub records_length : length (take (width * length scratch) chain) ≡ width * length scratch
  records_length = length-take-le (width * length scratch) chain fits

  pub records_room : Room scratch (take (width * length scratch) chain) 0
  records_room = record { taken = omega arith; wide = records_length }

-- out is the buffer after sample_params, which counted n parameters
pub record Sampling (room : ℕ) (S : Answer (List Float)) (n : ℕ) (out : List Float) : Type 0 where
  pub params : List Float
  pub is : S ≡ Ok params
  pub size : length params ≡ n
  pub two : 2 ≤ n
  pub fits : n ≤ room
  pub floats : out ≡ filled room params

pub sampling_some : (room : ℕ) (mode : Mode) (c : CurveTree) (range : Interval) (r : Resolved) (w : Option ℕ) (n : ℕ) (out : List Float)
    → SampledInto room (sampled_in room mode c range r) w out → w ≡ Some n → Sampling room (sampled_in room mode c range r) n out
sampling_some room mode c range r w n out p e = go (sampled_in room mode c range r) (λ l q. sampled_two room mode c range r l q) (λ l q. sampled_room room mode c range r l q) p
  where
    go : (S : Answer (List Float)) → ((l : List Float) → S ≡ Ok l → 2 ≤ length l) → ((l : List Float) → S ≡ Ok l → length l ≤ room)
        → SampledInto room S w out → Sampling room S n out
    go (Err x) f g a = let q : ◌≡◌ {A = Answer ℕ} (Ok n) (Err x) = ap said (sym e) ∙ a.0 in cc
    go (Ok l) f g a =
        let q : ◌≡◌ {A = Answer ℕ} (Ok n) (Ok (length l)) = ap said (sym e) ∙ a.0 in
        let k : n ≡ length l = cc in
        record { params = l; is = refl; size = sym k; two = omega (arith, f l refl); fits = omega (arith, g l refl); floats = a.1 }

module _ {room : ℕ} {S : Answer (List Float)} {n : ℕ} {out : List Float} (s : Sampling room S n out) where
  pub part_room : n ≤ length out
  part_room = omega (arith, s.fits, s.size, ap length s.floats, filled_length room s.params (omega (arith, s.fits, s.size)))

  pub part_length : length (take n out) ≡ n
  part_length = length-take-le n out part_room

  params_of : take n out ≡ s.params
  params_of = ap (take n) s.floats ∙ ap (λ (k : ℕ). take k (filled room s.params)) (sym s.size) ∙ filled_front room s.params

  -- scratch, with the parameters cleared
  pub cleared_used : {left : List Float} → left ≡ filled (length (take n out)) (take 0 (take n out)) → left ++ drop n out ≡ filled room []
  cleared_used h =
      ap (λ (l : List Float). l ++ drop n out) (h ∙ ap (λ (k : ℕ). filled k []) part_length) ∙ ap (λ (l : List Float). filled n [] ++ drop n l) s.floats
      ∙ filled_part room n s.params [] s.size s.fits (omega arith)

-- a range drawn in a room, where nothing asked for is too far: the parameters that fit it, finished
module _ (mode : Mode) (T : Tables) (e : Edge) (r : Resolved) (range : Interval) (room : ℕ) (near : within room (listed mode (edge_curve T e) range r) ≡ sampled_in room mode (edge_curve T e) range r) where
  over_in : within room (over_range mode T e r range) ≡ bind (sampled_in room mode (edge_curve T e) range r) (finished T e r)
  over_in = over_within mode T e r range room ∙ ap (λ (x : Answer (List Float)). bind x (finished T e r)) near

  pub leads_over : {w : Answer ℕ} {g : List Float} → ChainLeads (bind (sampled_in room mode (edge_curve T e) range r) (finished T e r)) w g
      → ChainLeads (within room (over_range mode T e r range)) w g
  leads_over = leads_is _ _ (sym over_in)

module _ {room : ℕ} (mode : Mode) (T : Tables) (e : Edge) (r : Resolved) (range : Interval) {n : ℕ} {out : List Float} (s : Sampling room (sampled_in room mode (edge_curve T e) range r) n out)
    (chain d : List Float) (fits : width * n ≤ length chain) (p : d ≡ sets chain 0 (flat (placed T e (take n out)))) where
  pub placed_room : width * n ≤ length d
  placed_room = omega (arith, ap length p, length-sets chain 0 (flat (placed T e (take n out))))

  reads_placed : samples (length (take (width * n) d) / width) (take (width * n) d) ≡ placed T e s.params
  reads_placed =
      let P = placed T e s.params in
      let k : n ≡ length P = sym (placed_length T e s.params ∙ s.size) in
      flat_reads P (take (width * n) d)
      (ap (λ (i : ℕ). take (width * i) d) k
      ∙ ap (take (width * length P)) (p ∙ ap (λ (l : List Float). sets chain 0 (flat (placed T e l))) (params_of s))
      ∙ lead chain P (omega arith))

  -- that it was known that nothing asked for is too far
  module _ (near : within room (listed mode (edge_curve T e) range r) ≡ sampled_in room mode (edge_curve T e) range r) where
    over_some : thinned_merged T e r (samples (length (take (width * n) d) / width) (take (width * n) d)) ≡ within room (over_range mode T e r range)
    unfolding finished
    over_some =
        ap (thinned_merged T e r) reads_placed ∙ ap (λ (x : Answer (List Float)). bind x (finished T e r)) (sym s.is) ∙ sym (over_in mode T e r range room near)

    pub leads_some : (w : Answer ℕ) (f more : List Float) → ChainLeads (thinned_merged T e r (samples (length (take (width * n) d) / width) (take (width * n) d))) w f
        → ChainLeads (within room (over_range mode T e r range)) w (f ++ more)
    leads_some w f more h = leads_is _ _ over_some (leads_more more h)

-- what sample_params left in the part of the chain that it was lent, where it says that these are the parameters' records
module _ {room : ℕ} (mode : Mode) (T : Tables) (e : Edge) (r : Resolved) (range : Interval) {n : ℕ} {out : List Float} (s : Sampling room (sampled_in room mode (edge_curve T e) range r) n out)
    {known : Bool} (part left more : List Float) (wide : width * room ≤ length part) (p : traced known left ≡ traced_sampled room mode (edge_curve T e) range r part) where
  pub held : known ≡ true → samples (length (take n out)) (left ++ more) ≡ located (edge_curve T e) (take n out)
  held h =
      ap (λ (i : ℕ). samples i (left ++ more)) (part_length s ∙ sym s.size)
      ∙ ap (λ (t : Traced). samples (length s.params) (t.chain ++ more)) p
      ∙ reads_held (edge_curve T e) s.params room mode range r part more wide s.is (sym (ap (λ (t : Traced). t.known) p) ∙ h)
      ∙ ap (located (edge_curve T e)) (sym (params_of s))

pub leads_none : (S : Answer (List Float)) (f : List Float → Answer (List Sample)) (w : Option ℕ) (g : List Float) → said w ≡ each length S → w ≡ None
    → ChainLeads (bind S f) (Err NoRoom) g
unfolding flat
leads_none (Err n) f w g a e = let q : ◌≡◌ {A = Answer ℕ} (Err NoRoom) (Err n) = ap said (sym e) ∙ a in record { answered = cc; fits = omega arith; holds = refl }
leads_none (Ok l) f w g a e = let q : ◌≡◌ {A = Answer ℕ} (Err NoRoom) (Ok (length l)) = ap said (sym e) ∙ a in cc

pub none_listed : (room : ℕ) (S : Answer (List Float)) (w : Option ℕ) {out : List Float} → said w ≡ each length S → w ≡ None → out ≡ filled room (list_of S) → out ≡ filled room []
none_listed room (Err n) w a e h = h
none_listed room (Ok l) w a e h = let q : ◌≡◌ {A = Answer ℕ} (Err NoRoom) (Ok (length l)) = ap said (sym e) ∙ a in cc

-- ---- `draw_range`
-- by what is told of the range, after some parameters were asked for: the refusal that comes first, or that nothing asked for is too far
module _ (mode : Mode) (T : Tables) (e : Edge) (r : Resolved) (range : Interval) (room : ℕ) (before : List Float) (w : Answer ⊤)
    (own : within room (asking (asks_far (edge_curve T e)) before (listed mode (edge_curve T e) range r)) ≡ told_of w (sampled_in room mode (edge_curve T e) range r)) where
  abbrev far : Float → Bool
  far = asks_far (edge_curve T e)

  abbrev asked : Work (List Sample)
  asked = asking far before (over_range mode T e r range)

  over_asked : within room asked ≡ bind (within room (asking far before (listed mode (edge_curve T e) range r))) (finished T e r)
  over_asked =
      within_asking far before (over_range mode T e r range) room ∙ go (some_far far before)
      ∙ sym (ap (λ (x : Answer (List Float)). bind x (finished T e r)) (within_asking far before (listed mode (edge_curve T e) range r) room))
    where
      go : (v : Bool) → elim v [ true ↦ Err TooFar | false ↦ within room (over_range mode T e r range) ]
          ≡ bind (elim v [ true ↦ Err TooFar | false ↦ within room (listed mode (edge_curve T e) range r) ]) (finished T e r)
      go true = refl
      go false = over_within mode T e r range room

  pub clear : w ≡ Ok tt → (some_far far before ≡ false) × (within room (listed mode (edge_curve T e) range r) ≡ sampled_in room mode (edge_curve T e) range r)
  clear q = told_clear room mode (edge_curve T e) range r before (own ∙ ap (λ (v : Answer ⊤). told_of v (sampled_in room mode (edge_curve T e) range r)) q)

  pub leads_clear : {a : Answer ℕ} {g : List Float} → w ≡ Ok tt → ChainLeads (within room (over_range mode T e r range)) a g → ChainLeads (within room asked) a g
  leads_clear q = leads_is _ _ (sym (ap (within room) (asking_clear far before (over_range mode T e r range) (clear q).0)))

  pub leads_told : (n : Refusal) (g : List Float) → w ≡ Err n → ChainLeads (within room asked) (Err n) g
  unfolding flat
  leads_told n g q =
      let x : within room asked ≡ Err n = over_asked ∙ ap (λ (x : Answer (List Float)). bind x (finished T e r)) (own ∙ ap (λ (v : Answer ⊤). told_of v (sampled_in room mode (edge_curve T e) range r)) q) in
      leads_is (Err n) _ (sym x) (record { answered = refl; fits = omega arith; holds = refl })

-- ---- `discretise_usable`
-- n is the room that both buffers give, and scratch's first n floats are lent
pub record Lent (first n : ℕ) (scratch : List Float) : Type 0 where
  pub few : n ≤ most
  pub fits : width * n ≤ first
  pub inside : n ≤ length scratch
  pub size : length (take n scratch) ≡ n

pub lent_part : (first n : ℕ) (scratch : List Float) → n ≡ room_of first (length scratch) → Lent first n scratch
unfolding room_of
lent_part first n scratch e =
    let h : n ≤ length scratch = omega arith in
    record { few = omega arith; fits = omega arith; inside = h; size = length-take-le n scratch h }

-- scratch afterwards, with what was left in that part, has its length
pub whole_length : (n : ℕ) (left scratch : List Float) → length left ≡ length (take n scratch) → length (left ++ drop n scratch) ≡ length scratch
whole_length n left scratch h =
    length-append left (drop n scratch) ∙ ap (λ (k : ℕ). k + length (drop n scratch)) h
    ∙ sym (length-append (take n scratch) (drop n scratch)) ∙ ap length (take-append-drop n scratch)

filled_twice : (m n : ℕ) → n ≤ m → filled m (filled n []) ≡ filled m []
filled_twice m n h =
    let z = of_bits binary64 0 in
    let k : n - 0 + (m - (n - 0)) ≡ m - 0 = omega arith in
    ap (λ (i : ℕ). replicate (n - 0) z ++ replicate (m - i) z) (length-replicate (n - 0) z)
    ∙ replicate-append-replicate (n - 0) (m - (n - 0)) z ∙ ap (λ (i : ℕ). replicate i z) k

-- it is clear where that part is, and the rest is cleared
pub cleared_whole : (n : ℕ) (left scratch : List Float) {g : List Float} → n ≤ length scratch → left ≡ filled (length (take n scratch)) []
    → g ≡ filled (length (left ++ drop n scratch)) (take n (left ++ drop n scratch)) → g ≡ filled (length scratch) []
cleared_whole n left scratch h l q =
    let k : length (take n scratch) ≡ n = length-take-le n scratch h in
    let clear : left ≡ filled n [] = l ∙ ap (λ (i : ℕ). filled i []) k in
    let m : length left ≡ n = ap length clear ∙ filled_length n [] (omega arith) in
    q ∙ ap (λ (i : ℕ). filled i (take n (left ++ drop n scratch))) (whole_length n left scratch (m ∙ sym k))
    ∙ ap (filled (length scratch)) (take_at left (drop n scratch) n m ∙ clear)
    ∙ filled_twice (length scratch) n h

-- so many records of the chain are kept, and the rest is cleared
pub kept_count : {D : Answer (List Sample)} {w : Answer ℕ} {f : List Float} {k : ℕ} → ChainLeads D w f → k ≡ result_unwrap_or w 0 → k ≡ length (list_of D)
kept_count {D} {w} p e = e ∙ ap (λ (x : Answer ℕ). result_unwrap_or x 0) p.answered ∙ go D
  where
    go : (D : Answer (List Sample)) → result_unwrap_or (counted_of D) 0 ≡ length (list_of D)
    go (Err n) = refl
    go (Ok l) = refl

pub cleared_rest : {D : Answer (List Sample)} {w : Answer ℕ} {f g : List Float} {n k : ℕ} → ChainLeads D w f → k ≡ result_unwrap_or w 0 → length f ≡ n
    → g ≡ filled (length f) (take (width * k) f) → ChainInto n D w g
cleared_rest {D} {w} {f} {g} {n} {k} p e l q = record {
  answered = p.answered;
  holds =
      q ∙ ap (λ (i : ℕ). filled i (take (width * k) f)) l
      ∙ ap (λ (i : ℕ). filled n (take (width * i) f)) (kept_count p e) ∙ ap (filled n) p.holds;
}

-- an edge that is not probed is discretised, and no more
pub unprobed : (mode : Mode) (T : Tables) (e : Edge) (r : Resolved) {chain scratch : List Float} {w : Answer ℕ} {f g : List Float}
    → DiscretisedInto (asked_discretised false mode T e r) chain scratch w f g → DiscretisedInto (discretised mode T e r) chain scratch w f g
unprobed mode T e r {chain} {scratch} {w} {f} {g} =
    let far = asks_far (edge_curve T e) in
    subst (λ (D : Work (List Sample)). DiscretisedInto D chain scratch w f g) (asking_clear far [] (discretised mode T e r) (some_far-none far))

-- what has no range is not probed
nothing_first : (far : Float → Bool) (probes_first : Bool) → some_far far (asked_first probes_first None) ≡ false
unfolding probes
nothing_first far true = some_far-none far
nothing_first far false = some_far-none far

module _ (room : ℕ) (mode : Mode) (T : Tables) (e : Edge) (probes_first : Bool) (r : Resolved) (k : ℕ) {w : Answer ℕ} {g : List Float} (u : Option Interval) (own : u ≡ usable_range (edge_curve T e) e.range) where
  pub into_range : (range : Interval) (j : ℕ) → u ≡ Some range → j ≡ room → ChainInto k (within j (asking (asks_far (edge_curve T e)) (asked_first probes_first (Some range)) (over_range mode T e r range))) w g
      → ChainInto k (within room (asked_discretised probes_first mode T e r)) w g
  unfolding discretised
  into_range range j q h =
      let far = asks_far (edge_curve T e) in
      let is : Some range ≡ usable_range (edge_curve T e) e.range = sym q ∙ own in
      let s : over_range mode T e r range ≡ discretised mode T e r = rw (sym is, discretised) in
      into_is k k _ _ refl
      (ap (λ (i : ℕ). within i (asking far (asked_first probes_first (Some range)) (over_range mode T e r range))) h
      ∙ ap (λ (x : Option Interval). within room (asking far (asked_first probes_first x) (over_range mode T e r range))) is
      ∙ ap (λ (x : Work (List Sample)). within room (asking far (asked_first probes_first (usable_range (edge_curve T e) e.range)) x)) s)

  pub into_chord : u ≡ None → w ≡ Ok 2 → g ≡ filled k (flat (chord_of T e e.range.lo e.range.hi)) → ChainInto k (within room (asked_discretised probes_first mode T e r)) w g
  unfolding discretised overflows
  into_chord q a b =
      let far = asks_far (edge_curve T e) in
      let is : usable_range (edge_curve T e) e.range ≡ None = sym own ∙ q in
      let chord : ChainInto k (within room (discretised mode T e r)) w g = rw (is, discretised) (record { answered = a; holds = b }) in
      into_is k k _ _ refl
      (sym
      (ap (within room)
      (asking_clear far (asked_first probes_first (usable_range (edge_curve T e) e.range)) (discretised mode T e r) (ap (λ (x : Option Interval). some_far far (asked_first probes_first x)) is ∙ nothing_first far probes_first))))
      chord
