-- The laws of what may not be asked: refusal 11 only refuses. The list that moves form is the list that they add, wherever one is formed;
-- nothing is refused where nothing is too far; a count of the moves is the length of their list, or its refusal; and bisection asks for
-- whatever it adds. Assumes nothing.
use Rattle.std.specs.Prelude.{Err, Ok}
use Rattle.std.proofs.Common.{◌≡◌, ℕ, zero, suc, ◌+◌, ◌<◌, ◌≤◌, Bool, true, false, cond, ◌||◌, ltb, List, [], ◌∷◌, ◌++◌, map, length, sym, refl, ap, ◌∙◌, arith, ltb-false, ltb-true, le-ltb, lt-ltb}
use Rattle.std.proofs.lemmas.Bool.{or_parts}
use lib.Ieee.{Float, ne}
use Rattle.math.specs.declared.Interval.{Interval}
use Rattle.edge_params.specs.Work.{Work, joins, ends, and_then, joining, some_far, asking, overflows, within}
use Rattle.edge_params.specs.Params.{midpoint, Move, asks, adds, asked, subdividing, forming, Sampler, breaks_along, unless_hi, walking, bisecting}
use Rattle.edge_params.specs.Own.Bisected.{added, subdivided, walked, through, bisected, NothingFar}
use Rattle.edge_params.specs.Own.Counted.{counted}
use Rattle.refusal.specs.Answer.{Answer, bind, each}
use Rattle.refusal.specs.declared.Refusal.TheVariants.{TooFar, NoRoom}
use Rattle.refusal.specs.declared.Refusal.{Refusal}

-- ---- what moves add, and what they ask for
pub added_append : (a b : List Move) → added (a ++ b) ≡ added a ++ added b
unfolding added
added_append [] b = refl
added_append (asks t ∷ a) b = added_append a b
added_append (adds t ∷ a) b = ap (λ (l : List Float). t ∷ l) (added_append a b)

pub asked_append : (a b : List Move) → asked (a ++ b) ≡ asked a ++ asked b
unfolding asked
asked_append [] b = refl
asked_append (asks t ∷ a) b = ap (λ (l : List Float). t ∷ l) (asked_append a b)
asked_append (adds t ∷ a) b = asked_append a b

-- of moves that only add
pub added_adds : (l : List Float) → added (map adds l) ≡ l
unfolding added
added_adds [] = refl
added_adds (t ∷ l) = ap (λ (k : List Float). t ∷ k) (added_adds l)

pub asked_adds : (l : List Float) → asked (map adds l) ≡ []
unfolding asked
asked_adds [] = refl
asked_adds (t ∷ l) = asked_adds l

-- bisection adds the list of Own/Bisected
pub added_subdividing : (budget : Float → Float → Bool) (depth : ℕ) (a b : Float) → added (subdividing budget depth a b) ≡ subdivided budget depth a b
unfolding added subdividing subdivided
added_subdividing budget zero a b = refl
added_subdividing budget (suc depth) a b =
    go (budget a b) (added_subdividing budget depth a (midpoint a b)) (added_subdividing budget depth (midpoint a b) b)
  where
    m : Float
    m = midpoint a b

    go : (v : Bool) → added (subdividing budget depth a m) ≡ subdivided budget depth a m → added (subdividing budget depth m b) ≡ subdivided budget depth m b
        → added (elim v [ true ↦ [] | false ↦ subdividing budget depth a m ++ adds m ∷ subdividing budget depth m b ])
        ≡ elim v [ true ↦ [] | false ↦ subdivided budget depth a m ++ m ∷ subdivided budget depth m b ]
    go true e f = refl
    go false e f = added_append (subdividing budget depth a m) (adds m ∷ subdividing budget depth m b) ∙ rw (e, f)

module _ (s : Sampler) (range : Interval) where
  pub added_walking : (left : Float) (bs : List Float) → added (walking s range left bs) ≡ walked s range left bs
  unfolding added walking walked
  added_walking left [] = refl
  added_walking left (b ∷ bs) =
      added_append (subdividing s.within s.depth left b) (map adds (unless_hi range b) ++ walking s range b bs)
      ∙ rw (added_subdividing s.within s.depth left b, added_append (map adds (unless_hi range b)) (walking s range b bs), added_adds (unless_hi range b), added_walking b bs)

  pub added_bisecting : added (bisecting s range) ≡ bisected s range
  unfolding added bisecting through
  added_bisecting =
      let stops = breaks_along s range ++ (range.hi ∷ []) in
      ap (λ (l : List Float). range.lo ∷ l)
      (added_append (walking s range range.lo stops) (adds range.hi ∷ []) ∙ rw (added_walking range.lo stops))

-- ---- too far
-- what a work comes to, of a work that is told by cases
abbrev end_of : {A : Type 0} → Work A → Answer A
end_of w = w.end

module _ (far : Float → Bool) where
  pub some_far-++ : (a b : List Float) → some_far far (a ++ b) ≡ some_far far a || some_far far b
  unfolding some_far
  some_far-++ [] b = refl
  some_far-++ (t ∷ a) b = go (far t) (some_far-++ a b)
    where
      go : (v : Bool) → some_far far (a ++ b) ≡ some_far far a || some_far far b → v || some_far far (a ++ b) ≡ (v || some_far far a) || some_far far b
      go true e = refl
      go false e = e

  -- nothing of two lists together is too far exactly where nothing of either is
  pub some_far-parts : (a b : List Float) → some_far far (a ++ b) ≡ false → (some_far far a ≡ false) × (some_far far b ≡ false)
  some_far-parts a b e = or_parts (some_far far a) (some_far far b) (sym (some_far-++ a b) ∙ e)

  pub some_far-join : (a b : List Float) → some_far far a ≡ false → some_far far b ≡ false → some_far far (a ++ b) ≡ false
  some_far-join a b e f = some_far-++ a b ∙ rw (e, f)

  pub some_far-first : (t : Float) (l : List Float) → some_far far (t ∷ l) ≡ false → (far t ≡ false) × (some_far far l ≡ false)
  unfolding some_far
  some_far-first t l e = or_parts (far t) (some_far far l) e

  pub some_far-more : (t : Float) (l : List Float) → far t ≡ false → some_far far l ≡ false → some_far far (t ∷ l) ≡ false
  unfolding some_far
  some_far-more t l e f = rw (e, f)

  pub some_far-none : some_far far [] ≡ false
  unfolding some_far
  some_far-none = refl

  -- where no parameter is too far
  pub some_far-never : ((t : Float) → far t ≡ false) → (l : List Float) → some_far far l ≡ false
  unfolding some_far
  some_far-never h [] = refl
  some_far-never h (t ∷ l) = rw (h t, some_far-never h l)

  -- ---- asking
  module _ {A : Type 0} (ts : List Float) (w : Work A) where
    -- nothing is too far: the work alone
    pub asking_clear : some_far far ts ≡ false → asking far ts w ≡ w
    unfolding asking
    asking_clear e = rw (e, asking)

    pub asking_far : some_far far ts ≡ true → asking far ts w ≡ ends (Err TooFar)
    unfolding asking
    asking_far e = rw (e, asking)

    -- an answer means that nothing is too far
    pub asking_answers : (a : A) → (asking far ts w).end ≡ Ok a → some_far far ts ≡ false
    unfolding asking
    asking_answers a = go (some_far far ts)
      where
        go : (v : Bool) → end_of {A = A} (elim v [ true ↦ ends (Err TooFar) | false ↦ w ]) ≡ Ok a → v ≡ false
        go true q = cc
        go false q = refl

    -- a refusal is 11, or the work's own
    pub asking_refused : (n : Refusal) → (w.end ≡ Err n → n ≡ TooFar) → (asking far ts w).end ≡ Err n → n ≡ TooFar
    unfolding asking
    asking_refused n h = go (some_far far ts)
      where
        go : (v : Bool) → end_of {A = A} (elim v [ true ↦ ends (Err TooFar) | false ↦ w ]) ≡ Err n → n ≡ TooFar
        go true q = cc
        go false q = h q

    -- what follows the work follows it behind what is asked for
    pub asking_then : {B : Type 0} (f : A → Work B) → asking far ts (and_then w f) ≡ and_then (asking far ts w) f
    unfolding asking
    asking_then {B} f = go (some_far far ts)
      where
        go : (v : Bool) → ◌≡◌ {A = Work B} (elim v [ true ↦ ends (Err TooFar) | false ↦ and_then w f ]) (and_then (elim v [ true ↦ ends (Err TooFar) | false ↦ w ]) f)
        go true = refl
        go false = refl

    -- in a room: 11 comes before whatever the work comes to
    pub within_asking : (room : ℕ) → within room (asking far ts w) ≡ elim (some_far far ts) [ true ↦ Err TooFar | false ↦ within room w ]
    unfolding asking overflows
    within_asking room = go (some_far far ts)
      where
        go : (v : Bool) → within {A = A} room (elim v [ true ↦ ends (Err TooFar) | false ↦ w ]) ≡ elim v [ true ↦ Err TooFar | false ↦ within room w ]
        go true = refl
        go false = refl

    -- an answer is the work's own, and nothing is too far
    pub asking_got : (room : ℕ) (a : A) → within room (asking far ts w) ≡ Ok a → (some_far far ts ≡ false) × (within room w ≡ Ok a)
    asking_got room a q = go (some_far far ts) (sym (within_asking room) ∙ q)
      where
        go : (v : Bool) → ◌≡◌ {A = Answer A} (elim v [ true ↦ Err TooFar | false ↦ within room w ]) (Ok a) → (v ≡ false) × (within room w ≡ Ok a)
        go true q = cc
        go false q = (refl, q)

  -- ---- the list that moves form
  -- nothing that they ask for is too far: what they add joins it, one by one
  pub forming_clear : (k : ℕ) (moves : List Move) → some_far far (asked moves) ≡ false
      → forming far k moves ≡ record { acts = joining (suc k) (added moves); end = Ok (added moves) }
  unfolding forming asked added joining
  forming_clear k [] e = refl
  forming_clear k (asks t ∷ moves) e =
      let n = some_far-first t (asked moves) e in
      rw (n.0, forming) (forming_clear k moves n.1)
  forming_clear k (adds t ∷ moves) e =
      ap (λ (w : Work (List Float)). record { acts = joins (suc k) t ∷ w.acts; end = each (λ l. t ∷ l) w.end }) (forming_clear (suc k) moves e)

  -- a list that is formed: nothing was too far
  pub forming_kept : (k : ℕ) (moves : List Move) (l : List Float) → (forming far k moves).end ≡ Ok l → some_far far (asked moves) ≡ false
  unfolding forming asked some_far
  forming_kept k [] l q = refl
  forming_kept k (asks t ∷ moves) l q = go (far t) refl (forming_kept k moves l) q
    where
      go : (v : Bool) → far t ≡ v → ((forming far k moves).end ≡ Ok l → some_far far (asked moves) ≡ false)
          → end_of {A = List Float} (elim v [ true ↦ ends (Err TooFar) | false ↦ forming far k moves ]) ≡ Ok l → some_far far (t ∷ asked moves) ≡ false
      go true e on q = cc
      go false e on q = some_far-more t (asked moves) e (on q)
  forming_kept k (adds t ∷ moves) l q = go (forming far (suc k) moves).end (forming_kept (suc k) moves) q
    where
      go : (x : Answer (List Float)) → ((m : List Float) → x ≡ Ok m → some_far far (asked moves) ≡ false) → each (λ m. t ∷ m) x ≡ Ok l → some_far far (asked moves) ≡ false
      go (Err n) on q = cc
      go (Ok m) on q = on m refl

  -- and it is the list that they add
  pub forming_list : (k : ℕ) (moves : List Move) (l : List Float) → (forming far k moves).end ≡ Ok l → l ≡ added moves
  forming_list k moves l q =
      let w : Ok (added moves) ≡ Ok l = sym (ap (λ (w : Work (List Float)). w.end) (forming_clear k moves (forming_kept k moves l q))) ∙ q in
      cc

  -- it is refused with 11 alone
  pub forming_refused : (k : ℕ) (moves : List Move) (n : Refusal) → (forming far k moves).end ≡ Err n → n ≡ TooFar
  unfolding forming
  forming_refused k [] n q = cc
  forming_refused k (asks t ∷ moves) n q = go (far t) (forming_refused k moves n) q
    where
      go : (v : Bool) → ((forming far k moves).end ≡ Err n → n ≡ TooFar)
          → end_of {A = List Float} (elim v [ true ↦ ends (Err TooFar) | false ↦ forming far k moves ]) ≡ Err n → n ≡ TooFar
      go true on q = cc
      go false on q = on q
  forming_refused k (adds t ∷ moves) n q = go (forming far (suc k) moves).end (forming_refused (suc k) moves n) q
    where
      go : (x : Answer (List Float)) → (x ≡ Err n → n ≡ TooFar) → each (λ m. t ∷ m) x ≡ Err n → n ≡ TooFar
      go (Err i) on q = on (cc)
      go (Ok m) on q = cc

  -- ---- a count of the moves
  -- one part after another
  pub counted_append : (room k : ℕ) (a b : List Move) → counted far room k (a ++ b) ≡ bind (counted far room k a) (λ n. counted far room n b)
  unfolding counted
  counted_append room k [] b = refl
  counted_append room k (asks t ∷ a) b = go (far t) (counted_append room k a b)
    where
      go : (v : Bool) → counted far room k (a ++ b) ≡ bind (counted far room k a) (λ n. counted far room n b)
          → elim v [ true ↦ Err TooFar | false ↦ counted far room k (a ++ b) ] ≡ bind (elim v [ true ↦ Err TooFar | false ↦ counted far room k a ]) (λ n. counted far room n b)
      go true e = refl
      go false e = e
  counted_append room k (adds t ∷ a) b = go (ltb k room) (counted_append room (suc k) a b)
    where
      go : (v : Bool) → counted far room (suc k) (a ++ b) ≡ bind (counted far room (suc k) a) (λ n. counted far room n b)
          → elim v [ true ↦ counted far room (suc k) (a ++ b) | false ↦ Err NoRoom ] ≡ bind (elim v [ true ↦ counted far room (suc k) a | false ↦ Err NoRoom ]) (λ n. counted far room n b)
      go true e = e
      go false e = refl

  -- it is the length of the list that they form in the room, or its refusal
  pub counted_forming : (room k : ℕ) (moves : List Move) → k ≤ room
      → counted far room k moves ≡ each (λ (l : List Float). k + length l) (within room (forming far k moves))
  unfolding counted forming overflows
  counted_forming room k [] h = ap Ok (omega arith)
  counted_forming room k (asks t ∷ moves) h = go (far t) (counted_forming room k moves h)
    where
      go : (v : Bool) → counted far room k moves ≡ each (λ (l : List Float). k + length l) (within room (forming far k moves))
          → elim v [ true ↦ Err TooFar | false ↦ counted far room k moves ]
          ≡ each (λ (l : List Float). k + length l) (within room (elim v [ true ↦ ends (Err TooFar) | false ↦ forming far k moves ]))
      go true e = refl
      go false e = e
  counted_forming room k (adds t ∷ moves) h = go (ltb k room) refl (counted_forming room (suc k) moves)
    where
      more : (v : Bool) (x : Answer (List Float)) → each (λ (l : List Float). suc k + length l) (cond v (Err NoRoom) x)
          ≡ each (λ (l : List Float). k + length l) (cond v (Err NoRoom) (each (λ l. t ∷ l) x))
      more true x = refl
      more false (Err n) = refl
      more false (Ok l) = ap Ok (omega arith)

      w : Work (List Float)
      w = forming far (suc k) moves

      go : (v : Bool) → ltb k room ≡ v → (suc k ≤ room → counted far room (suc k) moves ≡ each (λ (l : List Float). suc k + length l) (within room w))
          → elim v [ true ↦ counted far room (suc k) moves | false ↦ Err NoRoom ]
          ≡ each (λ (l : List Float). k + length l) (cond (ltb room (suc k) || overflows room w.acts) (Err NoRoom) (each (λ l. t ∷ l) w.end))
      go true e on =
          let i = ltb-true k room e in
          rw (le-ltb room (suc k) (omega arith)) (on (omega arith) ∙ more (overflows room w.acts) w.end)
      go false e on = let i = ltb-false k room e in rw (lt-ltb room (suc k) (omega arith))

-- ---- bisection asks for what it adds
module _ (far : Float → Bool) where
  subdividing_asked : (budget : Float → Float → Bool) (depth : ℕ) (a b : Float)
      → some_far far (asked (subdividing budget depth a b)) ≡ false → some_far far (subdivided budget depth a b) ≡ false
  unfolding subdividing subdivided asked some_far
  subdividing_asked budget zero a b e = refl
  subdividing_asked budget (suc depth) a b e =
      go (budget a b) (subdividing_asked budget depth a m) (subdividing_asked budget depth m b) (or_parts (far m) _ (or_parts (far b) _ (or_parts (far a) _ e).1).1)
    where
      m : Float
      m = midpoint a b

      L : List Move
      L = subdividing budget depth a m

      R : List Move
      R = subdividing budget depth m b

      go : (v : Bool) → (some_far far (asked L) ≡ false → some_far far (subdivided budget depth a m) ≡ false)
          → (some_far far (asked R) ≡ false → some_far far (subdivided budget depth m b) ≡ false)
          → (far m ≡ false) × (some_far far (asked (elim v [ true ↦ [] | false ↦ L ++ adds m ∷ R ])) ≡ false)
          → some_far far (elim v [ true ↦ [] | false ↦ subdivided budget depth a m ++ m ∷ subdivided budget depth m b ]) ≡ false
      go true l r c = refl
      go false l r c =
          let p = some_far-parts far (asked L) (asked R) (rw (asked_append L (adds m ∷ R)) at c.1) in
          some_far-join far (subdivided budget depth a m) (m ∷ subdivided budget depth m b) (l p.0)
          (some_far-more far m (subdivided budget depth m b) c.0 (r p.1))

-- the spans of a walk ask for both their ends, where the depth is above 0
module _ (s : Sampler) (range : Interval) (deep : 0 < s.depth) where
  span_ends : (a b : Float) → some_far s.far (asked (subdividing s.within s.depth a b)) ≡ false → (s.far a ≡ false) × (s.far b ≡ false)
  unfolding subdividing asked some_far
  span_ends a b e = go s.depth deep e
    where
      go : (d : ℕ) → 0 < d → some_far s.far (asked (subdividing s.within d a b)) ≡ false → (s.far a ≡ false) × (s.far b ≡ false)
      go zero h e = absurd (omega arith)
      go (suc d) h e = let p = or_parts (s.far a) _ e in (p.0, (or_parts (s.far b) _ p.1).0)

  -- what a walk asks for: its first span, and the rest
  walk_parts : (left b : Float) (bs : List Float) → some_far s.far (asked (walking s range left (b ∷ bs))) ≡ false
      → (some_far s.far (asked (subdividing s.within s.depth left b)) ≡ false) × (some_far s.far (asked (walking s range b bs)) ≡ false)
  unfolding walking
  walk_parts left b bs e =
      let S = subdividing s.within s.depth left b in
      let U = map adds (unless_hi range b) in
      let W = walking s range b bs in
      let p = some_far-parts s.far (asked S) (asked (U ++ W)) (rw (asked_append S (U ++ W)) at e) in
      (p.0, (some_far-parts s.far (asked U) (asked W) (rw (asked_append U W) at p.1)).1)

  unless_asked : (b : Float) → s.far b ≡ false → some_far s.far (unless_hi range b) ≡ false
  unfolding unless_hi some_far
  unless_asked b h = go (ne b range.hi)
    where
      go : (v : Bool) → some_far s.far (elim v [ true ↦ b ∷ [] | false ↦ [] ]) ≡ false
      go true = rw h
      go false = refl

  walking_asked : (left : Float) (bs : List Float) → some_far s.far (asked (walking s range left bs)) ≡ false → some_far s.far (walked s range left bs) ≡ false
  unfolding walked some_far
  walking_asked left [] e = refl
  walking_asked left (b ∷ bs) e =
      let p = walk_parts left b bs e in
      some_far-join s.far (subdivided s.within s.depth left b) (unless_hi range b ++ walked s range b bs)
      (subdividing_asked s.far s.within s.depth left b p.0)
      (some_far-join s.far (unless_hi range b) (walked s range b bs) (unless_asked b (span_ends left b p.0).1) (walking_asked b bs p.1))

  -- from left on up to the range's end, the first span asks for left and the last for that end
  walk_ends : (left : Float) (bs : List Float) → some_far s.far (asked (walking s range left (bs ++ (range.hi ∷ [])))) ≡ false
      → (s.far left ≡ false) × (s.far range.hi ≡ false)
  walk_ends left [] e = span_ends left range.hi (walk_parts left range.hi [] e).0
  walk_ends left (b ∷ bs) e =
      let p = walk_parts left b (bs ++ (range.hi ∷ [])) e in
      ((span_ends left b p.0).0, (walk_ends b bs p.1).1)

  -- so nothing in bisection's list is too far where nothing that bisection asks for is
  pub bisecting_asked : some_far s.far (asked (bisecting s range)) ≡ false → some_far s.far (bisected s range) ≡ false
  unfolding bisecting asked through
  bisecting_asked e =
      let bs = breaks_along s range in
      let stops = bs ++ (range.hi ∷ []) in
      let W = walking s range range.lo stops in
      let w = (some_far-parts s.far (asked W) [] (rw (asked_append W (adds range.hi ∷ [])) at e)).0 in
      let p = walk_ends range.lo bs w in
      let M = walked s range range.lo stops in
      some_far-more s.far range.lo (M ++ (range.hi ∷ [])) p.0
      (some_far-join s.far M (range.hi ∷ []) (walking_asked range.lo stops w) (some_far-more s.far range.hi [] p.1 (some_far-none s.far)))

-- ---- a curve for which no parameter is too far
pub never_clear : (s : Sampler) (range : Interval) → ((t : Float) → s.far t ≡ false) → NothingFar s range
never_clear s range h = (some_far-never s.far h s.break_asks, some_far-never s.far h (asked (bisecting s range)))
