-- What a walk has seen of any arc is what escapes and reaches answer for it, and so for each leading part of one. Assumes nothing.
use Rattle.std.proofs.Common.{◌≡◌, refl, sym, ap, ◌∙◌, Bool, true, false, ◌&&◌, ◌||◌, ℕ, zero, suc, ◌<◌, List, [], ◌∷◌, ◌++◌, length, take, arith}
use Rattle.std.proofs.Math.Bool.{or-false, or_assoc}
use Rattle.std.proofs.lemmas.Bool.{false≢true}
use lib.Dec.{T}
use Rattle.std.specs.Float.Ieee.{Float, nan, binary64, fits, lt, le}
use Rattle.math.specs.declared.Vec3.{Vec3}
use Rattle.math.specs.declared.Aabb.{Aabb}
use Rattle.arith_order.proofs.Laws.{refuted, number_right, lt→le}
use Rattle.arith_root_limit.specs.Own.Limit.{low_cut, high_cut}
use Rattle.arith_root_limit.proofs.Roots.{low_not_above, high_not_within}
use Rattle.math.specs.Math.{v_sub, v_length_squared, v_length, distance}
use Rattle.brep.specs.declared.Edge.{Edge}
use Rattle.options.specs.declared.Resolved.{Resolved}
use Rattle.edge_record.specs.declared.Sample.{Sample}
use Rattle.edge_record.specs.Chain.{sample_point}
use Rattle.draw_spec.specs.Edge.{edge_start, edge_end}
use Rattle.draw_spec.specs.Repair.{reference, escapes, reaches}
use Rattle.edge_short_arc.specs.declared.Seen.{Seen}
use Rattle.edge_short_arc.specs.declared.ArcTest.{ArcTest}
use Rattle.edge_short_arc.specs.Seen.{seen_of, test_of, unseen, taken, seen_after, served, OneWalk}

-- ---- a walk goes on from what was seen before it
-- two parts of an arc seen together
abbrev seen_together : Seen → Seen → Seen
seen_together a b = record {
  escapes = a.escapes || b.escapes;
  reaches_start = a.reaches_start || b.reaches_start;
  reaches_end = a.reaches_end || b.reaches_end;
}

together_none : (a : Seen) → a ≡ seen_together a unseen
together_none a = λ i. record { escapes = sym (or-false a.escapes) i; reaches_start = sym (or-false a.reaches_start) i; reaches_end = sym (or-false a.reaches_end) i }

together_assoc : (a b c : Seen) → seen_together (seen_together a b) c ≡ seen_together a (seen_together b c)
together_assoc a b c = λ i. record {
  escapes = or_assoc a.escapes b.escapes c.escapes i;
  reaches_start = or_assoc a.reaches_start b.reaches_start c.reaches_start i;
  reaches_end = or_assoc a.reaches_end b.reaches_end c.reaches_end i;
}

module _ (box : Aabb) (e : Edge) (r : Resolved) (start end : Vec3) where
  seen_on : (seen : Seen) (arc : List Sample) → seen_after (test_of box e r start end) seen arc ≡ seen_together seen (seen_of box e r start end arc)
  unfolding seen_after taken escapes reaches
  seen_on seen [] = together_none seen
  seen_on seen (s ∷ arc) = seen_on (taken (test_of box e r start end) seen s.point) arc
      ∙ together_assoc seen (taken (test_of box e r start end) unseen s.point) (seen_of box e r start end arc)

  seen_is : (arc : List Sample) → seen_after (test_of box e r start end) unseen arc ≡ seen_of box e r start end arc
  seen_is arc = seen_on unseen arc

-- ---- a point more
module _ (test : ArcTest) where
  -- it is taken behind those before it
  seen_more : (seen : Seen) (arc : List Sample) (n : ℕ) → n < length arc → seen_after test seen (take (suc n) arc) ≡ taken test (seen_after test seen (take n arc)) (sample_point arc n)
  unfolding seen_after
  seen_more seen [] n h = absurd (omega arith)
  seen_more seen (s ∷ arc) zero h = refl
  seen_more seen (s ∷ arc) (suc n) h = seen_more (taken test seen s.point) arc n (omega arith)

  -- behind some of them, what is known is their own, taken on
  pub seen_append : (seen : Seen) (a b : List Sample) → seen_after test seen (a ++ b) ≡ seen_after test (seen_after test seen a) b
  unfolding seen_after
  seen_append seen [] b = refl
  seen_append seen (s ∷ a) b = seen_append (taken test seen s.point) a b

  -- behind one outside the box nothing changes that
  pub once_out : (seen : Seen) (arc : List Sample) → seen.escapes ≡ true → (seen_after test seen arc).escapes ≡ true
  unfolding seen_after taken
  once_out seen [] h = h
  once_out seen (s ∷ arc) h = once_out (taken test seen s.point) arc (ap (λ b. b || lt test.limit (distance s.point test.centre)) h)

-- NaN is above no limit
nan_above : (limit : Float) → lt limit nan ≡ false
nan_above limit = refuted (lt limit nan) (λ (t : T (lt limit nan)). number_right limit nan (lt→le limit nan t))

same_or : (known : Bool) {more : Bool} → more ≡ false → known || more ≡ known
same_or known h = ap (λ b. known || b) h ∙ or-false known

-- ---- a point that changes nothing
module _ (test : ArcTest) (seen : Seen) (p : Vec3) {out to_end : Float} (F : T (fits binary64 out)) (G : T (fits binary64 to_end))
    (o : out ≡ v_length_squared (v_sub p test.centre)) (e : to_end ≡ v_length_squared (v_sub p test.end)) where
  pub quiet : (known inside away : Bool) → known ≡ seen.reaches_start → inside ≡ lt out (low_cut test.limit) → away ≡ lt (high_cut test.near) to_end
      → (known && inside) && away ≡ true → taken test seen p ≡ seen
  unfolding taken v_length
  quiet true true true k i a h = λ j. record {
    escapes = same_or seen.escapes (sym (rw o at (low_not_above test.limit out F (sym i)))) j;
    reaches_start = (ap (λ b. b || le (distance p test.start) test.near) (sym k) ∙ k) j;
    reaches_end = same_or seen.reaches_end (sym (rw e at (high_not_within test.near to_end G (sym a)))) j;
  }
  quiet true true false k i a h = absurd (false≢true h)
  quiet true false c k i a h = absurd (false≢true h)
  quiet false b c k i a h = absurd (false≢true h)

pub one_walk : OneWalk
unfolding taken seen_after le
one_walk = record {
  part = λ box e r start end arc n. seen_is box e r start end (take n arc);
  whole = λ T e r arc. ap served (seen_is (reference T e) e r (edge_start T e) (edge_end T e) arc);
  none = λ test. refl;
  more = λ test. seen_more test unseen;
  nan_centre = λ test seen p h. same_or seen.escapes (ap (lt test.limit) h ∙ nan_above test.limit);
  nan_start = λ test seen p h. same_or seen.reaches_start (ap (λ d. le d test.near) h);
  nan_end = λ test seen p h. same_or seen.reaches_end (ap (λ d. le d test.near) h);
}
