-- The definitions at work, by computation. Assumes nothing.
use Rattle.std.specs.Prelude.{Option, ℕ, None, Some, Err, Ok}
use Rattle.std.proofs.Common.{◌≡◌, ℕ, Bool, true, false, List, [], ◌∷◌, take, refl}
use lib.Ieee.{Float, lt, eq, ne, add, sub, mul, div, of_bits, of_int}
use Rattle.arith.specs.Notation.{◌⊖◌, bits, plus_zero, half, one, two}
use Rattle.math.specs.declared.Interval.{Interval}
use Rattle.math.specs.Math.{at, interval}
use Rattle.knots_inside.specs.Thinned.{thinned_from, thin_breaks}
use Rattle.edge_params.specs.Work.{joins, joining, some_far, asking, overflows, within}
use Rattle.edge_params.specs.Params.{subdividing, forming, Sampler, steps, breaks_along, unless_hi, walking, bisecting, floored, refined, sample_params}
use Rattle.refusal.specs.declared.Refusal.TheVariants.{NoRoom, TooFar}

abbrev three : Float
three = bits 0x4008000000000000

abbrev four : Float
four = bits 0x4010000000000000

abbrev five : Float
five = bits 0x4014000000000000

-- two and a half
abbrev between : Float
between = bits 0x4004000000000000

-- a sampler whose spans are all within budget, and one that splits them all; nothing is too far for either
flat : Option ℕ → Bool → ℕ → List Float → Sampler
flat c meets least breaks = record {
  closed = c;
  meets = λ l. meets;
  within = λ a b. true;
  depth = 24;
  least = least;
  breaks = breaks;
  break_asks = [];
  far = λ t. false;
}

bent : ℕ → List Float → Sampler
bent depth breaks = record {
  closed = None;
  meets = λ l. true;
  within = λ a b. false;
  depth = depth;
  least = 1;
  breaks = breaks;
  break_asks = [];
  far = λ t. false;
}

-- one that splits all spans down to depth 2, for which these parameters are too far, and whose thin_breaks asks for those
wary : Option ℕ → (Float → Bool) → List Float → Sampler
wary c far asks = record {
  closed = c;
  meets = λ l. true;
  within = λ a b. false;
  depth = 2;
  least = 1;
  breaks = [];
  break_asks = asks;
  far = far;
}

-- ---- the closed form: 0..5 in four segments
long : Interval
long = interval plus_zero five

quarters : List Float
quarters = plus_zero ∷ bits 0x3FF4000000000000 ∷ between ∷ bits 0x400E000000000000 ∷ five ∷ []

closed_stands : within 5 (sample_params (flat (Some 4) true 1 []) long) ≡ Ok quarters
unfolding flat long quarters sample_params overflows joining steps at add sub mul div of_int of_bits
closed_stands = refl

closed_refused : within 4 (sample_params (flat (Some 4) true 1 []) long) ≡ Err NoRoom
unfolding flat long sample_params overflows joining steps
closed_refused = refl

-- one that leaves the curve is bisected; a floor of four segments then asks for even steps
closed_fails : within 5 (sample_params (flat (Some 1) false 4 []) long) ≡ Ok quarters
unfolding flat long quarters sample_params refined asking some_far overflows joining bisecting forming breaks_along walking subdividing unless_hi floored steps at add sub mul div of_int of_bits lt eq ne
closed_fails = refl

-- the acts in order: both lists of 0 and 5, then the first of the even steps
closed_fails_acts : take 5 (sample_params (flat (Some 1) false 4 []) long).acts ≡ joins 1 plus_zero ∷ joins 2 five ∷ joins 1 plus_zero ∷ joins 2 five ∷ joins 1 plus_zero ∷ []
unfolding flat long sample_params refined asking some_far joining bisecting forming breaks_along walking subdividing unless_hi floored steps at add sub mul div of_int of_bits lt eq ne
closed_fails_acts = refl

-- a list that is formed and not kept is refused too: five steps where two parameters are the answer
closed_refused_late : within 4 (sample_params (flat (Some 4) false 1 []) long) ≡ Err NoRoom
unfolding flat long sample_params refined asking some_far overflows joining bisecting forming breaks_along walking subdividing unless_hi floored steps at add sub mul div of_int of_bits lt eq ne
closed_refused_late = refl

-- ---- bisection: 3..3 gives 3, 3
same : within 2 (sample_params (flat None true 1 []) (interval three three)) ≡ Ok (three ∷ three ∷ [])
unfolding flat sample_params refined asking some_far overflows joining bisecting forming breaks_along walking subdividing unless_hi floored of_bits lt eq ne
same = refl

-- 0..4 split twice
twice : within 5 (sample_params (bent 2 []) (interval plus_zero four)) ≡ Ok (plus_zero ∷ one ∷ two ∷ three ∷ four ∷ [])
unfolding bent sample_params refined asking some_far overflows joining bisecting forming breaks_along walking subdividing unless_hi floored add mul of_bits lt eq ne
twice = refl

-- 4..0 with breaks 1 and 2, each span split once
backwards : within 7 (sample_params (bent 1 (one ∷ two ∷ [])) (interval four plus_zero))
    ≡ Ok (four ∷ three ∷ two ∷ bits 0x3FF8000000000000 ∷ one ∷ half ∷ plus_zero ∷ [])
unfolding bent sample_params refined asking some_far overflows joining bisecting forming breaks_along walking subdividing unless_hi floored add mul of_bits lt eq ne
backwards = refl

bisected_refused : within 6 (sample_params (bent 1 (one ∷ two ∷ [])) (interval four plus_zero)) ≡ Err NoRoom
unfolding bent sample_params refined asking some_far overflows joining bisecting forming breaks_along walking subdividing unless_hi add mul of_bits lt eq ne
bisected_refused = refl

-- 0..3 with a break at 1 has two segments: a floor of two is met, one of three is not
floor_met : within 4 (sample_params (flat None true 2 (one ∷ [])) (interval plus_zero three)) ≡ Ok (plus_zero ∷ one ∷ three ∷ [])
unfolding flat sample_params refined asking some_far overflows joining bisecting forming breaks_along walking subdividing unless_hi floored of_bits lt eq ne
floor_met = refl

floor_missed : within 4 (sample_params (flat None true 3 (one ∷ [])) (interval plus_zero three)) ≡ Ok (plus_zero ∷ one ∷ two ∷ three ∷ [])
unfolding flat sample_params refined asking some_far overflows joining bisecting forming breaks_along walking subdividing unless_hi floored steps at add sub mul div of_int of_bits lt eq ne
floor_missed = refl

-- ---- 0..4 split twice, where 3 is too far: 0, 1 and 2 join the list before 3 is asked for
far_asked : within 3 (sample_params (wary None (λ t. eq t three) []) (interval plus_zero four)) ≡ Err TooFar
unfolding wary sample_params refined asking some_far overflows bisecting forming breaks_along walking subdividing unless_hi add mul of_bits lt eq ne
far_asked = refl

-- in a room for two of them 8 comes first
far_late : within 2 (sample_params (wary None (λ t. eq t three) []) (interval plus_zero four)) ≡ Err NoRoom
unfolding wary sample_params refined asking some_far overflows bisecting forming breaks_along walking subdividing unless_hi add mul of_bits lt eq ne
far_late = refl

-- what thin_breaks asks for comes before any list
far_break : within 0 (sample_params (wary None (λ t. eq t three) (three ∷ [])) (interval plus_zero four)) ≡ Err TooFar
unfolding wary sample_params refined asking some_far overflows of_bits eq
far_break = refl

-- a closed form that stands asks for nothing
far_closed : within 5 (sample_params (wary (Some 4) (λ t. true) (three ∷ [])) long) ≡ Ok quarters
unfolding wary long quarters sample_params overflows joining steps at add sub mul div of_int of_bits
far_closed = refl

-- ---- breaks 1, 2, 3 of 0..4, the deviation of a span being its width, sag 2.5: from 0 the chord to 2 is within it and that to 3
-- is not, so 2 stays; from 2 the chord to the end is within it
kept : thin_breaks (one ∷ two ∷ three ∷ []) plus_zero four between (λ a b. b ⊖ a) ≡ two ∷ []
unfolding thin_breaks thinned_from sub of_bits lt
kept = refl

-- where the sag is not above 0 all stay
all_kept : thin_breaks (one ∷ two ∷ []) plus_zero four plus_zero (λ a b. plus_zero) ≡ one ∷ two ∷ []
unfolding thin_breaks of_bits lt
all_kept = refl
