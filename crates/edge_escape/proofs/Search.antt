-- What the test of a chain's points, record by record, says of the chain. Assumes nothing.
use Rattle.std.proofs.Common.{◌≡◌, refl, sym, ap, ◌∙◌, Bool, true, false, ◌||◌, ℕ, zero, suc, ◌+◌, ◌/◌, ◌<◌, List, [], ◌∷◌, length, arith, add-zero, suc-add, add-suc}
use Rattle.std.proofs.Math.Bool.{or-false, or_assoc}
use Rattle.std.proofs.Math.Nat.{zero-add}
use Rattle.std.specs.Float.Ieee.{Float, lt}
use Rattle.std.specs.Prelude.{Option, Some, None, IsTrue, IfSome, MatchBool}
use Rattle.std.specs.Option.{option_map}
use Rattle.std.specs.Iterator.Runs.{Run, AnyItemGives, AllItemsGive, CallKeepsClosure}
use Rattle.std.proofs.lemmas.Bool.{true≢false}
use denote.Param.Members.{Mut, Called}
use lib.Dec.{T}
use lib.Ieee.{nan, binary64, fits, le}
use lib.Ieee.Fits.{mul-fits}
use Rattle.arith_order.proofs.Laws.{number_right}
use Rattle.arith.proofs.Cmp.{holds}
use Rattle.arith.specs.Notation.{◌⊗◌}
use Rattle.arith_root.specs.Root.{root_of}
use Rattle.arith_root_limit.specs.Own.Limit.{cut_if}
use Rattle.arith_root_limit.proofs.Roots.{not_above}
use Rattle.math.specs.declared.Vec3.{Vec3}
use Rattle.math.specs.declared.Aabb.{Aabb}
use Rattle.math.specs.Math.{distance, centre}
use Rattle.options.specs.declared.Resolved.{Resolved}
use Rattle.causes_bounds.specs.Some.{some_below}
use Rattle.edge_record.specs.declared.Sample.{Sample}
use Rattle.edge_record.specs.Own.Stored.{record_point}
use Rattle.edge_record.specs.Chain.{width, samples_from, samples}
use Rattle.draw_spec.specs.Repair.{escape_limit, escapes}
use Rattle.edge_record.specs.Own.Records.{records_of}

-- some point of a chain passes a test
abbrev some_of : (Vec3 → Bool) → List Sample → Bool
some_of P [] = false
some_of P (s ∷ l) = P s.point || some_of P l

-- the test of `escapes`
abbrev pub beyond : Float → Vec3 → Vec3 → Bool
beyond limit centre p = lt limit (distance p centre)

-- a cut that is the limit's own square, where that serves: what is not above it has no root above the limit
pub spared : (s at : Float) {cut : Float} → T (fits binary64 s) → cut ≡ cut_if (le (root_of (at ⊗ at)) at) (at ⊗ at) → le s cut ≡ true → false ≡ lt at (root_of s)
spared s at {cut} F e h = go (le (root_of (at ⊗ at)) at) refl (rw (← e) h)
  where
    go : (b : Bool) → le (root_of (at ⊗ at)) at ≡ b → le s (cut_if b (at ⊗ at)) ≡ true → false ≡ lt at (root_of s)
    go true t k = not_above s (at ⊗ at) at F (mul-fits binary64 at at) t k
    go false t k = absurd (number_right s nan (holds k))

-- ---- record by record
module _ (P : Vec3 → Bool) (c : List Float) where
  some_more : (i n : ℕ) → some_of P (samples_from c i (suc n)) ≡ some_of P (samples_from c i n) || P (record_point c (i + n))
  unfolding samples_from
  some_more i zero = or-false (P (record_point c i)) ∙ ap (λ k. P (record_point c k)) (sym (add-zero i))
  some_more i (suc n) =
      ap (λ b. P (record_point c i) || b) (some_more (suc i) n)
      ∙ sym (or_assoc (P (record_point c i)) (some_of P (samples_from c (suc i) n)) _)
      ∙ ap (λ k. (P (record_point c i) || some_of P (samples_from c (suc i) n)) || P (record_point c k)) (suc-add i n ∙ sym (add-suc i n))

  pub some_records : (n : ℕ) → some_below n (λ k. P (record_point c k)) ≡ some_of P (samples n c)
  unfolding some_below samples_from
  some_records zero = refl
  some_records (suc n) =
      ap (λ b. b || P (record_point c n)) (some_records n)
      ∙ ap (λ k. some_of P (samples n c) || P (record_point c k)) (sym (zero-add n))
      ∙ sym (some_more 0 n)

escapes_list : (box : Aabb) (r : Resolved) (l : List Sample) → some_of (beyond (escape_limit box r) (centre box)) l ≡ escapes box r l
unfolding escapes
escapes_list box r [] = refl
escapes_list box r (s ∷ l) = ap (λ (b : Bool). beyond (escape_limit box r) (centre box) s.point || b) (escapes_list box r l)

-- the whole chain
module _ (c : List Float) (r : Resolved) (limit : Float) (q : Vec3) where
  pub escapes_whole : (box : Aabb) → limit ≡ escape_limit box r → q ≡ centre box → some_below (length c / width) (λ k. beyond limit q (record_point c k)) ≡ escapes box r (records_of c)
  escapes_whole box e f = some_records (beyond limit q) c (length c / width) ∙ rw (e, f) (escapes_list box r (records_of c))

-- ---- what `all` has answered over a run, whose item number k shows P of k
module _ {S A F : Type 0} {steps : S → Option A → S → Type 0} (p : Run steps) {g : Mut F (A × Unit {0}) Bool} {f : F} (P : ℕ → Type 0) (n : ℕ) (d : A) where
  pub all_of_run : (r : Bool) → MatchBool r (IsTrue p.whole × AllItemsGive p g f true) (AnyItemGives p g f false) → r ≡ true → CallKeepsClosure g f → (p.whole ≡ true → p.len ≡ n) → {IsAt : ℕ → A → Type 0} → ((k : ℕ) → IfSome (p.at k) (IsAt k)) → ((k : ℕ) (x : A) → IsAt k x → Called g f (x, tt) true f → P k) → (k : ℕ) → k < n → P k
  all_of_run false any e keeps long {IsAt = IsAt} at each k l = absurd (true≢false (sym e))
  all_of_run true all e keeps long {IsAt = IsAt} at each k l = let same = long all.0 in passed (p.at k) (at k) (all.1 keeps k) (p.reads k d (omega arith))
    where
      passed : (o : Option A) {y : A} → IfSome o (IsAt k) → IfSome o (λ x. Called g f (x, tt) true f) → option_map (λ y. y) o ≡ Some y → P k
      passed None i c s = cc
      passed (Some x) i c s = each k x i c
