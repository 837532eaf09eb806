-- Depths from the table of the lower rows' depths: a run in two parts, and what is kept of blocks as rows are passed. Assumes nothing.
use Rattle.std.proofs.Common.{◌≡◌, ℕ, zero, suc, ◌+◌, ◌-◌, ◌*◌, ◌<◌, ◌≤◌, max, Bool, true, false, cond, refl, sym, ◌∙◌, arith, List, get_or, set, replicate, ltb, Option, None}
use Rattle.std.proofs.Math.Nat.{add-zero, add-suc, mul-le-mul_right}
use Rattle.std.proofs.Math.Seq.{get_or-set_other}
use Rattle.std.proofs.lemmas.Bool.{ltb-true, lt-ltb}
use Rattle.causes_nesting.specs.Own.Depths.{Seen, depth_below, segment_depth, deepest_of, passed, Known}

module _ (seen : Seen) (from : ℕ) where
  -- none
  pub deepest_none : (to : ℕ) → to ≤ from → 0 ≡ deepest_of seen from (to - from)
  unfolding deepest_of
  deepest_none to l = let z : to - from ≡ 0 = omega arith in rw z

  -- one segment more
  pub deepest_more : (i a d r : ℕ) → from ≤ i → a ≡ deepest_of seen from (i - from) → d ≡ segment_depth seen i → r ≡ max a d → r ≡ deepest_of seen from (i + 1 - from)
  unfolding deepest_of
  deepest_more i a d r l h e g =
      let n : i + 1 - from ≡ suc (i - from) = omega arith in
      let p : from + (i - from) ≡ i = omega arith in
      rw (n, p, ← h, ← e) g

  -- all of them
  pub deepest_all : (i to a : ℕ) → from ≤ i → i ≤ max from to → to ≤ i → a ≡ deepest_of seen from (i - from) → a ≡ deepest_of seen from (to - from)
  deepest_all i to a l m g h = let n : i - from ≡ to - from = omega arith in rw n at h

  -- a run in two parts
  deepest_split : (n m : ℕ) → deepest_of seen from (n + m) ≡ max (deepest_of seen from n) (deepest_of seen (from + n) m)
  unfolding deepest_of
  deepest_split n zero = let z = add-zero n in rw z (omega arith)
  deepest_split n (suc m) =
      let h = deepest_split n m in
      let s : from + (n + m) ≡ from + n + m = omega arith in
      rw (add-suc n m, h, s) (omega arith)

  pub deepest_joined : (middle to a b r : ℕ) → from ≤ middle → middle ≤ to → a ≡ deepest_of seen from (middle - from) → b ≡ deepest_of seen middle (to - middle) → r ≡ max a b → r ≡ deepest_of seen from (to - from)
  deepest_joined middle to a b r l m h k g =
      let n : to - from ≡ (middle - from) + (to - middle) = omega arith in
      let p : from + (middle - from) ≡ middle = omega arith in
      rw (n, deepest_split (middle - from) (to - middle), p, ← h, ← k) g

-- ---- what is kept of blocks, as a row of this depth is passed
module _ (seen : Seen) (depth : ℕ) where
  below_same : (base : ℕ) → depth_below seen base < 10 → depth_below (passed seen depth) base ≡ depth_below seen base
  unfolding depth_below
  below_same base l = go (ltb base seen.row) refl l
    where
      go : (b : Bool) → ltb base seen.row ≡ b → cond b (get_or seen.rows base 0) 10 < 10 → cond (ltb base (seen.row + 1)) (get_or (set seen.rows seen.row depth) base 0) 10 ≡ cond b (get_or seen.rows base 0) 10
      go false e h = absurd (omega arith)
      go true e h =
          let m = ltb-true base seen.row e in
          let k = lt-ltb base (seen.row + 1) (omega arith) in
          rw k (get_or-set_other seen.rows seen.row base depth 0 (λ w. omega arith))

  deepest_same : (first n : ℕ) → deepest_of seen first n < 10 → deepest_of (passed seen depth) first n ≡ deepest_of seen first n
  unfolding deepest_of
  deepest_same first zero l = refl
  deepest_same first (suc n) l =
      let a = deepest_same first n (omega arith) in
      let b = below_same (get_or seen.parts ((first + n) * 2) 0) (omega arith) in
      rw (a, b)

  pub known_more : {size : ℕ} {kept : List (Option ℕ)} → Known size seen kept → Known size (passed seen depth) kept
  known_more {size} h = record {
    told = λ b d e. let k = h.told b d e in (k.0, k.1 ∙ sym (deepest_same (b * size) ((b + 1) * size - b * size) (omega arith)));
  }

-- ---- whole blocks
-- block number b, of those before end, lies in a run that reaches it
pub block_inside : (size b end to : ℕ) → b < end → end * size ≤ to → (b + 1) * size ≤ to
block_inside size b end to l h = omega (arith, mul-le-mul_right {m = b + 1} {n = end} size (omega arith))

-- nothing is kept at first
pub none_known : (size : ℕ) (seen : Seen) (n : ℕ) → Known size seen (replicate n None)
none_known size seen n = record { told = λ b d e. let none = replicate_none n b in cc }
  where
    replicate_none : (n b : ℕ) → ◌≡◌ {A = Option ℕ} (get_or (replicate n None) b None) None
    replicate_none zero b = refl
    replicate_none (suc n) zero = refl
    replicate_none (suc n) (suc b) = replicate_none n b
