-- A slice's records, chunk by chunk, as `chunks_exact` gives them. Assumes nothing.
use Rattle.std.proofs.Common.{◌≡◌, refl, sym, ap, ◌∙◌, ℕ, zero, suc, ◌+◌, ◌*◌, ◌/◌, ◌<◌, List, [], ◌∷◌, ◌++◌, length, get_or, arith, add-zero}
use Rattle.std.proofs.Math.Nat.{mul_comm}
use Rattle.std.proofs.lemmas.List.{get_or_append_left, get_or-append-add, length-append}
use Rattle.std.specs.Float.Ieee.{Float, nan}
use Rattle.edge_record.specs.Chain.{width, sample_at, samples_from}
use Rattle.edge_record.specs.Own.Stored.{record_point}
use Rattle.edge_record.specs.Own.Records.{records_of}

-- a chunk's point is its record's
pub chunk_point : (x c : List Float) (k : ℕ) → ((j : ℕ) (d : Float) → j < width → get_or x j d ≡ get_or c (k * width + j) d) → record_point x 0 ≡ record_point c k
unfolding sample_at
chunk_point x c k at =
    let here : (j : ℕ) → j < width → get_or x j nan ≡ get_or c (width * k + j) nan = λ j l. at j nan l ∙ ap (λ i. get_or c (i + j) nan) (mul_comm k width) in
    let first = here 0 (omega arith) in
    rw (rw add-zero at first, here 1 (omega arith), here 2 (omega arith))

-- a chunk of one record, and what lies behind it
module _ (x more : List Float) (one : length x ≡ width) where
  sample_behind : (i : ℕ) → sample_at (x ++ more) (suc i) ≡ sample_at more i
  unfolding sample_at
  sample_behind i =
      let at : (j : ℕ) → get_or (x ++ more) (width * suc i + j) nan ≡ get_or more (width * i + j) nan =
      λ j. let k : width * suc i + j ≡ length x + (width * i + j) = omega arith in rw k (get_or-append-add x more (width * i + j) nan) in
      let first : get_or (x ++ more) (width * suc i) nan ≡ get_or more (width * i) nan =
      let k : width * suc i ≡ length x + width * i = omega arith in rw k (get_or-append-add x more (width * i) nan) in
      rw (first, at 1, at 2, at 3)

  samples_behind : (i n : ℕ) → samples_from (x ++ more) (suc i) n ≡ samples_from more i n
  unfolding samples_from
  samples_behind i zero = refl
  samples_behind i (suc n) = rw (sample_behind i, samples_behind (suc i) n)

  pub first_record : records_of (x ++ more) ≡ sample_at (x ++ more) 0 ∷ records_of more
  unfolding samples_from
  first_record =
      let k : length (x ++ more) / width ≡ suc (length more / width) = let l = length-append x more in omega arith in
      rw k (ap (λ l. sample_at (x ++ more) 0 ∷ l) (samples_behind 0 (length more / width)))

  pub first_point : record_point x 0 ≡ record_point (x ++ more) 0
  first_point = chunk_point x (x ++ more) 0 (λ j d h. let k : 0 * width + j ≡ j = omega arith in rw k (sym (get_or_append_left x more d j (omega arith))))

-- less than a record is none
pub no_records : (c : List Float) → length c < width → records_of c ≡ []
unfolding samples_from
no_records c h = let k : length c / width ≡ 0 = omega arith in rw k
