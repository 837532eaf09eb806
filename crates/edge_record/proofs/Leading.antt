-- The records of a buffer's leading part are the buffer's first. Assumes nothing.
use Rattle.std.proofs.Common.{◌≡◌, refl, ap, ◌∙◌, ℕ, zero, suc, ◌+◌, ◌*◌, ◌/◌, ◌<◌, ◌≤◌, List, length, get_or, take, arith, length-take-le, get_or-take}
use Rattle.std.proofs.Math.Nat.{mul-div_cancel_left}
use Rattle.std.specs.Float.Ieee.{Float, nan}
use Rattle.edge_record.specs.Chain.{width, sample_at, samples_from, samples}
use Rattle.edge_record.specs.Own.Records.{records_of}

module _ (c : List Float) (m : ℕ) where
  sample_take : (i : ℕ) → width * i + width ≤ m → sample_at (take m c) i ≡ sample_at c i
  unfolding sample_at
  sample_take i h =
      let at : (j : ℕ) → j < m → get_or (take m c) j nan ≡ get_or c j nan = λ j l. get_or-take m c j nan l in
      rw (at (width * i) (omega arith), at (width * i + 1) (omega arith), at (width * i + 2) (omega arith), at (width * i + 3) (omega arith))

  samples_take : (i n : ℕ) → width * (i + n) ≤ m → samples_from (take m c) i n ≡ samples_from c i n
  unfolding samples_from
  samples_take i zero h = refl
  samples_take i (suc n) h = rw (sample_take i (omega arith), samples_take (suc i) n (omega arith))

pub leading : (n : ℕ) (c : List Float) → width * n ≤ length c → records_of (take (width * n) c) ≡ samples n c
leading n c h =
    let l = length-take-le (width * n) c h in
    let k : length (take (width * n) c) / width ≡ n = ap (λ k. k / width) l ∙ mul-div_cancel_left n (omega arith) in
    rw k (samples_take c (width * n) 0 n (omega arith))
