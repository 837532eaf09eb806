-- A list at the start of a buffer, and zeros after it. Assumes nothing.
use mathlib.Core.Path.{◌≡◌, ap, ◌∙◌}
use mathlib.Core.List.{List, ◌++◌, append_assoc}
use Prim.Native.Nat.{ℕ, ◌+◌, ◌-◌, ◌≤◌}
use native.Mathlib.Omega.{arith}
use lib.ListN.{length, take, drop, replicate, length-append, length-replicate, replicate-append-replicate}
use lib.Seq.{take-append_seam, drop_at}
use lib.Ieee.{Float, binary64, of_bits}
use Rattle.base_lists.specs.Room.{filled}

pub filled_length : (n : ℕ) (l : List Float) → length l ≤ n → length (filled n l) ≡ n
filled_length n l h = length-append l (replicate (n - length l) (of_bits binary64 0)) ∙ omega (arith, length-replicate (n - length l) (of_bits binary64 0))

-- a list that fills up to n is no longer than n
pub filled_most : (n : ℕ) (l : List Float) → length (filled n l) ≡ n → length l ≤ n
filled_most n l h = omega (arith, length-append l (replicate (n - length l) (of_bits binary64 0)))

pub filled_front : (n : ℕ) (l : List Float) → take (length l) (filled n l) ≡ l
filled_front n l = take-append_seam l (replicate (n - length l) (of_bits binary64 0))

-- the part that held k, filled up behind l
pub filled_part : (room n : ℕ) (k l : List Float) → length k ≡ n → n ≤ room → length l ≤ n → filled n l ++ drop n (filled room k) ≡ filled room l
filled_part room n k l e h g =
    ap (λ (t : List Float). filled n l ++ t) (drop_at k (replicate (room - length k) (of_bits binary64 0)) n e)
    ∙ append_assoc l (replicate (n - length l) (of_bits binary64 0)) (replicate (room - length k) (of_bits binary64 0))
    ∙ ap (λ (t : List Float). l ++ t) (replicate-append-replicate (n - length l) (room - length k) (of_bits binary64 0) ∙ ap (λ (m : ℕ). replicate m (of_bits binary64 0)) sum)
  where
    sum : (n - length l) + (room - length k) ≡ room - length l
    sum = omega arith
