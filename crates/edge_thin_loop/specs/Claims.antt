-- What is proved: `flagged` and `thinned` answer exactly where the Rust ends, with what it gives, and refuse exactly where it never ends.
-- Definitions only.
use Rattle.std.specs.Prelude.{◌≡◌, Bool, ◌↔◌, List, ◌∷◌, ℕ, ◌<◌, Float, length, Err, Ok}
use Rattle.math.specs.declared.Vec3.{Vec3}
use Rattle.edge_record.specs.declared.Sample.{Sample}
use Rattle.edge_thin_span.specs.Span.{decision}
use Rattle.edge_thin_mark.specs.Spans.{flagged}
use Rattle.edge_thin.specs.Thin.{thinned}
use Rattle.edge_thin_loop.specs.Loop.{state, begun, Reaches, LoopEnds, Returns}
use Rattle.edge_thin_loop.specs.Endless.{EndlessSpan, ReachesEndless, ThinEndless}
use Rattle.refusal.specs.Answer.{Answer}
use Rattle.refusal.specs.declared.Refusal.TheVariants.{Endless}
use Rattle.refusal.specs.declared.Refusal.{Refusal}

-- an answer or a refusal of our definitions, against what the Rust ends with and whether it comes to an endless span
pub record Agrees {A : Type 0} (ours : Answer A) (EndsWith : A → Type 0) (ComesToEndless : Type 0) : Type 0 where
  -- an answer is got exactly where the Rust ends with it
  pub answers : (x : A) → ours ≡ Ok x ↔ EndsWith x
  -- it is refused with 9 exactly where the Rust never ends
  pub never : ours ≡ Err Endless ↔ ((x : A) → EndsWith x → ⊥)
  -- and exactly where it comes to an endless span
  pub endless : ours ≡ Err Endless ↔ ComesToEndless
  -- there is no other refusal
  pub nine : (k : Refusal) → ours ≡ Err k → k ≡ Endless

-- of the spans and of the loop over them, with n points
pub record Loops (points : ℕ → Vec3) (tolerance angle : Float) (n : ℕ) : Type 0 where
  -- a span is refused exactly where it is endless
  pub spans : (a b : ℕ) → decision points tolerance angle a b ≡ Err Endless ↔ EndlessSpan points tolerance angle a b
  -- the flags are those that the loop ends with
  pub flags : Agrees (flagged points tolerance angle n) (LoopEnds points tolerance angle n) (ReachesEndless points tolerance angle (begun n))
  -- a span that is taken ends at one of the points, and each point has a flag: the loop asks for none past the end
  pub within : (a b : ℕ) (stack : List (ℕ × ℕ)) (keep : List Bool) → 0 < n → Reaches points tolerance angle (begun n) (state ((a, b) ∷ stack) keep) → (b < n) × (length keep ≡ n)

-- of the whole of `thin`
abbrev pub Thins : Float → Float → ℕ → List Sample → Type 0
Thins tolerance angle floor chain = Agrees (thinned tolerance angle floor chain) (Returns tolerance angle floor chain) (ThinEndless tolerance angle chain)
