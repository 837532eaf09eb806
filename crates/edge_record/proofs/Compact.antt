-- Records moved to a buffer's start: what is kept so far, then what f leaves of the rest, is the whole. Assumes nothing.
use mathlib.Core.Path.{◌≡◌, refl, sym, ap, ◌∙◌}
use mathlib.Core.List.{List, [], ◌∷◌, ◌++◌, append_assoc, append-nil}
use Prim.Native.Nat.{ℕ, suc, ◌+◌, ◌-◌, ◌*◌, ◌<◌, ◌≤◌}
use native.Mathlib.Numerals.{add-one}
use native.Mathlib.Omega.{arith}
use lib.ListN.{length}
use lib.Seq.{sets}
use lib.Ieee.{Float}
use Rattle.edge_record.specs.declared.Sample.{Sample}
use Rattle.edge_record.specs.Own.Stored.{ChainStored}
use Rattle.edge_record.specs.Chain.{width, row, flat, sample_at, samples_from, samples}
use Rattle.edge_record.proofs.Laws.{push, sample_at-behind}

-- of the first m records of c those before i are read, and `chain` holds `kept` at its start
pub record Compacted (c : List Float) (m : ℕ) (whole : List Sample) (f : List Sample → List Sample) (chain : List Float) (kept : List Sample) (i : ℕ) : Type 0 where
  pub floats : chain ≡ sets c 0 (flat kept)
  pub rest : kept ++ f (samples_from c i (m - i)) ≡ whole

pub compact_start : (c : List Float) (m : ℕ) (f : List Sample → List Sample) → Compacted c m (f (samples m c)) f c [] 0
unfolding flat
compact_start c m f = record { floats = refl; rest = let q : m - 0 ≡ m = omega arith in rw q }

-- the records left after i
abbrev pub left : List Float → ℕ → ℕ → List Sample
left c m i = samples_from c (i + 1) (m - (i + 1))

one_more : (c : List Float) (m i : ℕ) → i < m → samples_from c i (m - i) ≡ sample_at c i ∷ left c m i
unfolding samples_from
one_more c m i h = let q : m - i ≡ suc (m - (i + 1)) = omega arith in rw (q, add-one i)

module _ {c : List Float} {m : ℕ} {whole : List Sample} {f : List Sample → List Sample} {chain : List Float} {kept : List Sample} {i : ℕ} (w : Compacted c m whole f chain kept i) where
  -- the records from the last kept one on are as they were
  pub compact_behind : (j : ℕ) → length kept ≤ j → sample_at chain j ≡ sample_at c j
  compact_behind j h = ap (λ (r : List Float). sample_at r j) w.floats ∙ sample_at-behind c kept j h

  module _ (g : List Sample → List Sample) (inside : i < m) where
    pub compact_skip : f (sample_at c i ∷ left c m i) ≡ g (left c m i) → Compacted c m whole g chain kept (i + 1)
    compact_skip e = record {
      floats = w.floats;
      rest = ap (λ (r : List Sample). kept ++ r) (sym (ap f (one_more c m i inside) ∙ e)) ∙ w.rest;
    }

    pub compact_keep : (s : Sample) (d : List Float) → s ≡ sample_at chain i → length kept ≤ i → f (s ∷ left c m i) ≡ s ∷ g (left c m i) → d ≡ sets chain (width * length kept) (row s)
        → Compacted c m whole g d (kept ++ (s ∷ [])) (i + 1)
    compact_keep s d q h e b =
        let same : s ≡ sample_at c i = q ∙ compact_behind i h in
        record {
          floats = b ∙ ap (λ (r : List Float). sets r (width * length kept) (row s)) w.floats ∙ push c kept s;
          rest =
              append_assoc kept (s ∷ []) (g (left c m i))
              ∙ ap (λ (r : List Sample). kept ++ r) (sym (ap f (one_more c m i inside) ∙ ap (λ (t : Sample). f (t ∷ left c m i)) (sym same) ∙ e))
              ∙ w.rest;
        }

  pub compact_all : f [] ≡ [] → m ≤ i → kept ≡ whole
  unfolding samples_from
  compact_all e h =
      let q : m - i ≡ 0 = omega arith in
      let z : f (samples_from c i (m - i)) ≡ [] = rw q e in
      sym (append-nil kept) ∙ ap (λ (r : List Sample). kept ++ r) (sym z) ∙ w.rest

  pub compact_done : (k : ℕ) → length kept ≡ k → f [] ≡ [] → m ≤ i → ChainStored c chain k whole
  compact_done k n e h = record {
    count = sym n ∙ ap length (compact_all e h);
    floats = w.floats ∙ ap (λ (r : List Sample). sets c 0 (flat r)) (compact_all e h);
  }
