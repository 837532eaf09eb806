-- Two blocks, one behind the other, as what stands for them. Assumes nothing.
use Rattle.std.proofs.Common.{◌≡◌, Bool, true, false, List, [], ◌∷◌, ℕ, eqb, refl, ◌∙◌, Some, None}
use Rattle.text_format.specs.Format.{Format, Parsed, when, and_then, expect, ◌ending◌, ◌then◌}
use Rattle.text_format.specs.Table.{single}
use Rattle.sheet_layout.specs.Layout.{edge_columns, option_columns, ends}
use Rattle.sheet_row.specs.Rows.{raw_edge_of, raw_options_of}
use Rattle.sheet_edge.specs.Own.Answers.{parsed_as, raw_ends_of}

-- the text w stands for the value as for what it stands for
expect-as : {A X : Type 0} (f : A → X) (w : List ℕ) (a : A) (bs : List ℕ) → expect w (f a) bs ≡ parsed_as f (expect w a bs)
unfolding expect when
expect-as f [] a bs = refl
expect-as f (c ∷ w) a [] = refl
expect-as f (c ∷ w) a (b ∷ bs) = go (eqb b c) (expect-as f w a bs)
  where
    go : (t : Bool) → expect w (f a) bs ≡ parsed_as f (expect w a bs) → when t (expect w (f a) bs) ≡ parsed_as f (when t (expect w a bs))
    go true e = e
    go false e = refl

-- what both stand for
abbrev pub of_both : {A B X Y : Type 0} → (A → X) → (B → Y) → A × B → X × Y
of_both f g t = (f t.0, g t.1)

-- what reads G behind x
abbrev pub behind : {X B Y : Type 0} → (B → Y) → Format B → X → List ℕ → Parsed (X × Y)
behind g G x rest = and_then (parsed_as g (G.read rest)) (λ y last. Some ((x, y), last))

module _ {A B X Y : Type 0} (f : A → X) (g : B → Y) (F : Format A) (w : List ℕ) (G : Format B) (s : List ℕ) where
  both_as : parsed_as (of_both f g) ((F ending w then G).read s) ≡ and_then (and_then (parsed_as f (F.read s)) (expect w)) (behind g G)
  unfolding ◌ending◌ ◌then◌ and_then
  both_as = go (F.read s)
    where
      last : (a : A) (q : Parsed B) → parsed_as (of_both f g) (and_then q (λ b more. Some ((a, b), more))) ≡ and_then (parsed_as g q) (λ y more. Some ((f a, y), more))
      last a None = refl
      last a (Some p) = refl

      next : (q : Parsed A) → parsed_as (of_both f g) (and_then q (λ a rest. and_then (G.read rest) (λ b more. Some ((a, b), more)))) ≡ and_then (parsed_as f q) (behind g G)
      next None = refl
      next (Some (a, rest)) = last a (G.read rest)

      go : (q : Parsed A) → parsed_as (of_both f g) (and_then (and_then q (expect w)) (λ a rest. and_then (G.read rest) (λ b more. Some ((a, b), more))))
          ≡ and_then (and_then (parsed_as f q) (expect w)) (behind g G)
      go None = refl
      go (Some (a, rest)) = next (expect w a rest) ∙ rw (expect-as f w a rest) refl

pub ends_as : (s : List ℕ) → parsed_as raw_ends_of (ends.read s)
    ≡ and_then (and_then (parsed_as raw_edge_of ((single edge_columns).read s)) (expect (10 ∷ []))) (behind raw_options_of (single option_columns))
ends_as s = both_as raw_edge_of raw_options_of (single edge_columns) (10 ∷ []) (single option_columns) s
