-- The loop of `serves`: of the records taken so far is known what the definitions say of them. Assumes nothing.
use Rattle.std.proofs.Common.{◌≡◌, refl, sym, ap, ◌∙◌, true, false, ◌&&◌, ◌<◌, List, [], ◌∷◌, ◌++◌, length}
use mathlib.Core.List.{append_assoc, append-nil}
use Rattle.std.specs.Float.Ieee.{Float}
use Rattle.edge_record.specs.declared.Sample.{Sample}
use Rattle.edge_record.specs.Chain.{width, sample_at}
use Rattle.edge_record.specs.Own.Stored.{record_point}
use Rattle.edge_record.specs.Own.Records.{records_of}
use Rattle.edge_record.proofs.Chunks.{first_record, first_point, no_records}
use Rattle.edge_short_arc.specs.declared.Seen.{Seen}
use Rattle.edge_short_arc.specs.declared.ArcTest.{ArcTest}
use Rattle.edge_short_arc.specs.Seen.{unseen, taken, seen_after, served}
use Rattle.edge_short_arc.proofs.Laws.{seen_append, once_out}

-- of an arc the samples `before` are taken and the rest is not; what is known is what is known behind them, and none lay outside
pub record Walking (test : ArcTest) (arc : List Float) (seen : Seen) (rest : List Float) : Type 0 where
  pub before : List Sample
  pub split : before ++ records_of rest ≡ records_of arc
  pub so_far : seen ≡ seen_after test unseen before
  pub inside : seen.escapes ≡ false

module _ (test : ArcTest) (arc : List Float) where
  pub walking : {rest : List Float} → rest ≡ arc → Walking test arc unseen rest
  unfolding seen_after
  walking h = record { before = []; split = ap records_of h; so_far = refl; inside = refl }

  module _ {seen : Seen} {rest : List Float} (w : Walking test arc seen rest) where
    -- a record more
    module _ {next : Seen} (x more : List Float) (cut : rest ≡ x ++ more) (one : length x ≡ width) (t : next ≡ taken test seen (record_point x 0)) where
      abbrev first : Sample
      first = sample_at (x ++ more) 0

      split_more : (w.before ++ (first ∷ [])) ++ records_of more ≡ records_of arc
      split_more =
          append_assoc w.before (first ∷ []) (records_of more)
          ∙ ap (λ (l : List Sample). w.before ++ l) (sym (ap records_of cut ∙ first_record x more one))
          ∙ w.split

      so_far_more : next ≡ seen_after test unseen (w.before ++ (first ∷ []))
      unfolding seen_after
      so_far_more = t ∙ rw (first_point x more one, w.so_far) (sym (seen_append test unseen w.before (first ∷ [])))

      pub walking_on : next.escapes ≡ false → Walking test arc next more
      walking_on h = record { before = w.before ++ (first ∷ []); split = split_more; so_far = so_far_more; inside = h }

      pub walking_out : next.escapes ≡ true → false ≡ served (seen_after test unseen (records_of arc))
      walking_out h =
          let whole = ap (seen_after test unseen) (sym split_more) ∙ seen_append test unseen (w.before ++ (first ∷ [])) (records_of more) in
          let out = once_out test (seen_after test unseen (w.before ++ (first ∷ []))) (records_of more) (sym (ap (λ (s : Seen). s.escapes) so_far_more) ∙ h) in
          rw (whole, out)

    -- no record left
    module _ (short : length rest < width) where
      at_end : seen ≡ seen_after test unseen (records_of arc)
      at_end =
          w.so_far
          ∙ ap (seen_after test unseen) (sym (append-nil w.before) ∙ ap (λ (l : List Sample). w.before ++ l) (sym (no_records rest short)) ∙ w.split)

      served_so : seen.reaches_start && seen.reaches_end ≡ served (seen_after test unseen (records_of arc))
      served_so = rw (sym at_end, w.inside)

      pub reached : seen.reaches_start ≡ true → seen.reaches_end ≡ served (seen_after test unseen (records_of arc))
      reached h = ap (λ b. b && seen.reaches_end) (sym h) ∙ served_so

      pub unreached : seen.reaches_start ≡ false → seen.reaches_start ≡ served (seen_after test unseen (records_of arc))
      unreached h = h ∙ ap (λ b. b && seen.reaches_end) (sym h) ∙ served_so
