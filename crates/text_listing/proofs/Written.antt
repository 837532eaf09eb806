-- Texts that a writer puts one behind the other. Assumes nothing.
use Rattle.std.proofs.Common.{◌≡◌, refl, sym, ap, ◌∙◌, ℕ, ◌+◌, ◌≤◌, List, [], ◌++◌, length, append_assoc, arith, length-append}
use Rattle.std.proofs.lemmas.List.{drop-drop}
use Rattle.std.proofs.lemmas.List.Edits.{sets-eq}
use Rattle.std.proofs.Math.Seq.{sets}
use borrow.Rule.Slice.PartMut.{put_mid}
use Rattle.base_lists.proofs.Stores.{sets_append}
use Rattle.text_listing.specs.declared.Writer.{Writer}
use Rattle.text_listing.specs.Listing.{Put}
use Rattle.text_listing.specs.Own.Writer.{Writes}

-- a copy into a part of a buffer
pub part_written : (l v : List ℕ) (a k : ℕ) → k ≡ length v → a + length v ≤ length l → put_mid a k l v ≡ sets l a v
part_written l v a k e h = rw (e, drop-drop (length v) a l, ← append_assoc) (sym (sets-eq v l a h))

pub written_none : (w : Writer) → Writes [] w w
written_none w = record { same = refl; count = omega arith; length_is = refl; bytes = refl }

-- one behind the other
pub written_then : {s t : List ℕ} {u v w : Writer} → Writes s u v → Writes t v w → Writes (s ++ t) u w
written_then {s} {t} {u} p q = record {
  same = q.same ∙ p.same;
  count = simp length-append (omega (arith, p.count, q.count));
  length_is = q.length_is ∙ p.length_is;
  bytes = q.bytes ∙ rw (p.bytes, p.count, sets_append u.out.now u.at s t);
}

-- a whole text, from the buffer's start
pub written_all : {text out out' : List ℕ} {u w : Writer} → Writes text u w → (u.at ≡ 0) × (u.out.now ≡ out) → length text ≤ length out → out' ≡ w.out.now → Put text out w.at out'
written_all {text} {out} {out'} {u} {w} p e few f = record {
  count = omega (arith, p.count, e.0);
  fits = let g = ap length f in let h = ap length e.1 in omega (arith, p.count, p.length_is, e.0);
  bytes = f ∙ p.bytes ∙ rw (e.0, e.1);
}
