-- How long the listings are: a chain's has as many bytes as the names of Listing say, a refusal's at most so many. Assumes nothing.
use Rattle.std.proofs.Common.{◌≡◌, refl, ap, ◌∙◌, ◌⊎◌, inl, inr, ℕ, ◌+◌, ◌*◌, ◌^◌, ◌<◌, ◌≤◌, List, [], ◌∷◌, length, arith, length-append}
use Rattle.std.proofs.Math.Nat.{lt_of_not-le, pow-le-pow_right}
use Rattle.std.specs.Float.Ieee.{Float}
use Rattle.text_format.specs.Bytes.{bytes}
use Rattle.text_format.specs.Format.{decimal, width_up_to}
use Rattle.text_format.specs.Table.{fields, end_byte, names}
use Rattle.text_format.proofs.Digits.{digits_length, width}
use Rattle.edge_record.specs.Chain.{samples}
use Rattle.text_listing.specs.Listing.{columns, heading_bytes, line_bytes, refusal_bytes, listing, refusal}
use Rattle.text_listing.proofs.Lines.{lines_from, lines_length, listing_is}

names_length : length (names columns) ≡ heading_bytes
unfolding bytes fields end_byte names
names_length = refl

pub listing_length : (first last n : ℕ) (c : List Float) → length (listing first last (samples n c)) ≡ heading_bytes + line_bytes * n
listing_length first last n c =
    let l = names_length in
    let m = lines_length first last n c 0 n in
    ap length (listing_is first last n c) ∙ length-append (names columns) (lines_from first last n c 0 n) ∙ omega arith

few : (more n : ℕ) → (more ≡ 0) ⊎ (10 ^ more ≤ n) → n < 10 ^ 10 → more < 10
few more n (inl e) h = omega arith
few more n (inr l) h = lt_of_not-le (λ g. let p = pow-le-pow_right {n = 10} (omega arith) {i = 10} {j = more} g in omega arith)

pub refusal_length : (cause : ℕ) → cause < 10 ^ 10 → length (refusal cause) ≤ refusal_bytes
unfolding refusal decimal bytes
refusal_length cause small =
    let w = width 19 cause (omega arith) in
    let f = few w.more cause w.least small in
    let d = digits_length 10 (width_up_to 19 cause) cause in
    let l = length-append (decimal cause) (10 ∷ []) in
    omega (arith, w.is)
