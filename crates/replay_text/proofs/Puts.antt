-- Bytes that wait, and one more. Assumes nothing.
use Rattle.std.specs.Prelude.{⊤}
use Rattle.std.specs.Borrow.{Bor, MutBor}
use Rattle.std.proofs.Common.{◌≡◌, refl, sym, ap, ◌∙◌, ℕ, ◌+◌, ◌-◌, ◌<◌, ◌≤◌, List, [], ◌∷◌, ◌++◌, length, get_or, take, drop, set, arith, length-append, length-take-le, append-nil, append_assoc}
use Rattle.std.proofs.lemmas.List.{take_more, take_more_set, at_drop_all, at_drop_more}
use Rattle.text_format.specs.Table.{end_byte}
use Rattle.std.proofs.lemmas.Slice.{take-put_mid}
use borrow.Rule.Slice.PartMut.{put_mid}
use borrow.Author.Tests.{lt-ltb, le-ltb}
use Rattle.replay_text.specs.Own.Waiting.{put_one, puts, line_from, PutsEach}

-- ---- one more, in the buffer: behind those that wait where there is room, or alone
module _ (b len : ℕ) (bytes w : List ℕ) (is : take len bytes ≡ w) (few : len < length bytes) where
  pub put_room : len < 4096 → take (len + 1) (set bytes len b) ≡ put_one b w
  unfolding put_one
  put_room l =
      let e : length w ≡ len = sym (ap length is) ∙ length-take-le len bytes (omega arith) in
      rw (take_more_set, is, lt-ltb (length w) 4096 (omega arith))

  pub put_alone : (v : List ℕ) → w ≡ [] → length v ≡ 4096 → take (len + 1) (set bytes len b) ≡ put_one b v
  unfolding put_one
  put_alone v e f = rw (take_more_set, is, e, le-ltb (length v) 4096 (omega arith))

-- ---- several
puts_more : (l : List ℕ) (b : ℕ) (w : List ℕ) → puts (l ++ b ∷ []) w ≡ put_one b (puts l w)
unfolding puts
puts_more [] b w = refl
puts_more (a ∷ l) b w = puts_more l b (put_one a w)

pub puts_next : (l : List ℕ) (i : ℕ) (w : List ℕ) → i < length l → puts (take (i + 1) l) w ≡ put_one (get_or l i 0) (puts (take i l) w)
puts_next l i w h = ap (λ m. puts m w) (take_more l i 0 h) ∙ puts_more (take i l) (get_or l i 0) w

puts_append : (a b w : List ℕ) → puts (a ++ b) w ≡ puts b (puts a w)
unfolding puts
puts_append [] b w = refl
puts_append (x ∷ a) b w = puts_append a b (put_one x w)

-- ---- a line of what is in a list: what is left of it from number i on, put behind what was put, is the whole
abbrev pub Left : {T F : Type 0} → (F → ℕ → Bor T → ℕ → MutBor (List ℕ) → ⊤ → MutBor (List ℕ) → Type 0) → F → ℕ → List T → List ℕ → List ℕ → Type 0
Left {T} post put i l w old = (text : ℕ → T → ℕ → List ℕ) → PutsEach post put text → puts (line_from text i (drop i l)) w ≡ puts (line_from text 0 l) old

module _ {T : Type 0} (text : ℕ → T → ℕ → List ℕ) (l : List T) (i : ℕ) (w all : List ℕ) (left : puts (line_from text i (drop i l)) w ≡ all) where
  pub line_next : (x : T) (end : ℕ) (v : List ℕ) → get_or l i x ≡ x → i < length l → end ≡ end_byte (drop (i + 1) l) → v ≡ puts (text i x end) w
      → puts (line_from text (i + 1) (drop (i + 1) l)) v ≡ all
  unfolding line_from
  line_next x end v is h e p =
      let others = line_from text (i + 1) (drop (i + 1) l) in
      let here : puts (line_from text i (drop i l)) w ≡ puts (text i (get_or l i x) (end_byte (drop (i + 1) l)) ++ others) w = at_drop_more (λ k. puts (line_from text i k) w) l i x h in
      ap (puts others) (p ∙ ap (λ b. puts (text i x b) w) e)
      ∙ sym (puts_append (text i x (end_byte (drop (i + 1) l))) others w)
      ∙ sym (ap (λ y. puts (text i y (end_byte (drop (i + 1) l)) ++ others) w) is)
      ∙ sym here ∙ left

  pub line_done : length l ≤ i → w ≡ all
  unfolding line_from puts
  line_done h = sym (at_drop_all (λ k. puts (line_from text i k) w) l i h) ∙ left

-- where there is room they come behind those that wait
puts_fit : (l w : List ℕ) → length w + length l ≤ 4096 → puts l w ≡ w ++ l
unfolding puts put_one
puts_fit [] w h = sym (append-nil w)
puts_fit (b ∷ l) w h =
    let n = length-append w (b ∷ []) in
    rw (lt-ltb (length w) 4096 (omega arith)) (puts_fit l (w ++ b ∷ []) (omega arith) ∙ append_assoc w (b ∷ []) l)

pub put_all : (len : ℕ) (bytes w text : List ℕ) → take len bytes ≡ w → len ≤ length bytes → len + length text ≤ 4096
    → take (len + length text) (put_mid len (len + length text - len) bytes text) ≡ puts text w
put_all len bytes w text is few room =
    let n : length w ≡ len = sym (ap length is) ∙ length-take-le len bytes few in
    take-put_mid len _ bytes text (len + length text) refl few ∙ ap (λ l. l ++ text) is ∙ sym (puts_fit text w (omega arith))
