-- Laws of a list as it is lent: each line has a body of 356 bytes; its lines tell its bytes, and its bytes its lines.
use Rattle.std.specs.Prelude.{◌≡◌, refl, true, List, [], ◌∷◌, ◌++◌, ℕ, zero, suc, ◌+◌, ◌*◌, ◌/◌, ◌%◌, ◌≤◌, ◌<◌, length, get_or, take, drop}
use Rattle.std.proofs.Common.{sym, ap, subst, ◌∙◌, arith, eqb-true, length-append, length-drop, take-append-drop, take_at, drop_at, drop-drop, get_or-drop}
use Rattle.profile.specs.Profile.{width}
use Rattle.line_records.specs.Lines.{FullLine, line_size, front_line, first_lines, full_lines, head_count, headed_lines, none_cut, as_lent}
use Rattle.line_records.proofs.LinesLaws.{lines_step, lines_none, body_length_lem}

-- each body has 356 bytes
pub data FullBodies : List FullLine → Type 0 where
  unsized : FullBodies []
  sized : {l : FullLine} {ls : List FullLine} → length l.body ≡ width → FullBodies ls → FullBodies (l ∷ ls)

pub sized_head : {l : FullLine} {ls : List FullLine} → FullBodies (l ∷ ls) → length l.body ≡ width
sized_head (sized h s) = h

pub sized_tail : {l : FullLine} {ls : List FullLine} → FullBodies (l ∷ ls) → FullBodies ls
sized_tail (sized h s) = s

lines_sized_in : (n : ℕ) (bytes : List ℕ) → line_size * n ≤ length bytes → FullBodies (first_lines n bytes)
lines_sized_in zero bytes h = unsized
lines_sized_in (suc n) bytes h =
    sized (body_length_lem bytes (omega arith)) (lines_sized_in n (drop line_size bytes) (omega (arith, length-drop line_size bytes)))

pub lines_sized : (bytes : List ℕ) → FullBodies (full_lines bytes)
unfolding full_lines
lines_sized bytes = lines_sized_in (length bytes / line_size) bytes (omega arith)

-- in a list that is not cut within a line every line is whole
pub heads_whole : (bytes : List ℕ) → none_cut bytes ≡ true → headed_lines bytes ≡ full_lines bytes
unfolding headed_lines full_lines
heads_whole bytes h =
    let n : head_count (length bytes) ≡ length bytes / line_size = omega (arith, eqb-true (length bytes % line_size) 0 h) in
    ap (λ (k : ℕ). first_lines k bytes) n

-- The bytes from the lines.

three : (bytes : List ℕ) → 3 ≤ length bytes → bytes ≡ get_or bytes 0 0 ∷ get_or bytes 1 0 ∷ get_or bytes 2 0 ∷ drop 3 bytes
three [] h = absurd (omega arith)
three (a ∷ []) h = absurd (omega arith)
three (a ∷ b ∷ []) h = absurd (omega arith)
three (a ∷ b ∷ c ∷ bytes) h = refl

list_back_in : (n : ℕ) (bytes : List ℕ) → length bytes ≡ line_size * n → ((i : ℕ) → get_or bytes i 0 < 256) → as_lent (first_lines n bytes) ≡ bytes
unfolding front_line
list_back_in zero [] h b = refl
list_back_in zero (x ∷ bytes) h b = absurd (omega arith)
list_back_in (suc n) bytes h b =
    let high : (256 * get_or bytes 1 0 + get_or bytes 2 0) / 256 ≡ get_or bytes 1 0 = omega (arith, b 1, b 2) in
    let low : (256 * get_or bytes 1 0 + get_or bytes 2 0) % 256 ≡ get_or bytes 2 0 = omega (arith, b 1, b 2) in
    let rest : as_lent (first_lines n (drop line_size bytes)) ≡ drop line_size bytes =
    list_back_in n (drop line_size bytes) (length-drop line_size bytes ∙ omega arith) (λ i. subst (λ (k : ℕ). k < 256) (sym (get_or-drop line_size bytes i 0)) (b (line_size + i))) in
    ap (λ (k : ℕ). get_or bytes 0 0 ∷ k ∷ (256 * get_or bytes 1 0 + get_or bytes 2 0) % 256 ∷ (take width (drop 3 bytes) ++ as_lent (first_lines n (drop line_size bytes)))) high
    ∙ ap (λ (k : ℕ). get_or bytes 0 0 ∷ get_or bytes 1 0 ∷ k ∷ (take width (drop 3 bytes) ++ as_lent (first_lines n (drop line_size bytes)))) low
    ∙ ap (λ (l : List ℕ). get_or bytes 0 0 ∷ get_or bytes 1 0 ∷ get_or bytes 2 0 ∷ (take width (drop 3 bytes) ++ l)) (rest ∙ sym (drop-drop width 3 bytes))
    ∙ ap (λ (l : List ℕ). get_or bytes 0 0 ∷ get_or bytes 1 0 ∷ get_or bytes 2 0 ∷ l) (take-append-drop width (drop 3 bytes))
    ∙ sym (three bytes (omega arith))

-- a list of none_cut lines, each number a byte, from its lines
pub list_back : (bytes : List ℕ) → none_cut bytes ≡ true → ((i : ℕ) → get_or bytes i 0 < 256) → as_lent (full_lines bytes) ≡ bytes
unfolding full_lines
list_back bytes w b = list_back_in (length bytes / line_size) bytes (omega (arith, eqb-true (length bytes % line_size) 0 w)) b

-- The lines from the bytes.

pub lent_length : {ls : List FullLine} → FullBodies ls → length (as_lent ls) ≡ line_size * length ls
lent_length unsized = refl
lent_length (sized {l} {ls} h s) = omega (arith, h, lent_length s, length-append l.body (as_lent ls))

-- lines that are lent are read back
pub lines_lent : {ls : List FullLine} → FullBodies ls → full_lines (as_lent ls) ≡ ls
unfolding front_line
lines_lent unsized = lines_none [] (omega arith)
lines_lent (sized {l} {ls} h s) =
    let n : 256 * (l.number / 256) + l.number % 256 ≡ l.number = omega arith in
    lines_step (as_lent (l ∷ ls)) (omega (arith, lent_length (sized {l = l} {ls = ls} h s)))
    ∙ ap (λ (k : ℕ). record { kind = l.kind; number = k; body = take width (l.body ++ as_lent ls) } ∷ full_lines (drop line_size (as_lent (l ∷ ls)))) n
    ∙ ap (λ (b : List ℕ). record { kind = l.kind; number = l.number; body = b } ∷ full_lines (drop line_size (as_lent (l ∷ ls)))) (take_at l.body (as_lent ls) width h)
    ∙ ap (λ (b : List ℕ). l ∷ full_lines b) (sym (drop-drop width 3 (as_lent (l ∷ ls))) ∙ drop_at l.body (as_lent ls) width h)
    ∙ ap (λ (ms : List FullLine). l ∷ ms) (lines_lent s)
