-- A character is kept at the end of what a buffer keeps, and a blank only after a word; and 128 bytes have room for the text of a line, of whatever length.
use Rattle.std.specs.Prelude.{◌≡◌, refl, Bool, true, cond, List, [], ◌∷◌, ◌++◌, ℕ, ◌+◌, ◌-◌, ◌<◌, ◌≤◌, leb, length, take, drop, get_or, set}
use Rattle.std.proofs.Common.{sym, ap, ◌∙◌, append_assoc, arith, length-append, length-take, length-drop, take-append-drop, take_all, length-take-le}
use Rattle.std.proofs.Math.Bool.{false}
use borrow.Author.Tests.{le-leb, lt-leb, eq-eqb, ne_eqb}
use Rattle.std.proofs.Math.Dec.{eqb}
use Rattle.std.proofs.lemmas.List.{take-append-le}
use Rattle.std.proofs.Math.Seq.{take-append_seam, take-length, get_or-take}
use Rattle.std.proofs.lemmas.List.Edits.{sets-eq}
use Rattle.text.specs.Text.{space}
use Rattle.text.specs.Put.{AtFront}
use Rattle.named_value.specs.Number.{is_blank}
use Rattle.register_line.specs.Line.{too_long_text, text_of}
use Rattle.register_line.specs.LineLaws.{too_long_short, text_short}
use Rattle.register_script.specs.Script.{Place, line_text, appended, blank_after, kept_after, place_after, text_on, refused_on, text_where, script_text, piece_text, after_piece, Appends, KeepsBlank, KeepsCharacter}

-- a line that fills its buffer, and one that does not
pub fills : (line : List ℕ) (n : ℕ) → length line ≤ n → leb (length line) (length (take n line)) ≡ true
fills line n h = le-leb (length line) (length (take n line)) (omega (arith, length-take n line))

pub room_left : (line : List ℕ) (n : ℕ) → n < length line → leb (length line) (length (take n line)) ≡ false
room_left line n h = lt-leb (length line) (length (take n line)) (omega (arith, length-take n line))

-- what a buffer has at its front, kept as it is
stays : (line : List ℕ) (n : ℕ) → n ≤ length line → AtFront (take n line) n line line
stays line n h =
    let same : length (take n line) ≡ n = length-take-le n line h in
    record { count = sym same; leaves = sym (ap (λ (k : ℕ). take n line ++ drop k line) same ∙ take-append-drop n line) }

-- where there is room, and where there is none
pub keeps_one : (c : ℕ) (line : List ℕ) (n : ℕ) → n < length line → Appends c line n (set line n c) (n + 1)
keeps_one c line n h =
    let long : length (take n line ++ (c ∷ [])) ≡ n + 1 = simp (length-append, length-take) (omega arith) in
    rw (take_all (length line) (take n line ++ (c ∷ [])) (omega (arith, long)))
    (record {
      count = sym long;
      leaves = sets-eq (c ∷ []) line n (omega arith) ∙ ap (λ (k : ℕ). take n line ++ (c ∷ []) ++ drop k line) (sym long);
    })

none_appended : (line : List ℕ) (c : ℕ) → appended (length line) line c ≡ take (length line) line
none_appended line c = take-append-le (length line) line (c ∷ []) (omega arith)

pub keeps_none : (c : ℕ) (line : List ℕ) (n : ℕ) → length line ≤ n → Appends c line n line (length line)
keeps_none c line n h = rw (take_all n line h, none_appended line c) (stays line (length line) (omega arith))

-- a blank that comes first, that has no room, that follows a space, and that follows a word
pub no_blank_first : (line : List ℕ) → KeepsBlank line 0 line 0
unfolding blank_after
no_blank_first line = record { count = refl; leaves = refl }

full : (line : List ℕ) → blank_after (length line) line ≡ take (length line) line
unfolding blank_after
full line = either (eqb (length line) 0) (eqb (get_or line (length line - 1) 0) space)
  where
    either : (t u : Bool) → cond t line (cond u line (appended (length line) line space)) ≡ take (length line) line
    either true u = sym (take-length line)
    either false true = sym (take-length line)
    either false false = none_appended line space

pub no_blank_full : (line : List ℕ) (n : ℕ) → length line ≤ n → KeepsBlank line n line (length line)
no_blank_full line n h = rw (take_all n line h, full line) (stays line (length line) (omega arith))

module _ (line : List ℕ) (n : ℕ) (z : 0 < n) (h : n < length line) where
  last_kept : blank_after (length line) (take n line)
      ≡ cond (eqb (get_or line (n - 1) 0) space) (take n line) (appended (length line) (take n line) space)
  unfolding blank_after
  last_kept =
      let some : eqb n 0 ≡ false = ne_eqb n 0 (λ e. omega arith) in
      rw (length-take-le n line (omega arith), some, get_or-take n line (n - 1) 0 (omega arith))

  pub no_blank_again : get_or line (n - 1) 0 ≡ space → KeepsBlank line n line n
  no_blank_again e = rw (last_kept, eq-eqb _ _ e) (stays line n (omega arith))

  pub one_blank : (get_or line (n - 1) 0 ≡ space → ⊥) → {after : List ℕ} {r : ℕ} → Appends space line n after r → KeepsBlank line n after r
  one_blank d k = rw (last_kept, ne_eqb _ _ d) k

-- what is kept is within the room
kept_within : (room : ℕ) (kept : List ℕ) (c : ℕ) → length kept ≤ room → length (kept_after room kept c) ≤ room
unfolding kept_after blank_after
kept_within room kept c h = either (is_blank c) (eqb (length kept) 0) (eqb (get_or kept (length kept - 1) 0) space)
  where
    one : (b : ℕ) → length (appended room kept b) ≤ room
    one b = simp (length-take) (omega arith)

    either : (t u v : Bool)
        → length (cond t (cond u kept (cond v kept (appended room kept space))) (appended room kept c)) ≤ room
    either true true v = h
    either true false true = h
    either true false false = one space
    either false u v = one c

module _ (c : ℕ) (line : List ℕ) (n : ℕ) {after : List ℕ} {r : ℕ} (k : KeepsCharacter c line n after r) where
  pub front_kept : take r after ≡ kept_after (length line) (take n line) c
  front_kept = rw (k.count, k.leaves) (take-append_seam (kept_after (length line) (take n line) c) _)

  pub room_kept : length after ≡ length line
  room_kept =
      let kept : List ℕ = kept_after (length line) (take n line) c in
      let within : length kept ≤ length line = kept_within (length line) (take n line) c (omega (arith, length-take n line)) in
      ap length k.leaves ∙ length-append kept (drop (length kept) line) ∙ omega (arith, within, length-drop (length kept) line)

pub text_within : (d t : List ℕ) {d₁ : List ℕ} {r : ℕ} → AtFront t r d d₁ → r ≤ length d₁
text_within d t p = omega (arith, p.count, simp (length-append) at (ap length p.leaves))

pub line_short : (p : Place) → length (line_text p) ≤ 128
unfolding line_text
line_short p = shorter (leb p.room (length p.kept))
  where
    shorter : (t : Bool) → length (cond t (too_long_text p.number p.room) (text_of p.profile p.sensor p.number p.kept)) ≤ 128
    shorter true = too_long_short p.number p.room
    shorter false = text_short p.profile p.sensor p.number p.kept

-- the pieces in which a script comes do not change its text
pub in_pieces : (asked : Bool) (p : Place) (piece script : List ℕ)
    → script_text asked p (piece ++ script) ≡ piece_text asked p piece ++ script_text asked (after_piece p piece) script
in_pieces asked p [] script = refl
in_pieces asked p (c ∷ piece) script =
    let q : Place = place_after p c in
    let text : List ℕ = text_where asked (refused_on p c) (text_on p c) in
    ap (λ (t : List ℕ). text ++ t) (in_pieces asked q piece script)
    ∙ sym (append_assoc text (piece_text asked q piece) (script_text asked (after_piece q piece) script))
