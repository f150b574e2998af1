-- The text of `list`: the calls list what the nibbles one by one do, the reader answers as the meaning does, and each answer has its row.
use Rattle.std.specs.Prelude.{◌≡◌, refl, List, [], ◌++◌, ℕ, ◌≤◌, ◌<◌, get_or}
use Rattle.std.proofs.Common.{◌∙◌, ap, ap₂, sym, append_assoc, append-nil, le-ltb}
use Rattle.counts.specs.Counts.{one_more}
use Rattle.profile.specs.declared.Profile.{Profile}
use Rattle.profile.specs.Profile.{longest}
use Rattle.profile.specs.LayoutLaws.{body_small}
use Rattle.stream.specs.declared.Answer.{Answer}
use Rattle.stream.specs.Answers.{Outcome, nothing, line, gap, refused, answer_for}
use Rattle.stream.specs.Stream.{State, fresh, finish, step}
use Rattle.stream.specs.Written.{nibbles}
use Rattle.stream.specs.Nibbles.{AllNibbles, no_nibble, and_nibble}
use Rattle.reader.specs.declared.Reader.{Reader}
use Rattle.reader.specs.Reader.{fresh_reader, feed_of}
use Rattle.recovery.specs.CleanAnswers.{said_in, said, outcomes_finished}
use Rattle.refinement.specs.Refine.{Follows}
use Rattle.refinement.specs.RefineLaws.{fresh_follows, feed_steps, finish_steps}
use Rattle.capture_bytes.specs.UnpackedLaws.{nibbles_small}
use Rattle.lister_laws.specs.Lists.{end_to_end, PieceCalls}
use Rattle.list_rows.specs.Rows.{header_row, row_of, row_room, row_if_room}
use Rattle.list_marks.specs.declared.MarkLister.{MarkLister}
use Rattle.list_marks.specs.MarkLister.{fresh_lister, marks_with, after_nibble, nibble_text, list_after, list_text, listed_of, end_text, finished_of}
use Rattle.list_marks.specs.MarkListerLaws.{marks_listed}
use Rattle.list_laws.specs.Listing.{rows_from, listing_of}

-- the row of an answer, and those after it
one_row : (k : ℕ) (o : Outcome) (os : List Outcome)
    → row_of (marks_with k (answer_for o)) (answer_for o) ++ rows_from (one_more (marks_with k (answer_for o))) os ≡ rows_from (one_more k) (said_in o ++ os)
unfolding row_of
one_row k nothing os = refl
one_row k (line f body) os = refl
one_row k (gap g) os = refl
one_row k (refused n) os = refl

abbrev lister_of : Reader → ℕ → MarkLister
lister_of r k = record { reader = r; marks = k }

-- from a reader that stands for the state s on: the rows of nibbles, and that of finish
rows_told : (p : Profile) {w : List ℕ} → AllNibbles w → (k : ℕ) (r : Reader) (s : State) → Follows p r s
    → list_text (lister_of r k) w ++ end_text (list_after (lister_of r k) w) ≡ rows_from (one_more k) (said (outcomes_finished p s w))
unfolding after_nibble nibble_text
rows_told p no_nibble k r s h =
    ap (λ (o : Outcome). row_of (marks_with k (answer_for o)) (answer_for o)) (finish_steps p r s h).outcome_same
    ∙ sym (append-nil (row_of (marks_with k (answer_for (finish p s).outcome)) (answer_for (finish p s).outcome)))
    ∙ one_row k (finish p s).outcome []
rows_told p (and_nibble {n} {t} l q) k r s h =
    let x = feed_steps p r s n longest l (body_small p) h in
    let o : Outcome = (feed_of r n longest).outcome in
    let a : Answer = answer_for o in
    let m : MarkLister = lister_of (feed_of r n longest).reader (marks_with k a) in
    let os : List Outcome = outcomes_finished p (step p s n).state t in
    append_assoc (row_of (marks_with k a) a) (list_text m t) (end_text (list_after m t))
    ∙ ap (λ (v : List ℕ). row_of (marks_with k a) a ++ v) (rows_told p q (marks_with k a) (feed_of r n longest).reader (step p s n).state x.follows)
    ∙ one_row k o (said os)
    ∙ ap (λ (u : Outcome). rows_from (one_more k) (said_in u ++ said os)) x.outcome_same

-- Texts with room for them.

head_text : (room : ℕ) → row_room ≤ room → row_if_room room header_row ≡ header_row
unfolding row_if_room
head_text room g = simp (le-ltb room row_room g)

finished_text : (l : MarkLister) (room : ℕ) → row_room ≤ room → (finished_of l room).text ≡ end_text l
unfolding finished_of
finished_text l room g = simp (le-ltb room row_room g)

-- the law: whatever the pieces of a capture and the buffers of the calls, the header, the texts of the calls and that of finish are end to end the
-- listing of the capture's nibbles: the same text whole and in pieces
pub rows_listed : (p : Profile) (pieces : List (List ℕ)) → ((i : ℕ) → get_or (end_to_end pieces) i 0 < 256) → {m : MarkLister} {text : List ℕ}
    → PieceCalls listed_of (fresh_lister p) pieces 0 m text → (above below : ℕ) → row_room ≤ above → row_room ≤ below
    → row_if_room above header_row ++ (text ++ (finished_of m below).text) ≡ listing_of p (nibbles (end_to_end pieces))
unfolding one_more
rows_listed p pieces bytes {m} {text} c above below a z =
    let q = marks_listed c in
    ap₂ (λ (h e : List ℕ). h ++ (text ++ e)) (head_text above a) (finished_text m below z)
    ∙ ap₂ (λ (v : List ℕ) (y : MarkLister). header_row ++ (v ++ end_text y)) q.1 q.0
    ∙ ap (λ (v : List ℕ). header_row ++ v) (rows_told p (nibbles_small (end_to_end pieces) bytes) 0 (fresh_reader p) fresh (fresh_follows p))
