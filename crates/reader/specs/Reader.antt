-- A reader, its state by value, and what each call does to it. What it means is in stream/specs/Stream.antt; a law joins the two.
use Rattle.std.specs.Prelude.{Bool, cond, List, [], ℕ, ◌-◌, ◌%◌, eqb, leb, length, replicate, None, Option, Some}
use Rattle.std.proofs.Math.Option.{none, some}
use Rattle.refusal.specs.Refusal.{not_a_nibble, bad_state, no_room}
use Rattle.profile.specs.declared.Profile.{Profile}
use Rattle.profile.specs.declared.Profile.TheVariants.{VV5404}
use Rattle.profile.specs.Profile.{profile_numbered, body_length, longest}
use Rattle.stream.specs.declared.Mark.TheVariants.{NoMark}
use Rattle.stream.specs.Answers.{Outcome, nothing, refused, is_line}
use Rattle.mark_text.specs.MarkText.{nothing_kept}
use Rattle.mark_answer.specs.KeptAnswer.{kept_answer}
use Rattle.reader_head.specs.declared.Head.{Head}
use Rattle.reader_head.specs.Head.{shows_mark, slide, leave_kept, leave_body, shifted, opened_by, passes, flushed}
use Rattle.reader.specs.declared.Reader.{Reader}

-- a reader after a call, and what the call answered
pub record Took : Type 0 where
  pub reader : Reader
  pub outcome : Outcome

-- a reader of these parts
abbrev pub reader_of : Head → List ℕ → Reader
reader_of h body = record { head = h; body = body }

-- The calls.

-- a reader as creation leaves it
abbrev pub fresh_reader : Profile → Reader
fresh_reader p = record { head = record { profile = p; at = NoMark; count = 0; window = 0; kept = nothing_kept }; body = replicate longest 0 }

-- a refused call: the reader stays
abbrev pub refusing : Reader → ℕ → Took
refusing r n = record { reader = r; outcome = refused n }

-- creation, by the profile that the number names
abbrev pub new_for : Option Profile → Took
new_for (Some p) = record { reader = fresh_reader p; outcome = nothing }
new_for None = refusing (fresh_reader VV5404) bad_state

-- creation
abbrev pub new_of : ℕ → Took
new_of n = new_for (profile_numbered n)

-- what the open mark is answered when a mark with this code is complete, with the body as it then is: its text has count + 1 - 8 nibbles
abbrev pub complete_outcome : Head → List ℕ → ℕ → Outcome
complete_outcome h body code = kept_answer h.profile h.at (h.count - 7) (leave_kept h) body (some code)

-- the state after a nibble that is taken, and what is answered: a mark is complete, or not
unfoldable pub take_head : Head → Bool → ℕ → Head
take_head h handed n = cond (shows_mark (slide h.window n)) (opened_by h (slide h.window n % 256) handed) (shifted h n)

-- what taking a nibble brings: a mark's answer where it completes the next mark
unfoldable pub take_outcome : Head → List ℕ → ℕ → Outcome
take_outcome h body n = cond (shows_mark (slide h.window n)) (complete_outcome h (leave_body h body) (slide h.window n % 256)) nothing

-- a nibble taken
abbrev pub taking : Reader → ℕ → Took
taking r n =
    record {
      reader = record { head = take_head r.head (is_line (take_outcome r.head r.body n)) n; body = leave_body r.head r.body };
      outcome = take_outcome r.head r.body n;
    }

-- one input, with a buffer of so many bytes: 10, 12, or the nibble is taken
abbrev pub offering : Reader → ℕ → ℕ → Took
offering r n room =
    cond (leb n 15) (cond (leb (body_length r.head.profile) room) (taking r n) (refusing r no_room)) (refusing r not_a_nibble)

-- the same with the body lent, and no look at the reader's own test: 11 where the body is not as long as the longest, or as above
unfoldable pub take_of : Reader → ℕ → ℕ → Took
take_of r n room = cond (eqb (length r.body) longest) (offering r n room) (refusing r bad_state)

-- feeding: 11, or as above
unfoldable pub feed_of : Reader → ℕ → ℕ → Took
feed_of r n room = cond (passes r.head) (offering r n room) (refusing r bad_state)

-- finish: 11, or the last mark is answered with all of its text, and the reader is fresh
unfoldable pub finish_of : Reader → Took
finish_of r =
    cond (passes r.head)
    (record {
      reader = fresh_reader r.head.profile;
      outcome = kept_answer r.head.profile r.head.at r.head.count (flushed 8 r.head).kept [] none;
    })
    (refusing r bad_state)
