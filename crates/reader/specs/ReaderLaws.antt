-- What holds of any nibble taken: the profile stays, and what is answered is nothing or a mark's answer, and can be read off the answer and the
-- lent buffer.
use Rattle.std.specs.Prelude.{◌≡◌, refl, Bool, true, false, cond, List, ℕ, ◌-◌, ◌%◌, leb}
use Rattle.std.proofs.Math.Option.{some}
use Rattle.refusal.specs.Refusal.{bad_state, not_a_nibble, no_room}
use Rattle.profile.specs.Profile.{body_length}
use Rattle.stream.specs.Answers.{nothing}
use Rattle.mark_answer.specs.Sound.{Sound, sound_nothing, Legible}
use Rattle.mark_answer.specs.SoundLaws.{kept_sound, legible}
use Rattle.reader_head.specs.declared.Head.{Head}
use Rattle.reader.specs.declared.Reader.{Reader}
use Rattle.reader_head.specs.Head.{shows_mark, slide, leave_kept, leave_body, shifted, opened_by, passes}
use Rattle.reader.specs.Reader.{refusing, complete_outcome, take_head, take_outcome, taking, feed_of}

pub take_profile : (h : Head) (handed : Bool) (n : ℕ) → (take_head h handed n).profile ≡ h.profile
unfolding take_head
take_profile h handed n = go (shows_mark (slide h.window n)) (slide h.window n % 256)
  where
    go : (b : Bool) (c : ℕ) → (cond b (opened_by h c handed) (shifted h n)).profile ≡ h.profile
    go true c = refl
    go false c = refl

pub take_sound : (h : Head) (body : List ℕ) (n : ℕ) → Sound h.profile (take_outcome h body n)
unfolding take_outcome
take_sound h body n = go (shows_mark w)
  where
    w : ℕ
    w = slide h.window n

    go : (b : Bool) → Sound h.profile (cond b (complete_outcome h (leave_body h body) (w % 256)) nothing)
    go true = kept_sound h.profile h.at (h.count - 7) (leave_kept h) (leave_body h body) (some (w % 256))
    go false = sound_nothing

pub legible_feed : (r : Reader) (n room : ℕ) (buffer : List ℕ) → Legible r.head.profile buffer (feed_of r n room).outcome
unfolding feed_of
legible_feed r n room buffer = go (passes r.head) (leb n 15) (leb (body_length r.head.profile) room)
  where
    go : (a b c : Bool)
        → Legible r.head.profile buffer (cond a (cond b (cond c (taking r n) (refusing r no_room)) (refusing r not_a_nibble)) (refusing r bad_state)).outcome
    go true true true = legible (take_sound r.head r.body n) buffer
    go true true false = refl
    go true false c = refl
    go false b c = refl
