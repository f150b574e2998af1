-- A morning at the table, computed.
use Rattle.std.specs.Prelude.{◌≡◌, refl, List, [], ◌∷◌, ℕ, eqb}
use Rattle.profile.specs.Profile.{profile_numbered}
use Rattle.stream.specs.declared.Answer.TheVariants as answers
use Rattle.mark_answer.specs.KeptAnswer.{kept_answer}
use Rattle.reader_head.specs.Head.{shows_mark, passes}
use Rattle.reader.specs.Reader.{finish_of}
use Rattle.recovery.specs.Calls.{feed, done}
use Rattle.refinement.specs.Runs.{one}
use Rattle.reader_table.specs.declared.ReaderTable.{ReaderTable}
use Rattle.technician.specs.Technician.{is_technician}
use Rattle.reader_table.specs.Table.{empty_table, place_at, with_place, held_by, at_place, not_placed, open_place, open_place_of, call_place_of, close_place_of}
use Rattle.reader_table_laws.specs.History.{TableRequest, to_open, to_read, to_close, TableCall, TableReply, open_reply, call_reply, serve}
use Rattle.reader_table_laws.specs.Lending.{Buffers, LendingRequest, request_open, request_feed, request_run, request_close, LendingCall, buffers_left, told_from}
use Rattle.reader_table_laws.proofs.Isolation.{isolation}

abbrev by : ℕ → TableRequest → TableCall
by n q = record { who = n; request = q }

-- what everyone is told
abbrev all_told : ReaderTable → List TableCall → List TableReply
all_told t [] = []
all_told t (c ∷ h) = (serve t c.who c.request).told ∷ all_told (serve t c.who c.request).table h

morning : all_told empty_table
    (by 1 (to_open 0)
    ∷ by 2 (to_open 1)
    ∷ by 3 (to_open 0)
    ∷ by 1 (to_open 2)
    ∷ by 2 (to_read 0 (one done))
    ∷ by 2 (to_read 1 (one done))
    ∷ by 1 (to_read 8 (one (feed 7 (1 ∷ 2 ∷ []))))
    ∷ by 3 (to_read 0 (one done))
    ∷ by 1 (to_close 1)
    ∷ by 1 (to_close 0)
    ∷ by 1 (to_close 0)
    ∷ by 2 (to_open 0)
    ∷ [])
    ≡ open_reply (at_place 0)
    ∷ open_reply (at_place 1)
    ∷ open_reply (not_placed 32)
    ∷ open_reply (not_placed 11)
    ∷ call_reply (answers.Refused (record { 0 = 34 })) 0 []
    ∷ call_reply answers.Nothing 0 []
    ∷ call_reply (answers.Refused (record { 0 = 34 })) 0 (1 ∷ 2 ∷ [])
    ∷ call_reply (answers.Refused (record { 0 = 32 })) 0 []
    ∷ call_reply (answers.Refused (record { 0 = 34 })) 0 []
    ∷ call_reply answers.Nothing 0 []
    ∷ call_reply (answers.Refused (record { 0 = 34 })) 0 []
    ∷ open_reply (at_place 0)
    ∷ []
unfolding open_place_of open_place call_place_of close_place_of held_by place_at with_place is_technician profile_numbered finish_of passes shows_mark kept_answer
morning = refl

ninth : all_told empty_table
    (by 1 (to_open 0)
    ∷ by 2 (to_open 0)
    ∷ by 1 (to_open 0)
    ∷ by 2 (to_open 0)
    ∷ by 1 (to_open 0)
    ∷ by 2 (to_open 0)
    ∷ by 1 (to_open 0)
    ∷ by 2 (to_open 0)
    ∷ by 1 (to_open 0)
    ∷ by 2 (to_close 3)
    ∷ by 1 (to_open 1)
    ∷ [])
    ≡ open_reply (at_place 0)
    ∷ open_reply (at_place 1)
    ∷ open_reply (at_place 2)
    ∷ open_reply (at_place 3)
    ∷ open_reply (at_place 4)
    ∷ open_reply (at_place 5)
    ∷ open_reply (at_place 6)
    ∷ open_reply (at_place 7)
    ∷ open_reply (not_placed 33)
    ∷ call_reply answers.Nothing 0 []
    ∷ open_reply (at_place 3)
    ∷ []
unfolding open_place_of open_place call_place_of close_place_of held_by place_at with_place is_technician profile_numbered
ninth = refl

-- A buffer that is lent again and again, computed: what 1 is told, and what their buffer 7 holds at the end, is the same with 2's calls between,
-- which lend buffer 8, and without them, whatever the buffers hold at first.

abbrev lending : ℕ → LendingRequest → LendingCall
lending n q = record { who = n; request = q }

abbrev with_the_other : List LendingCall
with_the_other =
    lending 1 (request_open 0)
    ∷ lending 2 (request_open 1)
    ∷ lending 1 (request_run 0 (15 ∷ 15 ∷ []) 7)
    ∷ lending 2 (request_feed 1 15 8)
    ∷ lending 1 (request_run 0 (15 ∷ 15 ∷ []) 7)
    ∷ lending 2 (request_close 1)
    ∷ lending 1 (request_feed 0 0 7)
    ∷ []

abbrev alone : List LendingCall
alone =
    lending 1 (request_open 0)
    ∷ lending 1 (request_run 0 (15 ∷ 15 ∷ []) 7)
    ∷ lending 1 (request_run 0 (15 ∷ 15 ∷ []) 7)
    ∷ lending 1 (request_feed 0 0 7)
    ∷ []

lent_again : (s : Buffers) → (told_from 1 s with_the_other ≡ told_from 1 s alone) × (buffers_left empty_table s with_the_other 7 ≡ buffers_left empty_table s alone 7)
unfolding open_place_of open_place is_technician profile_numbered
lent_again s =
    let k =
    isolation 1 (λ (b : ℕ). eqb b 7) s s with_the_other alone (tt, (tt, (refl, (refl, (refl, (tt, (refl, tt)))))))
    (tt, (refl, (refl, (refl, tt)))) (λ b e. refl) refl refl in (
      k.0,
      k.1 7 refl,
    )
