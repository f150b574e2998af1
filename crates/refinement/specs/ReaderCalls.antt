-- The reader that runs, by its calls. Definitions only.
use Rattle.std.specs.Prelude.{List, [], ℕ, length}
use Rattle.stream.specs.Answers.{answer_for, buffer_after}
use Rattle.reader.specs.declared.Reader.{Reader}
use Rattle.reader.specs.Reader.{Took, feed_of, finish_of}
use Rattle.recovery.specs.Calls.{Call, feed, done, CallResult}

-- what a call gives back, of what it does and the buffer lent to it
abbrev pub gives : Took → List ℕ → CallResult Reader
gives t buffer = record { reader = t.reader; answer = answer_for t.outcome; buffer = buffer_after t.outcome buffer }

-- each call of the reader: feeding with the buffer lent to it, and finish with none
abbrev pub reader_call : Reader → Call → CallResult Reader
reader_call r (feed n buffer) = gives (feed_of r n (length buffer)) buffer
reader_call r done = record { reader = (finish_of r).reader; answer = answer_for (finish_of r).outcome; buffer = [] }

-- the buffer lent to a call
abbrev pub lent : Call → List ℕ
lent (feed n buffer) = buffer
lent done = []
