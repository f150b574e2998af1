-- Calls with the body lent (`take` of reader, `run_lent` of run): where the lent body is as long as the longest, as a reader's own always is, a run is
-- the reader's own run, and a nibble taken from a state that passes is the reader's own feeding. So 11 never comes from them in a state that calls
-- reach, a refusal changes nothing, and such a state is explained.
use Rattle.std.specs.Prelude.{◌≡◌, true, List, ℕ, length}
use Rattle.std.proofs.Common.{eq-eqb}
use Rattle.profile.specs.Profile.{longest}
use Rattle.reader_head.specs.declared.Head.{Head}
use Rattle.reader_head.specs.Head.{passes}
use Rattle.reader.specs.declared.Reader.{Reader}
use Rattle.reader.specs.Reader.{reader_of, take_of, feed_of}
use Rattle.run.specs.Run.{run_of, lent_run_of}

pub lent_run_lem : (h : Head) (body w : List ℕ) (room : ℕ) → length body ≡ longest → lent_run_of h body w room ≡ run_of (reader_of h body) w room
unfolding lent_run_of
lent_run_lem h body w room e = simp (eq-eqb (length body) longest e)

-- `take` leaves the test to whoever calls it
pub lent_take : (r : Reader) (n room : ℕ) → length r.body ≡ longest → passes r.head ≡ true → take_of r n room ≡ feed_of r n room
unfolding take_of feed_of
lent_take r n room e h = simp (h, eq-eqb (length r.body) longest e)
