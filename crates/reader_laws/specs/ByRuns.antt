-- Runs in place of single feeds: what is worked out from nibbles fed one by one, and a run of them. Definitions only.
use Rattle.std.specs.Prelude.{◌≡◌, List, ◌∷◌, ℕ, ◌+◌, ◌≤◌, ◌<◌, length, drop}
use Rattle.profile.specs.Profile.{longest}
use Rattle.stream.specs.Answers.{Outcome, nothing}
use Rattle.reader.specs.declared.Reader.{Reader}
use Rattle.reader.specs.Reader.{Took, feed_of}
use Rattle.run.specs.Run.{Ran}
use Rattle.reader_laws.specs.Passing.{Ok}

-- a reader after a call, and what the call answered
abbrev pub took : Reader → Outcome → Took
took r o = record { reader = r; outcome = o }

-- what is worked out: `from` a reader and the nibbles to come, and `next` where a nibble was just fed
pub record ByNibbles (R : Type 0) : Type 0 where
  pub from : Reader → List ℕ → R
  pub next : Took → List ℕ → R
  pub one : (r : Reader) (n : ℕ) (w : List ℕ) → from r (n ∷ w) ≡ next (feed_of r n longest) w
  pub ignores : (r : Reader) (w : List ℕ) → next (took r nothing) w ≡ from r w

-- a run of w from r, of which i nibbles were taken before: it takes some, and what is worked out is the same from there on
pub record RunOn {R : Type 0} (f : ByNibbles R) (r : Reader) (w : List ℕ) (i : ℕ) (t : Ran) : Type 0 where
  pub count : ℕ
  pub counted : t.taken ≡ i + count
  pub some : 0 < length w → 0 < count
  pub within : count ≤ length w
  pub sound : Ok t.reader.head
  pub same : f.from r w ≡ f.next (took t.reader t.outcome) (drop count w)
