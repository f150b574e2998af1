-- A reader explained: all later calls answered as some nibbles fed to a fresh reader would make it. Definitions only.
use Rattle.std.specs.Prelude.{◌≡◌, List, [], ◌∷◌, ℕ, ◌≤◌, ◌<◌, ◌^◌, length, get_or}
use Rattle.profile.specs.Profile.{body_length, longest}
use Rattle.stream.specs.declared.Answer.{Answer}
use Rattle.stream.specs.Nibbles.{AllNibbles}
use Rattle.mark_text.specs.declared.Kept.{Kept}
use Rattle.reader.specs.declared.Reader.{Reader}
use Rattle.reader.specs.Reader.{fresh_reader}
use Rattle.recovery.specs.Calls.{Call, CallResult}
use Rattle.reader_laws.specs.Passing.{Byte}
use Rattle.refinement.specs.Refine.{fed_reader}
use Rattle.refinement.specs.ReaderCalls.{reader_call}

-- What calls hand out.

-- a call's answer, and the buffer lent to it as it is then
pub record Out : Type 0 where
  pub answer : Answer
  pub buffer : List ℕ

-- what each call of a list gives: its answer, and its buffer
abbrev pub outs : {R : Type 0} → (R → Call → CallResult R) → R → List Call → List Out
outs on r [] = []
outs on r (c ∷ cs) = record { answer = (on r c).answer; buffer = (on r c).buffer } ∷ outs on (on r c).reader cs

-- A reader by its types.

-- what is kept of a text, as one
pub record Store : Type 0 where
  pub kept : Kept
  pub body : List ℕ

-- what the fields' types say of a store: bytes, and so many of them
pub record Typed (s : Store) : Type 0 where
  pub first_byte : s.kept.first < 256
  pub second_byte : s.kept.second < 256
  pub size : length s.body ≡ longest
  pub bytes : (i : ℕ) → get_or s.body i 0 < 256

-- what the types of its fields say of a reader: bytes, a window of 32 bits, a body of so many bytes
pub record TypedReader (r : Reader) : Type 0 where
  pub code_byte : Byte r.head.at
  pub window_small : r.head.window < 2 ^ 32
  pub kept_typed : Typed (record { kept = r.head.kept; body = r.body })

-- nibbles that, fed to a fresh reader of the same profile (each with a buffer long enough), lead to a reader that answers all later calls
-- alike, with the same buffers: feeds of anything and finishes, in any order
pub record Explained (r : Reader) : Type 0 where
  pub nibbles : List ℕ
  pub small : AllNibbles nibbles
  pub same_later : (room : ℕ → ℕ) → ((k : ℕ) → body_length r.head.profile ≤ room k) → (cs : List Call)
      → outs reader_call r cs ≡ outs reader_call (fed_reader room (fresh_reader r.head.profile) nibbles) cs
