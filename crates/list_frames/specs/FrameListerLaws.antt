-- How much of a piece is taken; and a capture in pieces is listed as it is whole.
use Rattle.std.specs.Prelude.{◌≡◌, refl, List, ℕ, ◌≤◌, length}
use Rattle.stream.specs.Written.{nibbles}
use Rattle.reader_head.specs.Head.{passes}
use Rattle.lister_laws.specs.Lists.{listed_up_to, end_to_end, PieceCalls}
use Rattle.lister_laws.proofs.ListsLaws.{from_within, none_within, pieces_listed}
use Rattle.list_frames.specs.declared.FrameLister.{FrameLister}
use Rattle.list_frames.specs.FrameLister.{frame_lists, list_after, list_text, taken_of, listed_of}

-- no more than there are
pub taken_within : (l : FrameLister) (room : ℕ) (w : List ℕ) → taken_of l room w ≤ length w
taken_within l room w = none_within (passes l.reader.head) w (from_within frame_lists l room w)

-- calls list what the nibbles one by one do
up_to : (l : FrameLister) (room : ℕ) (w : List ℕ) → listed_of l room w ≡ listed_up_to frame_lists l w (listed_of l room w).taken
unfolding listed_of
up_to l room w = refl

-- whatever the pieces and the buffers: the lister after the calls, and their texts
pub frames_listed : {l m : FrameLister} {pieces : List (List ℕ)} {text : List ℕ} → PieceCalls listed_of l pieces 0 m text
    → (m ≡ list_after l (nibbles (end_to_end pieces))) × (text ≡ list_text l (nibbles (end_to_end pieces)))
frames_listed c = pieces_listed frame_lists up_to c
