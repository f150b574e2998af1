-- How much of a piece is taken, and that a capture in pieces is listed as it is whole.
use Rattle.std.specs.Prelude.{◌≡◌, refl, List, ℕ, ◌≤◌, length}
use Rattle.stream.specs.Written.{nibbles}
use Rattle.reader_head.specs.Head.{passes}
use Rattle.lister_laws.specs.Lists.{lister_after, text_after, listed_up_to, end_to_end, PieceCalls}
use Rattle.lister_laws.proofs.ListsLaws.{from_within, none_within, pieces_listed}
use Rattle.list_means.specs.declared.MeanLister.{MeanLister}
use Rattle.list_means.specs.MeanLister.{means_lists, taken_of, listed_of}

-- no more than there are
pub taken_within : (l : MeanLister) (room : ℕ) (w : List ℕ) → taken_of l room w ≤ length w
taken_within l room w = none_within (passes l.reader.head) w (from_within means_lists l room w)

-- calls over the pieces of a capture, each with a buffer of some length, list what its nibbles one by one do
up_to : (l : MeanLister) (room : ℕ) (w : List ℕ) → listed_of l room w ≡ listed_up_to means_lists l w (listed_of l room w).taken
unfolding listed_of
up_to l room w = refl

pub means_listed : {l m : MeanLister} {pieces : List (List ℕ)} {text : List ℕ} → PieceCalls listed_of l pieces 0 m text
    → (m ≡ lister_after means_lists l (nibbles (end_to_end pieces))) × (text ≡ text_after means_lists l (nibbles (end_to_end pieces)))
means_listed c = pieces_listed means_lists up_to c
