-- What feeding packed bytes answers, and what it leaves in the buffers that it was lent.
use Rattle.std.specs.Prelude.{List, ℕ, drop}
use Rattle.stream.specs.Written.{nibbles}
use Rattle.fluturenc.specs.Calls.{FeedCalled, feed_call}

-- feeding the nibbles of bytes (01: the high one of each first) from a place on: of the state, the bytes, the place and the line buffer
abbrev pub feed_bytes_call : List ℕ → List ℕ → ℕ → List ℕ → FeedCalled
feed_bytes_call s bytes from line = feed_call s (drop from (nibbles bytes)) line
