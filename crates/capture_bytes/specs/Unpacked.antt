-- The bytes of an 8-wire bus as nibbles (01: a byte is its two nibbles, high one first), in a buffer, and run over.
use Rattle.std.specs.Prelude.{List, ◌++◌, ℕ, ◌*◌, ◌/◌, min, take, drop}
use Rattle.stream.specs.Written.{nibbles}
use Rattle.reader_head.specs.declared.Head.{Head}
use Rattle.run.specs.Run.{Ran, lent_run_of}

-- how many bytes are taken apart, of so many, in a buffer with so much room: as many as it has room for
abbrev pub fitting : ℕ → ℕ → ℕ
fitting bytes room = min bytes (room / 2)

-- the buffer with the nibbles of the first i bytes at its front, and the rest as it was
abbrev pub unpacked : List ℕ → List ℕ → ℕ → List ℕ
unpacked bytes buffer i = nibbles (take i bytes) ++ drop (2 * i) buffer

-- the nibbles of bytes from a place on, up to the end of the byte before another
abbrev pub portion : List ℕ → ℕ → ℕ → List ℕ
portion bytes at end = drop at (nibbles (take end bytes))

-- a run over the nibbles of bytes, from a place on
abbrev pub run_from : Head → List ℕ → List ℕ → ℕ → ℕ → Ran
run_from h body bytes from room = lent_run_of h body (drop from (nibbles bytes)) room
