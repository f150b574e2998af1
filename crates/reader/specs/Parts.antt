-- What the contracts of the reader's private functions cite besides.
use Rattle.std.specs.Prelude.{List, ◌++◌, ℕ, take, drop}
use Rattle.stream.specs.Answers.{is_line}
use Rattle.reader.specs.declared.Reader.{Reader}
use Rattle.reader_head.specs.Head.{opened_by}
use Rattle.reader.specs.Reader.{Took, reader_of, complete_outcome}

-- a mark with this code is complete, with the body as it then is: the mark before it is answered
abbrev pub completing : Reader → ℕ → Took
completing r code =
    record {
      reader = reader_of (opened_by r.head code (is_line (complete_outcome r.head r.body code))) r.body;
      outcome = complete_outcome r.head r.body code;
    }

-- a list whose first n places hold the first n of another
abbrev pub copied : List ℕ → List ℕ → ℕ → List ℕ
copied to from n = take n from ++ drop n to
