-- One line that lies whole in what stayed, by its own two places: it is one of the lines that `whole_lines` names, and comes out as sent.
use Rattle.std.specs.Prelude.{◌≡◌, Bool, true, false, cond, List, [], ◌∷◌, ◌++◌, map, ℕ, ◌+◌, ◌≤◌, leb, length}
use Rattle.std.proofs.Common.{sym, subst, arith, length-append, le-leb}
use Rattle.bits.specs.Tests.{by_test}
use Rattle.profile.specs.declared.Profile.{Profile}
use Rattle.stream.specs.Written.{Sent, AllWritable, written, stream}
use Rattle.reader.specs.Reader.{fresh_reader}
use Rattle.recovery.specs.Calls.{as_sent, up_to_end, ended_by, start_from, lines_from, line_collector}
use Rattle.recovery.specs.CutStream.{whole_between}
use Rattle.refinement.specs.Runs.{RunCall, runs_taken, runs_collected, FinishLastRun}
use Rattle.stretch_laws.specs.Stretches.{Segment, unchanged, replaced, clean_of, changed_of, in_unchanged, whole_lines, Sublist, both_empty, left_out, as_well}
use Rattle.stretch_laws.proofs.StretchesLaws.{sub_none, sub_after}
use Rattle.stretch_laws.proofs.StretchCallsLaws.{reads_stretches}

sub_before : {A : Type 0} {xs ys : List A} → Sublist xs ys → (zs : List A) → Sublist xs (ys ++ zs)
sub_before both_empty zs = sub_none zs
sub_before (left_out h) zs = left_out (sub_before h zs)
sub_before (as_well h) zs = as_well (sub_before h zs)

sub_map : {A B : Type 0} (f : A → B) {xs ys : List A} → Sublist xs ys → Sublist (map f xs) (map f ys)
sub_map f both_empty = both_empty
sub_map f (left_out h) = left_out (sub_map f h)
sub_map f (as_well h) = as_well (sub_map f h)

sub_then : {A : Type 0} {xs ys zs : List A} → Sublist xs ys → Sublist ys zs → Sublist xs zs
sub_then h both_empty = h
sub_then h (left_out k) = left_out (sub_then h k)
sub_then (left_out h) (as_well k) = left_out (sub_then h k)
sub_then (as_well h) (as_well k) = as_well (sub_then h k)

-- its end code ends at the place j or before it, where the first line starts at the place o
ended_there : (j o : ℕ) (first : List Sent) (s : Sent) (later : List Sent) → o + length (stream first) + length (up_to_end s) ≤ j
    → Sublist (s ∷ []) (ended_by j o (first ++ (s ∷ later)))
ended_there j o [] s later m =
    let rest : List Sent = ended_by j (o + length (written s)) later in
    subst (λ (b : Bool). Sublist (s ∷ []) (cond b (s ∷ rest) rest)) (sym (le-leb (o + length (up_to_end s)) j (omega arith))) (as_well (sub_none rest))
ended_there j o (f ∷ first) s later m =
    let long = length-append (written f) (stream first) in
    let h = ended_there j (o + length (written f)) first s later (omega arith) in
    by_test (Sublist (s ∷ [])) (leb (o + length (up_to_end f)) j) (λ _. left_out h) (λ _. h)

-- and its first F stands at the place i or after it
whole_there : (i j o : ℕ) (first : List Sent) (s : Sent) (later : List Sent) → i ≤ o + length (stream first) → o + length (stream first) + length (up_to_end s) ≤ j
    → Sublist (s ∷ []) (ended_by j (start_from i o (first ++ (s ∷ later))) (lines_from i o (first ++ (s ∷ later))))
whole_there i j o [] s later l m =
    subst (λ (b : Bool). Sublist (s ∷ []) (ended_by j (cond b o (start_from i (o + length (written s)) later)) (cond b (s ∷ later) (lines_from i (o + length (written s)) later))))
    (sym (le-leb i o (omega arith))) (ended_there j o [] s later m)
whole_there i j o (f ∷ first) s later l m =
    let long = length-append (written f) (stream first) in
    go (leb i o) (whole_there i j (o + length (written f)) first s later (omega arith) (omega arith))
  where
    next : ℕ
    next = o + length (written f)

    rest : List Sent
    rest = first ++ (s ∷ later)

    go : (b : Bool) → Sublist (s ∷ []) (ended_by j (start_from i next rest) (lines_from i next rest))
        → Sublist (s ∷ []) (ended_by j (cond b o (start_from i next rest)) (cond b (f ∷ rest) (lines_from i next rest)))
    go true h = ended_there j o (f ∷ first) s later m
    go false h = h

-- what is chosen for one unchanged segment is chosen for all
in_segment : {xs : List Sent} (chosen : ℕ → ℕ → List Sent) (i n : ℕ) (before : List Segment) (w : List ℕ) (later : List Segment) → i + length (clean_of before) ≡ n
    → Sublist xs (chosen n (n + length w)) → Sublist xs (in_unchanged chosen i (before ++ (unchanged w ∷ later)))
in_segment {xs} chosen i n [] w later e h =
    let e₁ : n ≡ i = omega arith in
    sub_before (subst (λ (k : ℕ). Sublist xs (chosen k (k + length w))) e₁ h) (in_unchanged chosen (i + length w) later)
in_segment chosen i n (unchanged v ∷ before) w later e h =
    let long = length-append v (clean_of before) in
    sub_after (chosen i (i + length v)) (in_segment chosen (i + length v) n before w later (omega arith) h)
in_segment chosen i n (replaced old new ∷ before) w later e h =
    let long = length-append old (clean_of before) in
    in_segment chosen (i + length old) n before w later (omega arith) h

-- a line that starts where the unchanged segment w begins or after that, and whose end code ends where w ends or before that
pub in_whole_lines : (first : List Sent) (s : Sent) (others : List Sent) (before : List Segment) (w : List ℕ) (later : List Segment)
    → length (clean_of before) ≤ length (stream first) → length (stream first) + length (up_to_end s) ≤ length (clean_of before) + length w
    → Sublist (s ∷ []) (whole_lines (first ++ (s ∷ others)) (before ++ (unchanged w ∷ later)))
in_whole_lines first s others before w later l m =
    let i : ℕ = length (clean_of before) in
    let ss : List Sent = first ++ (s ∷ others) in
    in_segment (λ a b. whole_between a b ss) 0 i before w later (omega arith) (whole_there i (i + length w) 0 first s others (omega arith) (omega arith))

-- the law, of one line: it comes out as sent, whatever calls take the changed stream
pub line_comes : (p : Profile) (first : List Sent) (s : Sent) (others : List Sent) → AllWritable p (first ++ (s ∷ others))
    → (before : List Segment) (w : List ℕ) (later : List Segment) → clean_of (before ++ (unchanged w ∷ later)) ≡ stream (first ++ (s ∷ others))
    → length (clean_of before) ≤ length (stream first) → length (stream first) + length (up_to_end s) ≤ length (clean_of before) + length w
    → (cs : List RunCall) → FinishLastRun cs → runs_taken (fresh_reader p) cs ≡ changed_of (before ++ (unchanged w ∷ later))
    → Sublist (as_sent s ∷ []) (runs_collected line_collector p (fresh_reader p) cs)
line_comes p first s others h before w later e l m cs last taken =
    sub_then (sub_map as_sent (in_whole_lines first s others before w later l m))
    (reads_stretches p (first ++ (s ∷ others)) h (before ++ (unchanged w ∷ later)) e cs last taken).lines_come
