-- A lister of marks goes by what its reader answers: so what every lister does run by run, it does.
use mathlib.Core.Path.{◌≡◌, refl, ◌∙◌, ap, ap₂}
use mathlib.Core.Bool.{true, false, ◌&&◌}
use mathlib.Core.List.{List, []}
use Prim.Native.Nat.{ℕ, ◌+◌, ◌-◌, ◌/◌, ◌<◌}
use lib.Dec.{leb, ltb}
use lib.ListN.{length, drop, get_or}
use Rattle.profile.specs.Profile.{longest}
use Rattle.stream.specs.Answers.{nothing}
use Rattle.stream.specs.Written.{nibbles}
use Rattle.reader_head.specs.declared.Head.{Head}
use Rattle.reader.specs.declared.Reader.{Reader}
use Rattle.reader_head.specs.Head.{passes}
use Rattle.reader.specs.Reader.{feed_of}
use Rattle.run.specs.declared.RunStepped.{RunStepped}
use Rattle.run.specs.Run.{lent_run_of}
use Rattle.run.specs.Gives.{LentRunGives}
use Rattle.reader_laws.specs.ByRuns.{took}
use Rattle.list_rows.specs.Rows.{row_room, row_of}
use Rattle.text.specs.Put.{Put}
use Rattle.lister_laws.proofs.RunLaws.{ByReader, Along, ran, head_is, body_is, answer_is, along_next, along_end}
use Rattle.list_marks.specs.declared.MarkLister.{MarkLister}
use Rattle.list_marks.specs.declared.MarksListed.{MarksListed}
use Rattle.list_marks.specs.MarkLister.{marks_with, with_outcome, outcome_row, after_nibble, nibble_text, mark_lists, listed_of, ListsMarks}

-- a lister whose parts are these
abbrev pub lister : Head → List ℕ → ℕ → MarkLister
lister h body k = record { reader = record { head = h; body = body }; marks = k }

abbrev pub reading : MarkLister → Reader → MarkLister
reading l r = record { reader = r; marks = l.marks }

pub steps : (l : MarkLister) (r : Reader) (n : ℕ) → after_nibble (reading l r) n ≡ with_outcome l (feed_of r n longest)
unfolding after_nibble
steps l r n = refl

pub texts : (l : MarkLister) (r : Reader) (n : ℕ) → nibble_text (reading l r) n ≡ outcome_row l (feed_of r n longest).outcome
unfolding nibble_text
texts l r n = refl

-- no answer: no mark more, and no row
pub quiet_next : (l : MarkLister) (r : Reader) → with_outcome l (took r nothing) ≡ reading l r
quiet_next l r = refl

pub quiet_text : (l : MarkLister) → outcome_row l nothing ≡ []
unfolding row_of
quiet_text l = refl

abbrev pub by_reader : ByReader mark_lists
by_reader =
    record {
      reader = λ l. l.reader;
      with_reader = reading;
      next = with_outcome;
      says = outcome_row;
      steps = steps;
      texts = texts;
      quiet_next = quiet_next;
      quiet_text = quiet_text;
      own = λ l. refl;
      reads = λ l t. refl;
    }

-- what a run gives, and what is made of its answer
module _ {l : MarkLister} {bytes d : List ℕ} {from at : ℕ} {h : Head} {body : List ℕ} {k : ℕ} {used : ℕ} {after : List ℕ}
    (p : Along by_reader l bytes d from at (lister h body k) used after) (known : (i : ℕ) → get_or bytes i 0 < 256)
    (more : (ltb (at / 2) (length bytes) && leb row_room (length after - used)) ≡ true) (full : length body ≡ longest)
    {n : ℕ} (n_full : n ≡ longest) {r : RunStepped} {body' line line' : List ℕ}
    (e : LentRunGives h.profile (lent_run_of h body (drop at (nibbles bytes)) n) r body' line line') where
  pub marks_next : {k' : ℕ} {used' : ℕ} {after' : List ℕ} → k' ≡ marks_with k r.answer → Put after used (row_of k' r.answer) used' after'
      → Along by_reader l bytes d from (at + r.taken) (lister r.head body' k') used' after'
  marks_next {k'} told put =
      let a_is = answer_is p known more full n_full e in
      let k_is = told ∙ ap (marks_with k) a_is in
      let reader_then = (ran p known more full n_full e).reader in
      along_next p known more full n_full e
      (ap₂ (λ (y : Head) (z : List ℕ). lister y z k') (head_is p known more full n_full e) (body_is p known more full n_full e)
      ∙ ap (λ (y : ℕ). record { reader = reader_then; marks = y }) k_is)
      (ap₂ row_of k_is a_is)
      put

-- where it ends
abbrev listed : MarkLister → ℕ → ℕ → MarksListed
listed m taken used = record { lister = m; taken = taken; used = used }

pub marks_end : {l m : MarkLister} {bytes d after : List ℕ} {from at used : ℕ} → Along by_reader l bytes d from at m used after
    → passes l.reader.head ≡ true → (ltb (at / 2) (length bytes) && leb row_room (length after - used)) ≡ false
    → ListsMarks (listed_of l (length d) (drop from (nibbles bytes))) (record { lister = m; taken = at - from; used = used }) d after
unfolding listed_of
marks_end {l} {m} {bytes} {d} {used = used} p t stop =
    let q = along_end p stop in
    simp t
    (record { next = ap₂ (λ (x : MarkLister) (y : ℕ). listed x y used) q.lister_is q.taken_is ∙ ap (listed _ _) q.used_is; leaves = q.leaves })

-- a reader that fails its own test: nothing is taken
pub nothing_listed : (l : MarkLister) (w d : List ℕ) → passes l.reader.head ≡ false → ListsMarks (listed_of l (length d) w) (record { lister = l; taken = 0; used = 0 }) d d
unfolding listed_of
nothing_listed l w d e = simp e (record { next = refl; leaves = refl })
