-- A lister of means goes by what its reader answers: so what every lister does run by run, it does.
use Rattle.std.specs.Prelude.{Option, None, Some}
use mathlib.Core.Path.{◌≡◌, refl, ◌∙◌, ap, ap₂}
use mathlib.Core.Bool.{true, false, ◌&&◌}
use mathlib.Core.List.{List, []}
use Prim.Native.Nat.{ℕ, ◌+◌, ◌-◌, ◌/◌, ◌<◌}
use lib.Dec.{leb, ltb}
use lib.ListN.{length, drop, get_or}
use Rattle.profile.specs.Profile.{longest}
use Rattle.stream.specs.declared.Answer.TheVariants as answers
use Rattle.stream.specs.Answers.{nothing}
use Rattle.stream.specs.Written.{nibbles}
use Rattle.reader_head.specs.declared.Head.{Head}
use Rattle.reader.specs.declared.Reader.{Reader}
use Rattle.reader_head.specs.Head.{passes}
use Rattle.reader.specs.Reader.{feed_of}
use Rattle.run.specs.declared.RunStepped.{RunStepped}
use Rattle.run.specs.Run.{lent_run_of}
use Rattle.run.specs.Gives.{LentRunGives}
use Rattle.reader_laws.specs.ByRuns.{took}
use Rattle.mean_rows.specs.MeanRows.{means_room}
use Rattle.text.specs.Put.{Put}
use Rattle.lister_laws.proofs.RunLaws.{ByReader, Along, ran, head_is, body_is, answer_is, line_is, along_next, along_end}
use Rattle.list_means.specs.declared.MeanLister.{MeanLister}
use Rattle.list_means.specs.declared.MeansListed.{MeansListed}
use Rattle.mean_gap.specs.AwaitedGap.{awaits_after}
use Rattle.list_means.specs.MeanLister.{answer_row, text_of, with_outcome, outcome_text, after_nibble, nibble_text, means_lists, listed_of, ListsMeans}

-- a lister whose parts are these
abbrev pub lister : Head → List ℕ → List ℕ → Option ℕ → MeanLister
lister h body line w = record { reader = record { head = h; body = body }; line = line; awaits = w }

abbrev pub reading : MeanLister → Reader → MeanLister
reading l r = record { reader = r; line = l.line; awaits = l.awaits }

pub steps : (l : MeanLister) (r : Reader) (n : ℕ) → after_nibble (reading l r) n ≡ with_outcome l (feed_of r n longest)
unfolding after_nibble
steps l r n = refl

pub texts : (l : MeanLister) (r : Reader) (n : ℕ) → nibble_text (reading l r) n ≡ outcome_text l (feed_of r n longest).outcome
unfolding nibble_text
texts l r n = refl

pub quiet_next : (l : MeanLister) (r : Reader) → with_outcome l (took r nothing) ≡ reading l r
unfolding awaits_after
quiet_next l r = refl

-- no answer has no text
pub quiet_text : (w : Option ℕ) (line : List ℕ) → text_of w answers.Nothing line ≡ []
unfolding text_of answer_row
quiet_text None line = refl
quiet_text (Some n) line = refl

abbrev pub by_reader : ByReader means_lists
by_reader =
    record {
      reader = λ l. l.reader;
      with_reader = reading;
      next = with_outcome;
      says = outcome_text;
      steps = steps;
      texts = texts;
      quiet_next = quiet_next;
      quiet_text = λ l. quiet_text l.awaits l.line;
      own = λ l. refl;
      reads = λ l t. refl;
    }

-- what a run gives, and what is made of its answer
module _ {l : MeanLister} {bytes d : List ℕ} {from at : ℕ} {h : Head} {body line : List ℕ} {w : Option ℕ} {used : ℕ} {after : List ℕ}
    (p : Along by_reader l bytes d from at (lister h body line w) used after) (known : (i : ℕ) → get_or bytes i 0 < 256)
    (more : (ltb (at / 2) (length bytes) && leb means_room (length after - used)) ≡ true) (full : length body ≡ longest)
    {n : ℕ} (n_full : n ≡ longest) {r : RunStepped} {body' line' : List ℕ}
    (e : LentRunGives h.profile (lent_run_of h body (drop at (nibbles bytes)) n) r body' line line') where
  pub means_next : {w' : Option ℕ} {used' : ℕ} {after' : List ℕ} → w' ≡ awaits_after w r.answer → Put after used (text_of w r.answer line') used' after'
      → Along by_reader l bytes d from (at + r.taken) (lister r.head body' line' w') used' after'
  means_next {w'} told put =
      let reader_then = (ran p known more full n_full e).reader in
      let a_is = answer_is p known more full n_full e in
      let l_is = line_is p known more full n_full e in
      along_next p known more full n_full e
      (ap₂ (λ (y : Head) (z : List ℕ). lister y z line' w') (head_is p known more full n_full e) (body_is p known more full n_full e)
      ∙ ap₂ (λ (y : List ℕ) (z : Option ℕ). record { reader = reader_then; line = y; awaits = z }) l_is (told ∙ ap (awaits_after w) a_is))
      (ap₂ (text_of w) a_is l_is)
      put

-- where it ends
abbrev listed : MeanLister → ℕ → ℕ → MeansListed
listed m taken used = record { lister = m; taken = taken; used = used }

pub means_end : {l m : MeanLister} {bytes d after : List ℕ} {from at used : ℕ} → Along by_reader l bytes d from at m used after
    → passes l.reader.head ≡ true → (ltb (at / 2) (length bytes) && leb means_room (length after - used)) ≡ false
    → ListsMeans (listed_of l (length d) (drop from (nibbles bytes))) (record { lister = m; taken = at - from; used = used }) d after
unfolding listed_of
means_end {l} {m} {bytes} {d} {used = used} p t stop =
    let q = along_end p stop in
    simp t
    (record { next = ap₂ (λ (x : MeanLister) (y : ℕ). listed x y used) q.lister_is q.taken_is ∙ ap (listed _ _) q.used_is; leaves = q.leaves })

-- a reader that fails its own test: nothing is taken
pub nothing_listed : (l : MeanLister) (w d : List ℕ) → passes l.reader.head ≡ false → ListsMeans (listed_of l (length d) w) (record { lister = l; taken = 0; used = 0 }) d d
unfolding listed_of
nothing_listed l w d e = simp e (record { next = refl; leaves = refl })
