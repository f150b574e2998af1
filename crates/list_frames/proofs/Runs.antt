-- A lister of frames goes by what its reader answers: so what every lister does run by run, it does.
use mathlib.Core.Path.{◌≡◌, refl, ◌∙◌, ap, ap₂}
use mathlib.Core.Bool.{true, false, ◌&&◌}
use mathlib.Core.List.{List, []}
use Prim.Native.Nat.{ℕ, ◌+◌, ◌-◌, ◌/◌, ◌<◌}
use lib.Dec.{leb, ltb}
use lib.ListN.{length, drop, get_or}
use Rattle.profile.specs.Profile.{longest}
use Rattle.stream.specs.Answers.{nothing}
use Rattle.stream.specs.Written.{nibbles}
use Rattle.reader_head.specs.declared.Head.{Head}
use Rattle.reader.specs.declared.Reader.{Reader}
use Rattle.reader_head.specs.Head.{passes}
use Rattle.reader.specs.Reader.{feed_of}
use Rattle.run.specs.declared.RunStepped.{RunStepped}
use Rattle.run.specs.Run.{lent_run_of}
use Rattle.run.specs.Gives.{LentRunGives}
use Rattle.reader_laws.specs.ByRuns.{took}
use Rattle.findings.specs.declared.Findings.{Findings}
use Rattle.findings.specs.declared.Found.{Found}
use Rattle.findings.specs.Findings.{take_of}
use Rattle.findings.specs.FindingsLaws.{nothing_found}
use Rattle.list_news.specs.NewsLines.{news_line, news_room}
use Rattle.text.specs.Put.{Put}
use Rattle.lister_laws.proofs.RunLaws.{ByReader, Along, ran, head_is, body_is, answer_is, along_next, along_end}
use Rattle.list_frames.specs.declared.FrameLister.{FrameLister}
use Rattle.list_frames.specs.declared.FramesListed.{FramesListed}
use Rattle.list_frames.specs.FrameLister.{with_outcome, outcome_line, after_nibble, nibble_text, frame_lists, listed_of, ListsFrames}

-- a lister whose parts are these
abbrev pub lister : Head → List ℕ → Findings → FrameLister
lister h body t = record { reader = record { head = h; body = body }; findings = t }

abbrev pub reading : FrameLister → Reader → FrameLister
reading l r = record { reader = r; findings = l.findings }

pub steps : (l : FrameLister) (r : Reader) (n : ℕ) → after_nibble (reading l r) n ≡ with_outcome l (feed_of r n longest)
unfolding after_nibble
steps l r n = refl

pub texts : (l : FrameLister) (r : Reader) (n : ℕ) → nibble_text (reading l r) n ≡ outcome_line l (feed_of r n longest).outcome
unfolding nibble_text
texts l r n = refl

-- no answer: the findings stay, and there is no line
pub quiet_next : (l : FrameLister) (r : Reader) → with_outcome l (took r nothing) ≡ reading l r
quiet_next l r = ap (λ (d : Found). record { reader = r; findings = d.findings }) (nothing_found l.findings)

pub quiet_text : (l : FrameLister) → outcome_line l nothing ≡ []
unfolding news_line
quiet_text l = ap (λ (d : Found). news_line d.news) (nothing_found l.findings)

abbrev pub by_reader : ByReader frame_lists
by_reader =
    record {
      reader = λ l. l.reader;
      with_reader = reading;
      next = with_outcome;
      says = outcome_line;
      steps = steps;
      texts = texts;
      quiet_next = quiet_next;
      quiet_text = quiet_text;
      own = λ l. refl;
      reads = λ l t. refl;
    }

-- what a run gives, and what is made of its answer
module _ {l : FrameLister} {bytes d : List ℕ} {from at : ℕ} {h : Head} {body : List ℕ} {findings : Findings} {used : ℕ} {after : List ℕ}
    (p : Along by_reader l bytes d from at (lister h body findings) used after) (known : (i : ℕ) → get_or bytes i 0 < 256)
    (more : (ltb (at / 2) (length bytes) && leb news_room (length after - used)) ≡ true) (full : length body ≡ longest)
    {n : ℕ} (n_full : n ≡ longest) {r : RunStepped} {body' line line' : List ℕ}
    (e : LentRunGives h.profile (lent_run_of h body (drop at (nibbles bytes)) n) r body' line line') where
  pub frames_next : {o : Found} {used' : ℕ} {after' : List ℕ} → o ≡ take_of findings r.answer → Put after used (news_line o.news) used' after'
      → Along by_reader l bytes d from (at + r.taken) (lister r.head body' o.findings) used' after'
  frames_next {o} told put =
      let o_is = told ∙ ap (take_of findings) (answer_is p known more full n_full e) in
      let reader_then = (ran p known more full n_full e).reader in
      along_next p known more full n_full e
      (ap₂ (λ (y : Head) (z : List ℕ). lister y z o.findings) (head_is p known more full n_full e) (body_is p known more full n_full e)
      ∙ ap (λ (y : Found). record { reader = reader_then; findings = y.findings }) o_is)
      (ap (λ (y : Found). news_line y.news) o_is)
      put

-- where it ends
abbrev listed : FrameLister → ℕ → ℕ → FramesListed
listed m taken used = record { lister = m; taken = taken; used = used }

pub frames_end : {l m : FrameLister} {bytes d after : List ℕ} {from at used : ℕ} → Along by_reader l bytes d from at m used after
    → passes l.reader.head ≡ true → (ltb (at / 2) (length bytes) && leb news_room (length after - used)) ≡ false
    → ListsFrames (listed_of l (length d) (drop from (nibbles bytes))) (record { lister = m; taken = at - from; used = used }) d after
unfolding listed_of
frames_end {l} {m} {bytes} {d} {used = used} p t stop =
    let q = along_end p stop in
    simp t
    (record { next = ap₂ (λ (x : FrameLister) (y : ℕ). listed x y used) q.lister_is q.taken_is ∙ ap (listed _ _) q.used_is; leaves = q.leaves })

-- a reader that fails its own test: nothing is taken
pub nothing_listed : (l : FrameLister) (w d : List ℕ) → passes l.reader.head ≡ false → ListsFrames (listed_of l (length d) w) (record { lister = l; taken = 0; used = 0 }) d d
unfolding listed_of
nothing_listed l w d e = simp e (record { next = refl; leaves = refl })
