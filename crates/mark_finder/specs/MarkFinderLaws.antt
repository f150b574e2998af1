-- What the finder's parts give together: the bytes that are kept, and a call by the run that it makes.
use Rattle.std.specs.Prelude.{◌≡◌, refl, Bool, true, false, cond, List, [], ◌∷◌, ℕ, suc, ◌+◌, ◌-◌, ◌*◌, ◌/◌, ◌%◌, ◌≤◌, ◌<◌, min, leb, length, take, drop, get_or}
use Rattle.std.proofs.Common.{◌∙◌, ap, ap₂, sym, subst, arith, length-drop, drop_of_length-le, take_all, drop-cons, leb-true, leb-false}
use Rattle.std.proofs.lemmas.List.Edits.{sets}
use Rattle.std.proofs.Math.Seq.{take-nil}
use Rattle.profile.specs.declared.Profile.{Profile}
use Rattle.text.specs.Put.{Puts}
use Rattle.stream.specs.Answers.{answer_for, is_answer}
use Rattle.stream.specs.AnswersLaws.{answer_of}
use Rattle.stream.specs.Written.{nibbles}
use Rattle.stream.specs.NibblesLaws.{nibbles_length}
use Rattle.reader_head.specs.declared.Head.{Head}
use Rattle.reader.specs.declared.Reader.{Reader}
use Rattle.reader.specs.Reader.{reader_of}
use Rattle.run.specs.declared.RunStepped.{RunStepped}
use Rattle.run.specs.Run.{Ran}
use Rattle.run.specs.Gives.{LentRunGives}
use Rattle.capture_bytes.specs.Unpacked.{run_from}
use Rattle.capture_bytes.specs.EndToEnd.{lent_within}
use Rattle.mark_finder.specs.declared.Located.{Located}
use Rattle.mark_finder.specs.declared.Finder.{Finder}
use Rattle.mark_finder.specs.MarkFinder.{located, opening_next, span, answering, going_on, find_by, Finds, AfterFind}

-- Bytes.

-- a part of a list, cut to its length
span_cut : (bytes : List ℕ) (from to end first : ℕ) → end ≡ min to (length bytes) → first ≡ min from end
    → take (end - first) (drop first bytes) ≡ span bytes from to
span_cut bytes from to end first e f = go (leb from end) refl
  where
    go : (b : Bool) → leb from end ≡ b → take (end - first) (drop first bytes) ≡ take (to - from) (drop from bytes)
    go true q =
        let h = leb-true from end q in
        ap (λ (k : ℕ). take (end - k) (drop k bytes)) (let z : first ≡ from = omega arith in z)
        ∙ cut (leb to (length bytes)) refl
      where
        cut : (b : Bool) → leb to (length bytes) ≡ b → take (end - from) (drop from bytes) ≡ take (to - from) (drop from bytes)
        cut true p = let g = leb-true to (length bytes) p in ap (λ (k : ℕ). take (k - from) (drop from bytes)) (let z : end ≡ to = omega arith in z)
        cut false p =
            let g = leb-false to (length bytes) p in
            take_all (end - from) (drop from bytes) (omega (arith, length-drop from bytes))
            ∙ sym (take_all (to - from) (drop from bytes) (omega (arith, length-drop from bytes)))
    go false q =
        let h = leb-false from end q in
        ap (λ (k : ℕ). take k (drop first bytes)) (let z : end - first ≡ 0 = omega arith in z)
        ∙ none (leb to (length bytes)) refl
      where
        none : (b : Bool) → leb to (length bytes) ≡ b → [] ≡ take (to - from) (drop from bytes)
        none true p =
            let g = leb-true to (length bytes) p in
            let h = leb-false from end q in
            ap (λ (k : ℕ). take k (drop from bytes)) (let z : 0 ≡ to - from = omega arith in z)
        none false p =
            let g = leb-false to (length bytes) p in
            let h = leb-false from end q in
            sym (ap (take (to - from)) (drop_of_length-le bytes {i = from} (omega arith)) ∙ take-nil (to - from))

pub span_put : (bytes : List ℕ) (from to : ℕ) {end first : ℕ} → end ≡ min to (length bytes) → first ≡ min from end → {d d₁ : List ℕ} {at r : ℕ}
    → Puts d at (take (end - first) (drop first bytes)) r d₁ → Puts d at (span bytes from to) r d₁
span_put bytes from to {end} {first} e f {d} {d₁} {at} {r} = subst (λ (w : List ℕ). Puts d at w r d₁) (span_cut bytes from to end first e f)

-- four bytes up to a place, one by one
pub four_there : (bytes : List ℕ) (n : ℕ) → 4 ≤ n → n ≤ length bytes
    → take 4 (drop (n - 4) bytes) ≡ get_or bytes (n - 4) 0 ∷ (get_or bytes (n - 3) 0 ∷ (get_or bytes (n - 2) 0 ∷ (get_or bytes (n - 1) 0 ∷ [])))
four_there bytes n g h =
    ap (take 4)
    (drop-cons bytes (n - 4) 0 (omega arith)
    ∙ ap (λ v. get_or bytes (n - 4) 0 ∷ v)
    (next (n - 4) (n - 3) (omega arith) (omega arith)
    ∙ ap (λ v. get_or bytes (n - 3) 0 ∷ v)
    (next (n - 3) (n - 2) (omega arith) (omega arith) ∙ ap (λ v. get_or bytes (n - 2) 0 ∷ v) (next (n - 2) (n - 1) (omega arith) (omega arith)))))
  where
    next : (i j : ℕ) → suc i ≡ j → j < length bytes → drop (suc i) bytes ≡ get_or bytes j 0 ∷ drop (suc j) bytes
    next i j e l = ap (λ (k : ℕ). drop k bytes) e ∙ drop-cons bytes j 0 l

-- A call.

-- it takes no more nibbles than there are
pub taken_within : (h : Head) (body bytes : List ℕ) (from room : ℕ) {p : Profile} {r : RunStepped} {body' line line' : List ℕ}
    → LentRunGives p (run_from h body bytes from room) r body' line line' → r.taken ≤ 2 * length bytes - from
taken_within h body bytes from room e =
    omega (arith, e.count, lent_within h body room (drop from (nibbles bytes)), length-drop from (nibbles bytes), nibbles_length bytes)

module _ (f : Finder) (piece : List ℕ) (from : ℕ) (held : List ℕ) {p : Profile} {u : Ran} {r : RunStepped} {body' line line' : List ℕ}
    (e : LentRunGives p u r body' line line') where
  answer_is : r.answer ≡ answer_for u.outcome
  answer_is = answer_of p r.answer line' u.outcome e.says

  reader_is : reader_of r.head body' ≡ u.reader
  reader_is = ap₂ reader_of e.next e.keeps

  by_answer : (b : Bool) → is_answer r.answer ≡ b → cond b (answering f piece (from + u.taken) held u) (going_on f held u) ≡ find_by f piece from held u
  by_answer b q =
      ap (λ (x : Bool). cond x (answering f piece (from + u.taken) held u) (going_on f held u)) (sym q ∙ ap is_answer answer_is)

  pub finds_answered : {finder : Finder} {mark : Located} {n next : ℕ} {held' : List ℕ} → is_answer r.answer ≡ true → next ≡ from + r.taken
      → mark ≡ located f r.answer
      → Puts held f.length (span piece f.begin (next / 2 + next % 2)) n held'
      → finder ≡ opening_next f (reader_of r.head body') next
      → Finds (find_by f piece from held u) (record { finder = finder; taken = r.taken; answered = true; mark = mark; length = n }) held'
  finds_answered {finder} {mark} {n} {next} {held'} q at m k o =
      let there : next ≡ from + u.taken = at ∙ ap (λ (i : ℕ). from + i) e.count in
      let d = by_answer true q in
      let c : AfterFind = answering f piece (from + u.taken) held u in
      let finder_is : finder ≡ c.found.finder = o ∙ ap₂ (opening_next f) reader_is there in
      let mark_is : mark ≡ c.found.mark = m ∙ ap (located f) answer_is in
      let length_is : n ≡ c.found.length = k.place ∙ ap (λ (i : ℕ). f.length + min (length (span piece f.begin (i / 2 + i % 2))) (length held - f.length)) there in
      record {
        gives =
            ap₂ (λ (x : Finder) (i : ℕ). record { finder = x; taken = i; answered = true; mark = mark; length = n }) finder_is e.count
            ∙ ap₂ (λ (x : Located) (i : ℕ). record { finder = c.found.finder; taken = u.taken; answered = true; mark = x; length = i }) mark_is length_is
            ∙ ap (λ (a : AfterFind). a.found) d;
        leaves = k.stored ∙ ap (λ (i : ℕ). sets held f.length (span piece f.begin (i / 2 + i % 2))) there ∙ ap (λ (a : AfterFind). a.buffer) d;
      }

  pub finds_on : {mark : Located} → is_answer r.answer ≡ false → mark ≡ located f r.answer
      → Finds (find_by f piece from held u)
      (record { finder = record { reader = reader_of r.head body'; number = f.number; place = f.place; low = f.low; offset = f.offset; begin = f.begin; length = f.length }; taken = r.taken; answered = false; mark = mark; length = f.length })
      held
  finds_on {mark} q m =
      let d = by_answer false q in
      record {
        gives =
            ap₂ (λ (x : Reader) (i : ℕ). record { finder = record { reader = x; number = f.number; place = f.place; low = f.low; offset = f.offset; begin = f.begin; length = f.length }; taken = i; answered = false; mark = mark; length = f.length }) reader_is e.count
            ∙ ap (λ (x : Located). record { finder = (going_on f held u).found.finder; taken = u.taken; answered = false; mark = x; length = f.length }) (m ∙ ap (located f) answer_is)
            ∙ ap (λ (a : AfterFind). a.found) d;
        leaves = ap (λ (a : AfterFind). a.buffer) d;
      }
