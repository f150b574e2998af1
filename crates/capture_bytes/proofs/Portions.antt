-- Bytes run over portion by portion: what is left brings what the whole does, and a portion that is answered ends it.
use mathlib.Core.Path.{◌≡◌, refl, ◌∙◌, ap, ap₂, sym, subst}
use mathlib.Core.Bool.{Bool, true, false, ◌&&◌, not, true≢false}
use mathlib.Core.List.{List, [], ◌++◌, append-nil}
use Prim.Native.Nat.{ℕ, ◌+◌, ◌-◌, ◌*◌, ◌/◌, ◌≤◌, ◌<◌}
use native.Mathlib.Omega.{arith}
use borrow.Author.Tests.{ltb-true, ltb-false}
use lib.Dec.{ltb}
use lib.ListN.{length, drop, get_or, drop_of_length-le}
use Rattle.profile.specs.declared.Profile.{Profile}
use Rattle.stream.specs.Answers.{Outcome, outcome_of, answer_for, buffer_after, is_answer}
use Rattle.stream.specs.AnswersLaws.{answer_of, no_answer}
use Rattle.stream.specs.Written.{nibbles}
use Rattle.stream.specs.Nibbles.{AllNibbles}
use Rattle.stream.specs.NibblesLaws.{all_nibbles_drop, nibbles_length}
use Rattle.reader_head.specs.declared.Head.{Head}
use Rattle.run.specs.declared.RunStepped.{RunStepped}
use Rattle.run.specs.Run.{Ran, ran, lent_run_of}
use Rattle.run.specs.Gives.{LentRunGives}
use Rattle.reader_laws.specs.Passing.{Byte}
use Rattle.run_ahead.specs.declared.Reached.{Reached}
use Rattle.capture_bytes.specs.Packed.{Skips}
use Rattle.capture_bytes.specs.Unpacked.{portion}
use Rattle.capture_bytes.specs.UnpackedLaws.{nibbles_small, all_nibbles_front, portion_length, portion_first}
use Rattle.capture_bytes.specs.EndToEnd.{later, Goes, lent_stays, lent_goes, lent_within}

-- bytes are run over up to the place `at`: the reader there, that it brings from there on what the first does, and the line buffer as lent
pub record Upto (h₀ : Head) (body₀ bytes line₀ : List ℕ) (from at : ℕ) (h : Head) (body line : List ℕ) : Type 0 where
  pub forward : from ≤ at
  pub same : lent_run_of h₀ body₀ (drop from (nibbles bytes)) (length line₀) ≡ later (at - from) (lent_run_of h body (drop at (nibbles bytes)) (length line))
  pub byte : Byte h.at
  pub profile : h.profile ≡ h₀.profile
  pub as_lent : line ≡ line₀

pub start : (h : Head) (body bytes line : List ℕ) (from : ℕ) → Byte h.at → Upto h body bytes line from from h body line
start h body bytes line from byte =
    let t = lent_run_of h body (drop from (nibbles bytes)) (length line) in
    record {
      forward = omega arith;
      same = ap (ran t.reader t.outcome) (let z : t.taken ≡ from - from + t.taken = omega arith in z);
      byte = byte;
      profile = refl;
      as_lent = refl;
    }

-- bytes that are skipped
pub upto_on : {h₀ : Head} {body₀ bytes line₀ : List ℕ} {from at : ℕ} {h : Head} {body line : List ℕ} {r : Reached} {body' : List ℕ} → Upto h₀ body₀ bytes line₀ from at h body line
    → Skips h body bytes at (length line) r body' → Upto h₀ body₀ bytes line₀ from r.at r.head body' line
upto_on {bytes = bytes} {from = from} {at} {line = line} {r} {body'} u k =
    let t = lent_run_of r.head body' (drop r.at (nibbles bytes)) (length line) in
    let f = u.forward in
    let g = k.from_on in
    record {
      forward = omega arith;
      same =
          u.same
          ∙ ap (later (at - from)) k.same
          ∙ ap (ran t.reader t.outcome) (let z : at - from + (r.at - at + t.taken) ≡ r.at - from + t.taken = omega arith in z);
      byte = subst Byte (sym k.same_mark) u.byte;
      profile = k.same_profile ∙ u.profile;
      as_lent = u.as_lent;
    }

and_more : (from at n k : ℕ) → from ≤ at → at - from ≤ n - from → k ≤ n - at → at + k - from ≤ n - from
and_more from at n k a b c = omega arith

between : (from at at' n : ℕ) → from ≤ at → at - from ≤ n - from → at ≤ at' → at' - at ≤ n - at → at' - from ≤ n - from
between from at at' n a b c d = omega arith

-- after a portion of k nibbles and what is skipped the place is still within them
pub still_within : (from at k at' n : ℕ) → from ≤ at → at - from ≤ n - from → k ≤ n - at → at + k ≤ at' → at' - (at + k) ≤ n - (at + k) → at' - from ≤ n - from
still_within from at k at' n a b c d e = between from (at + k) at' n (omega arith) (and_more from at n k a b c) d e

-- A portion.

module _ {h₀ : Head} {body₀ bytes line₀ : List ℕ} {from at : ℕ} {h : Head} {body line : List ℕ} (u : Upto h₀ body₀ bytes line₀ from at h body line)
    (known : (i : ℕ) → get_or bytes i 0 < 256) (end : ℕ) (k : end ≤ length bytes) where
  abbrev w : List ℕ
  w = portion bytes at end

  abbrev t : Ran
  t = lent_run_of h body w (length line)

  abbrev rest : List ℕ
  rest = drop (at + length w) (nibbles bytes)

  small : AllNibbles w
  small = all_nibbles_front w rest (subst AllNibbles (portion_first bytes at end k) (all_nibbles_drop (nibbles_small bytes known) at))

  pub portion_within : t.taken ≤ 2 * end - at
  portion_within = omega (arith, lent_within h body (length line) w, portion_length bytes at end k)

  -- it is answered, or the last
  pub answered_there : is_answer (answer_for t.outcome) ≡ true → lent_run_of h₀ body₀ (drop from (nibbles bytes)) (length line₀) ≡ later (at - from) t
  answered_there e =
      u.same
      ∙ ap (λ v. later (at - from) (lent_run_of h body v (length line))) (portion_first bytes at end k)
      ∙ ap (later (at - from)) (lent_stays h body (length line) w rest e)

  pub ended_there : 2 * length bytes ≤ at + t.taken → lent_run_of h₀ body₀ (drop from (nibbles bytes)) (length line₀) ≡ later (at - from) t
  ended_there l =
      let none : rest ≡ [] = drop_of_length-le (nibbles bytes) {i = at + length w} (omega (arith, l, lent_within h body (length line) w, nibbles_length bytes)) in
      u.same
      ∙ ap (λ v. later (at - from) (lent_run_of h body v (length line))) (portion_first bytes at end k ∙ ap (λ v. w ++ v) none ∙ append-nil w)

  -- it is not answered: all of it is taken
  module _ (e : is_answer (answer_for t.outcome) ≡ false) (s : length t.reader.body ≡ length body) where
    goes : Goes h body w rest (length line) t
    goes = lent_goes h body w rest (length line) u.byte small e s

    pub all_taken : t.taken ≡ 2 * end - at
    all_taken = goes.count ∙ portion_length bytes at end k

    next_there : Upto h₀ body₀ bytes line₀ from (at + length w) t.reader.head t.reader.body line
    next_there =
        let f = u.forward in
        let x = lent_run_of t.reader.head t.reader.body rest (length line) in
        record {
          forward = omega arith;
          same =
              u.same
              ∙ ap (λ v. later (at - from) (lent_run_of h body v (length line))) (portion_first bytes at end k)
              ∙ ap (later (at - from)) goes.onto
              ∙ ap (ran x.reader x.outcome) (let z : at - from + (length w + x.taken) ≡ at + length w - from + x.taken = omega arith in z);
          byte = goes.sound.byte;
          profile = goes.profile ∙ u.profile;
          as_lent = u.as_lent;
        }

    pub next_portion : {p : Profile} {r : RunStepped} {body' line' : List ℕ} → LentRunGives p t r body' line line'
        → Upto h₀ body₀ bytes line₀ from (at + r.taken) r.head body' line'
    next_portion {r = r} {body' = body'} {line' = line'} d =
        subst (λ (x : List ℕ). Upto h₀ body₀ bytes line₀ from (at + r.taken) r.head body' x) (sym (d.leaves ∙ ap (λ (o : Outcome). buffer_after o line) (no_answer t.outcome e)))
        (subst (λ (i : ℕ). Upto h₀ body₀ bytes line₀ from i r.head body' line) (ap (λ (n : ℕ). at + n) (sym (d.count ∙ goes.count)))
        (subst (λ (x : Head). Upto h₀ body₀ bytes line₀ from (at + length w) x body' line) (sym d.next)
        (subst (λ (x : List ℕ). Upto h₀ body₀ bytes line₀ from (at + length w) t.reader.head x line) (sym d.keeps) next_there)))

-- What the call gives.

-- whether there is an answer
pub told : {p : Profile} {t : Ran} {r : RunStepped} {body before after : List ℕ} {b : Bool} → LentRunGives p t r body before after → b ≡ is_answer r.answer
    → is_answer (answer_for t.outcome) ≡ b
told {p} {t} {r} {after = after} d e = sym (e ∙ ap is_answer (answer_of p r.answer after t.outcome d.says))

pub gives_as : {p : Profile} {t u : Ran} {r : RunStepped} {body before after : List ℕ} → t ≡ u → LentRunGives p t r body before after
    → LentRunGives p u r body before after
gives_as {p} {r = r} {body = body} {before = before} {after = after} e = subst (λ (x : Ran). LentRunGives p x r body before after) e

-- a run from the place on, whose nibbles before it were taken
pub gives_whole : {h₀ : Head} {body₀ bytes line₀ : List ℕ} {from at : ℕ} {h : Head} {body line : List ℕ} → Upto h₀ body₀ bytes line₀ from at h body line → {t : Ran}
    → lent_run_of h₀ body₀ (drop from (nibbles bytes)) (length line₀) ≡ later (at - from) t → {r : RunStepped} {body' line' : List ℕ} {n : ℕ}
    → LentRunGives h.profile t r body' line line' → n ≡ at - from + t.taken
    → LentRunGives h₀.profile (lent_run_of h₀ body₀ (drop from (nibbles bytes)) (length line₀)) (record { head = r.head; answer = r.answer; taken = n }) body' line₀ line'
gives_whole {line₀ = line₀} u {t} q {r} {line' = line'} d c =
    record {
      next = d.next ∙ ap (λ (x : Ran). x.reader.head) (sym q);
      keeps = d.keeps ∙ ap (λ (x : Ran). x.reader.body) (sym q);
      count = c ∙ ap (λ (x : Ran). x.taken) (sym q);
      says = ap (λ (x : Profile). outcome_of x r.answer line') (sym u.profile) ∙ d.says ∙ ap (λ (x : Ran). x.outcome) (sym q);
      leaves = d.leaves ∙ ap₂ (λ (x : Ran) (v : List ℕ). buffer_after x.outcome v) (sym q) u.as_lent;
    }

-- A turn: whether it goes on, and what then.

module _ {h₀ : Head} {body₀ bytes line₀ : List ℕ} {from at : ℕ} {h : Head} {body line : List ℕ} (u : Upto h₀ body₀ bytes line₀ from at h body line)
    (known : (i : ℕ) → get_or bytes i 0 < 256) (end : ℕ) (k : end ≤ length bytes) {r : RunStepped} {body' line' : List ℕ}
    (d : LentRunGives h.profile (lent_run_of h body (portion bytes at end) (length line)) r body' line line') (s : length body' ≡ length body)
    {more : Bool} (g : more ≡ (not (is_answer r.answer) && ltb ((at + r.taken) / 2) (length bytes))) where
  on : (x y : Bool) → (not x && y) ≡ true → (x ≡ false) × (y ≡ true)
  on true y e = absurd (true≢false (sym e))
  on false true e = (refl, refl)
  on false false e = absurd (true≢false (sym e))

  no_answer_yet : more ≡ true → is_answer (answer_for (lent_run_of h body (portion bytes at end) (length line)).outcome) ≡ false
  no_answer_yet e = told d refl ∙ (on (is_answer r.answer) _ (sym g ∙ e)).0

  pub next_turn : more ≡ true → Upto h₀ body₀ bytes line₀ from (at + r.taken) r.head body' line'
  next_turn e = next_portion u known end k (no_answer_yet e) (sym (ap length d.keeps) ∙ s) d

  pub last_turn : more ≡ false
      → LentRunGives h₀.profile (lent_run_of h₀ body₀ (drop from (nibbles bytes)) (length line₀)) (record { head = r.head; answer = r.answer; taken = at + r.taken - from }) body' line₀ line'
  last_turn e = go (is_answer r.answer) (ltb ((at + r.taken) / 2) (length bytes)) refl refl (sym g ∙ e)
    where
      go : (x y : Bool) → is_answer r.answer ≡ x → ltb ((at + r.taken) / 2) (length bytes) ≡ y → (not x && y) ≡ false
          → LentRunGives h₀.profile (lent_run_of h₀ body₀ (drop from (nibbles bytes)) (length line₀)) (record { head = r.head; answer = r.answer; taken = at + r.taken - from }) body' line₀ line'
      go true y p q f = gives_whole u (answered_there u known end k (told d refl ∙ p)) d (omega (arith, d.count, u.forward))
      go false true p q f = absurd (true≢false f)
      go false false p q f =
          gives_whole u (ended_there u known end k (omega (arith, d.count, ltb-false ((at + r.taken) / 2) (length bytes) q))) d (omega (arith, d.count, u.forward))

  -- the nibbles left fall where it goes on
  pub turn_less : more ≡ true → (at / 2 < length bytes → at < 2 * end) → 2 * length bytes - (at + r.taken) < 2 * length bytes - at
  turn_less e some =
      let y = ltb-true ((at + r.taken) / 2) (length bytes) (on (is_answer r.answer) _ (sym g ∙ e)).1 in
      let all = all_taken u known end k (no_answer_yet e) (sym (ap length d.keeps) ∙ s) in
      let z = some (omega arith) in
      omega (arith, d.count, all)
