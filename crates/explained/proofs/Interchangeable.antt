-- Two readers that differ only in what no answer looks at: what has not yet left the window, and what the open mark's kind does not need.
-- Each nibble and finish answers them alike, and leaves them so.
use Rattle.std.specs.Prelude.{◌≡◌, refl, Bool, true, false, cond, List, [], ℕ, zero, suc, ◌+◌, ◌-◌, ◌/◌, ◌%◌, ◌≤◌, ◌<◌, ◌^◌, min, leb, ltb, length, replicate}
use Rattle.std.proofs.Common.{◌∙◌, sym, subst, true≢false, arith, leb-true, leb-false, ltb-false}
use Rattle.std.proofs.Math.Option.{none, some}
use Rattle.std.proofs.lemmas.List.{length-replicate}
use Rattle.refusal.specs.Refusal.{not_a_nibble, bad_state, no_room}
use Rattle.profile.specs.declared.Profile.{Profile}
use Rattle.profile.specs.Profile.{body_length, longest}
use Rattle.stream.specs.declared.Mark.{Mark}
use Rattle.stream.specs.declared.Mark.TheVariants.{NoMark, Open}
use Rattle.stream.specs.Answers.{Outcome, nothing, is_line}
use Rattle.stream.specs.Stream.{kind_at, before_by}
use Rattle.mark_text.specs.declared.Kept.{Kept}
use Rattle.mark_text.specs.MarkText.{nothing_kept, kept_at, body_at}
use Rattle.mark_answer.specs.KeptAnswer.{kept_answer}
use Rattle.reader_head.specs.declared.Head.{Head}
use Rattle.reader.specs.declared.Reader.{Reader}
use Rattle.reader_head.specs.Head.{top_place, shows_mark, slide, bump, count_stop, leave_kept, leave_body, opened_by, shifted, flushed, passes}
use Rattle.reader.specs.Reader.{Took, take_head, take_outcome, taking, fresh_reader, refusing, feed_of, finish_of}
use Rattle.reader_laws.specs.Passing.{finished, Ok}
use Rattle.reader_laws.proofs.Passes.{fresh_ok, feed_ok, passes_test}
use Rattle.refinement.specs.RefineLaws.{no_body, finish_passed}
use Rattle.explained.specs.Explained.{Store}
use Rattle.explained.proofs.Used.{ends_line, SameUsed, no_nibbles, used_fewer, used_commit, answer_same}

-- Readers.

-- a head from its parts
abbrev pub head_with : Profile → Mark → ℕ → ℕ → Kept → Head
head_with p m c w t = record { profile = p; at = m; count = c; window = w; kept = t }

-- a reader from its parts
abbrev pub reader_with : Profile → Mark → ℕ → ℕ → Store → Reader
reader_with p m c w s = record { head = head_with p m c w s.kept; body = s.body }

-- the same but for what is kept, and of that the same is used
pub data Interchangeable (p : Profile) : Reader → Reader → Type 0 where
  differ_unused : (m : Mark) (c w : ℕ) (s s₂ : Store) → w < 2 ^ 32 → SameUsed p (ends_line m) (c - 8) s s₂
      → Interchangeable p (reader_with p m c w s) (reader_with p m c w s₂)

-- what is kept after the window's oldest nibble has left
abbrev leave : Profile → Mark → ℕ → ℕ → Store → Store
leave p m c w s = record { kept = leave_kept (head_with p m c w s.kept); body = leave_body (head_with p m c w s.kept) s.body }

leave_same : (p : Profile) (m : Mark) (c w : ℕ) (s s₂ : Store) → w < 2 ^ 32 → SameUsed p (ends_line m) (c - 8) s s₂
    → SameUsed p (ends_line m) (c - 7) (leave p m c w s) (leave p m c w s₂)
unfolding leave_kept leave_body
leave_same p m c w s s₂ h f = go (leb 8 c) refl
  where
    left : Bool → Store → Store
    left b s =
        record {
          kept = cond b (kept_at p (c - 8) (w / top_place) s.kept) s.kept;
          body = cond b (body_at (c - 8) (w / top_place) s.body) s.body;
        }

    go : (b : Bool) → leb 8 c ≡ b → SameUsed p (ends_line m) (c - 7) (left b s) (left b s₂)
    go true e =
        let k = leb-true 8 c e in
        used_fewer (suc (c - 8)) (c - 7) (omega arith) (used_commit p (c - 8) (w / top_place) (omega arith) f)
    go false e = let k = leb-false 8 c e in used_fewer (c - 8) (c - 7) (omega arith) f

record SameTook (p : Profile) (f g : Took) : Type 0 where
  reader : Interchangeable p f.reader g.reader
  outcome : f.outcome ≡ g.outcome

bump_least : (c : ℕ) → bump c - 8 ≤ c - 7
unfolding bump
bump_least c = go (ltb c count_stop)
  where
    go : (b : Bool) → cond b (c + 1) c - 8 ≤ c - 7
    go true = omega arith
    go false = omega arith

slide_small : (w n : ℕ) → n < 16 → slide w n < 2 ^ 32
unfolding slide
slide_small w n h = omega arith

same_take : (p : Profile) {r r₂ : Reader} (n : ℕ) → n < 16 → Interchangeable p r r₂ → SameTook p (taking r n) (taking r₂ n)
unfolding take_head take_outcome
same_take p n g (differ_unused m c w s s₂ h f) = go (shows_mark (slide w n))
  where
    code : ℕ
    code = slide w n % 256

    l : SameUsed p (ends_line m) (c - 7) (leave p m c w s) (leave p m c w s₂)
    l = leave_same p m c w s s₂ h f

    new : Store → Store
    new s = record { kept = nothing_kept; body = (leave p m c w s).body }

    told : Store → Bool → Outcome
    told s b = cond b (kept_answer p m (c - 7) (leave p m c w s).kept (leave p m c w s).body (some code)) nothing

    same_told : told s true ≡ told s₂ true
    same_told = answer_same p m (c - 7) (c - 7) (some code) (omega arith) l

    opens : Store → Outcome → Reader
    opens s o = reader_with p (Open (before_by (kind_at m) (is_line o)) code) 2 code (new s)

    after : Store → Bool → Took
    after s b =
        record {
          reader =
              record {
                head = cond b (opened_by (head_with p m c w s.kept) code (is_line (told s b))) (shifted (head_with p m c w s.kept) n);
                body = (leave p m c w s).body;
              };
          outcome = told s b;
        }

    go : (b : Bool) → SameTook p (after s b) (after s₂ b)
    go true =
        record {
          reader =
              subst (λ o. Interchangeable p (opens s (told s true)) (opens s₂ o)) same_told
              (differ_unused (Open (before_by (kind_at m) (is_line (told s true))) code) 2 code (new s) (new s₂) (omega arith)
              (record {
                nibbles = no_nibbles p _ 0 (new s) (new s₂) (omega arith);
                stray_same = λ q. refl;
                size = l.size;
                size_two = l.size_two;
              }));
          outcome = same_told;
        }
    go false =
        record {
          reader =
              differ_unused m (bump c) (slide w n) (leave p m c w s) (leave p m c w s₂) (slide_small w n g)
              (used_fewer (c - 7) (bump c - 8) (bump_least c) l);
          outcome = refl;
        }

-- Finish.

-- what is kept after k more nibbles have left the window, with the bodies that would stand beside it
record Flushed (p : Profile) (m : Mark) (k c w : ℕ) (t t₂ : Kept) : Type 0 where
  count : ℕ
  body : List ℕ
  body_two : List ℕ
  long : min (c + k) count_stop ≤ count + 8
  same_used :
      SameUsed p (ends_line m) count (record { kept = (flushed k (head_with p m c w t)).kept; body = body })
      (record { kept = (flushed k (head_with p m c w t₂)).kept; body = body_two })

bump_most : (c k : ℕ) → min (c + suc k) count_stop ≤ min (bump c + k) count_stop
unfolding bump
bump_most c k = go (ltb c count_stop) refl
  where
    go : (b : Bool) → ltb c count_stop ≡ b → min (c + suc k) count_stop ≤ min (cond b (c + 1) c + k) count_stop
    go true e = omega arith
    go false e = let z = ltb-false c count_stop e in omega arith

flush_same : (p : Profile) (m : Mark) (k c w : ℕ) (s s₂ : Store) → w < 2 ^ 32 → SameUsed p (ends_line m) (c - 8) s s₂
    → Flushed p m k c w s.kept s₂.kept
flush_same p m zero c w s s₂ h f = record { count = c - 8; body = s.body; body_two = s₂.body; long = omega arith; same_used = f }
flush_same p m (suc k) c w s s₂ h f =
    go
    (flush_same p m k (bump c) (slide w 0) (leave p m c w s) (leave p m c w s₂) (slide_small w 0 (omega arith))
    (used_fewer (c - 7) (bump c - 8) (bump_least c) (leave_same p m c w s s₂ h f)))
  where
    go : Flushed p m k (bump c) (slide w 0) (leave p m c w s).kept (leave p m c w s₂).kept → Flushed p m (suc k) c w s.kept s₂.kept
    go q =
        record {
          count = q.count;
          body = q.body;
          body_two = q.body_two;
          long = (let z = q.long in let y = bump_most c k in omega arith);
          same_used = q.same_used;
        }

finish_same : (p : Profile) {r r₂ : Reader} → Interchangeable p r r₂ → (finished r).outcome ≡ (finished r₂).outcome
finish_same p (differ_unused m c w s s₂ h f) = go (flush_same p m 8 c w s s₂ h f)
  where
    kept_of : Store → Kept
    kept_of s = (flushed 8 (head_with p m c w s.kept)).kept

    go : Flushed p m 8 c w s.kept s₂.kept → kept_answer p m c (kept_of s) [] none ≡ kept_answer p m c (kept_of s₂) [] none
    go q =
        no_body p m c (kept_of s) [] q.body
        ∙ answer_same p m c q.count none (let z = q.long in omega arith) q.same_used
        ∙ no_body p m c (kept_of s₂) q.body_two []

used_all : (p : Profile) (e : Bool) (n : ℕ) (s : Store) → length s.body ≡ longest → SameUsed p e n s s
used_all p e n s l =
    record { nibbles = λ i h u. refl; stray_same = λ q. refl; size = l; size_two = l }

fresh_same : (p : Profile) → Interchangeable p (fresh_reader p) (fresh_reader p)
fresh_same p =
    let s : Store = record { kept = nothing_kept; body = replicate longest 0 } in
    differ_unused NoMark 0 0 s s (omega arith) (used_all p false 0 s (length-replicate {A = ℕ} longest 0))

-- The calls, of readers that pass their own test.

-- two interchangeable readers that both pass their own test
pub record BothPass (p : Profile) (r r₂ : Reader) : Type 0 where
  pub alike : Interchangeable p r r₂
  pub ok : Ok r.head
  pub ok_two : Ok r₂.head

-- two calls give the same, and leave states alike
pub record SameCall (p : Profile) (f g : Took) : Type 0 where
  pub both : BothPass p f.reader g.reader
  pub outcome : f.outcome ≡ g.outcome

pub same_feed : (p : Profile) (r r₂ : Reader) (n room : ℕ) → BothPass p r r₂ → SameCall p (feed_of r n room) (feed_of r₂ n room)
unfolding feed_of
same_feed p r r₂ n room q =
    record {
      both = record { alike = t.reader; ok = feed_ok r n room q.ok; ok_two = feed_ok r₂ n room q.ok_two };
      outcome = t.outcome;
    }
  where
    by : Reader → Bool → Bool → Bool → Took
    by r a b c = cond a (cond b (cond c (taking r n) (refusing r no_room)) (refusing r not_a_nibble)) (refusing r bad_state)

    go : (a a₂ b c : Bool) → a ≡ true → a₂ ≡ true → leb n 15 ≡ b → SameTook p (by r a b c) (by r₂ a₂ b c)
    go false a₂ b c e e₂ l = absurd (true≢false (sym e))
    go true false b c e e₂ l = absurd (true≢false (sym e₂))
    go true true false c e e₂ l = record { reader = q.alike; outcome = refl }
    go true true true false e e₂ l = record { reader = q.alike; outcome = refl }
    go true true true true e e₂ l = same_take p n (let k = leb-true n 15 l in omega arith) q.alike

    room_for : (r r₂ : Reader) → Interchangeable p r r₂
        → leb (body_length r₂.head.profile) room ≡ leb (body_length r.head.profile) room
    room_for r r₂ (differ_unused m c w s s₂ h f) = refl

    t : SameTook p (feed_of r n room) (feed_of r₂ n room)
    t =
        subst (λ c. SameTook p (feed_of r n room) (by r₂ (passes r₂.head) (leb n 15) c)) (sym (room_for r r₂ q.alike))
        (go (passes r.head) (passes r₂.head) (leb n 15) (leb (body_length r.head.profile) room)
        (passes_test r.head q.ok.test) (passes_test r₂.head q.ok_two.test) refl)

pub same_finish : (p : Profile) (r r₂ : Reader) → BothPass p r r₂ → SameCall p (finish_of r) (finish_of r₂)
same_finish p r r₂ q =
    subst (λ x. SameCall p x (finish_of r₂)) (sym (finish_passed r q.ok))
    (subst (λ x. SameCall p (finished r) x) (sym (finish_passed r₂ q.ok_two))
    (record { both = both r r₂ q.alike; outcome = finish_same p q.alike }))
  where
    both : (r r₂ : Reader) → Interchangeable p r r₂ → BothPass p (finished r).reader (finished r₂).reader
    both r r₂ (differ_unused m c w s s₂ h f) = record { alike = fresh_same p; ok = fresh_ok p; ok_two = fresh_ok p }
