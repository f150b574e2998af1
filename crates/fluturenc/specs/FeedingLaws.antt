-- Laws of feeding in place: a run is lent the body where it stands in the state, and its head is stored there where it took something.
use Rattle.std.specs.Prelude.{◌≡◌, Bool, cond, ℕ, ◌≤◌, ◌<◌, length, get_or, take, drop}
use Rattle.std.proofs.Math.Path.{refl, ap}
use Rattle.std.proofs.Common.{sym, ap₂, ◌∙◌, arith, le-leb, eq-eqb, ne_eqb, take-append-drop, length-append, length-drop, length-take-le, drop_at, drop-drop}
use Rattle.std.proofs.Math.Bool.{true, false}
use mathlib.Core.List.{List, ◌++◌}
use Rattle.refusal.specs.Refusal.{bad_state}
use Rattle.profile.specs.Profile.{longest}
use Rattle.stream.specs.Answers.{refused}
use Rattle.reader_head.specs.declared.Head.{Head}
use Rattle.reader.specs.declared.Reader.{Reader}
use Rattle.reader_head.specs.Head.{passes}
use Rattle.run.specs.Run.{Ran, ran, run_of, lent_run_of}
use Rattle.run.proofs.NothingTaken.{none_taken}
use Rattle.exported_state.specs.State.{head_length, state_length, head_bytes, head_stored, stored, head_in, body_in, reader_in, tagged, holds_reader}
use Rattle.fluturenc.specs.Calls.{state_after, feed_ran, feed_call}

-- the run of a reader whose body is lent from the state
abbrev pub lent_run : Head → List ℕ → List ℕ → List ℕ → Ran
lent_run h s w line = lent_run_of h (body_in s) w (length line)

-- a state whose body was lent, and came back as this
abbrev pub lent_back : List ℕ → List ℕ → List ℕ
lent_back s body = take head_length s ++ (body ++ drop longest (drop head_length s))

module _ (s : List ℕ) (room : state_length ≤ length s) where
  front_full : length (take head_length s) ≡ head_length
  front_full = length-take-le head_length s (omega arith)

  body_full : length (body_in s) ≡ longest
  body_full = length-take-le longest (drop head_length s) (omega (arith, length-drop head_length s))

  back_front : (body : List ℕ) → head_length ≤ length (lent_back s body)
  back_front body =
      let e = length-append (take head_length s) (body ++ drop longest (drop head_length s)) in
      omega (arith, e, front_full)

  back_same : lent_back s (body_in s) ≡ s
  back_same = ap (λ (l : List ℕ). take head_length s ++ l) (take-append-drop longest (drop head_length s)) ∙ take-append-drop head_length s

  back_stored : (r : Reader) → head_stored r.head (lent_back s r.body) ≡ stored r s
  unfolding head_stored stored
  back_stored r =
      simp (le-leb _ _ (back_front r.body))
      (ap (λ (l : List ℕ). head_bytes r.head ++ l) (drop_at (take head_length s) _ head_length front_full)
      ∙ ap (λ (l : List ℕ). head_bytes r.head ++ (r.body ++ l)) (drop-drop longest head_length s))

  module _ (w line : List ℕ) (h : Head) (read : h ≡ head_in s) where
    runs : lent_run h s w line ≡ run_of (reader_in s) w (length line)
    unfolding lent_run_of
    runs = simp (eq-eqb _ _ body_full, read)

    pub feed_lent : tagged (get_or s 0 0) (get_or s 1 0) (get_or s 13 0) ≡ true
        → feed_call s w line ≡ feed_ran (lent_run h s w line) s line
    unfolding feed_call holds_reader run_of
    feed_lent tags = simp (le-leb _ _ room, tags) (go (passes (head_in s)) refl) ∙ ap (λ (t : Ran). feed_ran t s line) (sym runs)
      where
        go : (b : Bool) → passes (head_in s) ≡ b
            → feed_ran (cond b (run_of (reader_in s) w (length line)) (ran (reader_in s) (refused bad_state) 0)) s line
            ≡ feed_ran (run_of (reader_in s) w (length line)) s line
        go true e = refl
        go false e = simp e

    -- the state that is left, where nothing is taken, and where something is
    module _ (n : ℕ) (body : List ℕ) (counted : n ≡ (lent_run h s w line).taken) (moved : body ≡ (lent_run h s w line).reader.body) where
      pub left_same : n ≤ 0 → lent_back s body ≡ state_after (lent_run h s w line) s
      left_same l =
          let t : Ran = lent_run h s w line in
          let z : t.taken ≡ 0 = omega arith in
          ap (lent_back s) (moved ∙ ap (λ (x : Ran). x.reader.body) runs ∙ ap (λ (r : Reader). r.body) (none_taken (reader_in s) w (length line) (ap (λ (x : Ran). x.taken) (sym runs) ∙ z)))
          ∙ back_same
          ∙ simp (eq-eqb _ _ z)

      pub left_stored : 0 < n → (head : Head) → head ≡ (lent_run h s w line).reader.head
          → head_stored head (lent_back s body) ≡ state_after (lent_run h s w line) s
      left_stored l head e =
          let t : Ran = lent_run h s w line in
          ap₂ (λ (x : Head) (y : List ℕ). head_stored x (lent_back s y)) e moved
          ∙ back_stored t.reader
          ∙ simp (ne_eqb t.taken 0 (λ z. omega arith))
