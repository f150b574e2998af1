-- The parts that a list is cut into, a line's bytes each and the last one maybe fewer: those whose head is there are its lines.
use Rattle.std.specs.Prelude.{◌≡◌, refl, Bool, true, false, not, ◌&&◌, List, [], ◌∷◌, ◌++◌, ℕ, zero, suc, ◌+◌, ◌-◌, ◌/◌, ◌≤◌, ◌<◌, min, leb, length, take, drop}
use Rattle.std.specs.List.{list_any}
use Rattle.std.specs.Slice.Iter.{chunks_rest, chunks_size, chunks_steps}
use Rattle.std.proofs.Common.{sym, ap, subst, ◌∙◌, arith, length-drop, length-take, take_all, le-leb}
use Rattle.std.proofs.lemmas.Bool.{leb-true, leb-false, lt-leb}
use Rattle.std.proofs.lemmas.Iterator.{YieldsList}
use Rattle.std.proofs.lemmas.Iterator.Splits.{YieldsList-from_shown_while}
use Rattle.profile.specs.Profile.{width}
use Rattle.line_records.specs.Lines.{FullLine, from_two, head_size, line_size, front_line, headed_lines}
use Rattle.line_records.proofs.LinesLaws.{heads_step, heads_none}

-- the first n parts
first_parts : ℕ → List ℕ → List (List ℕ)
first_parts zero bytes = []
first_parts (suc n) bytes = take line_size bytes ∷ first_parts n (drop line_size bytes)

part_count : ℕ → ℕ
part_count size = (size + (line_size - 1)) / line_size

pub parts : List ℕ → List (List ℕ)
parts bytes = first_parts (part_count (length bytes)) bytes

parts_step : (bytes : List ℕ) → 0 < length bytes → parts bytes ≡ take line_size bytes ∷ parts (drop line_size bytes)
unfolding parts part_count first_parts
parts_step bytes h =
    let n : part_count (length bytes) ≡ suc (part_count (length (drop line_size bytes))) = omega (arith, length-drop line_size bytes) in
    ap (λ (k : ℕ). first_parts k bytes) n

parts_none : (bytes : List ℕ) → length bytes ≡ 0 → parts bytes ≡ []
unfolding parts part_count first_parts
parts_none bytes h =
    let n : part_count (length bytes) ≡ 0 = omega arith in
    ap (λ (k : ℕ). first_parts k bytes) n

-- a part that comes off the front, and what is left
cut : (n : ℕ) (x t : List ℕ) → length x ≡ min n (length (x ++ t)) → (take n (x ++ t) ≡ x) × (drop n (x ++ t) ≡ t)
cut zero [] t h = (refl, refl)
cut (suc n) [] [] h = (refl, refl)
cut (suc n) [] (y ∷ t) h = absurd (omega arith)
cut zero (y ∷ x) t h = absurd (omega arith)
cut (suc n) (y ∷ x) t h = let r = cut n x t (omega arith) in (ap (λ l. y ∷ l) r.0, r.1)

pub cut_of : (r x t : List ℕ) → r ≡ x ++ t → length x ≡ min line_size (length r) → (x ≡ take line_size r) × (t ≡ drop line_size r)
cut_of r x t e h =
    let c = cut line_size x t (h ∙ ap (λ l. min line_size (length l)) e) in
    (sym (ap (take line_size) e ∙ c.0), sym (ap (drop line_size) e ∙ c.1))

-- what `chunks` gives
pub chunks_give : {s : _} (list : List ℕ) → chunks_rest s ≡ list → chunks_size s ≡ line_size → YieldsList (chunks_steps {A = ℕ}) (λ x. x.now) s (parts list)
chunks_give {s} list e h =
    subst (λ l. YieldsList (chunks_steps {A = ℕ}) (λ x. x.now) s (parts l)) e
    (YieldsList-from_shown_while chunks_steps (λ x. x.now) (λ u. parts (chunks_rest u)) (λ u. chunks_size u ≡ line_size)
    (λ u t p q. ap length (parts_none (chunks_rest u) q.1.0))
    (λ u x t p q.
    let c = cut_of (chunks_rest u) x.now (chunks_rest t) q.1.0 (q.1.1 ∙ ap (λ n. min n (length (chunks_rest u))) p) in
    (q.0 ∙ p, parts_step (chunks_rest u) q.1.2 ∙ ap (λ l. l ∷ parts (drop line_size (chunks_rest u))) (sym c.0) ∙ ap (λ l. x.now ∷ parts l) (sym c.1)))
    s h)

-- the line that a part starts with is that of the bytes which it is cut from
part_line : (bytes : List ℕ) → head_size ≤ length bytes → front_line (take line_size bytes) ≡ front_line bytes
unfolding front_line
part_line (a ∷ b ∷ c ∷ rest) h =
    ap (λ (l : List ℕ). record { kind = a; number = from_two b c; body = l }) (take_all width (take width rest) (omega (arith, length-take {A = ℕ})))
part_line [] h = absurd (omega arith)
part_line (a ∷ []) h = absurd (omega arith)
part_line (a ∷ b ∷ []) h = absurd (omega arith)

module _ (size : ℕ) (r x t : List ℕ) (s : size ≡ line_size) (e : r ≡ x ++ t) (h : length x ≡ min size (length r)) where
  -- a part whose head is there is a line
  pub part_is_line : head_size ≤ length x → headed_lines r ≡ front_line x ∷ headed_lines t
  part_is_line g =
      let c = cut_of r x t e (h ∙ ap (λ n. min n (length r)) s) in
      let f : head_size ≤ length r = omega arith in
      heads_step r f ∙ ap (λ l. l ∷ headed_lines (drop line_size r)) (sym (part_line r f) ∙ sym (ap front_line c.0)) ∙ ap (λ l. front_line x ∷ headed_lines l) (sym c.1)

  -- and one whose head is not there is none
  pub part_is_none : length x < head_size → headed_lines r ≡ []
  part_is_none g = heads_none r (omega arith)

-- A test of every line, which some line fails just where some part does.

abbrev pub fails : (FullLine → Bool) → List ℕ → Bool
fails test part = leb head_size (length part) && not (test (front_line part))

module _ (test : FullLine → Bool) (passes : List FullLine → Bool) (none : passes [] ≡ true) (step : (l : FullLine) (ls : List FullLine) → passes (l ∷ ls) ≡ (test l && passes ls)) where
  whole : (t : Bool) (part : List ℕ) (ls : List FullLine) (ps : List (List ℕ)) → test (front_line part) ≡ t → head_size ≤ length part
      → passes ls ≡ not (list_any (fails test) ps) → passes (front_line part ∷ ls) ≡ not (list_any (fails test) (part ∷ ps))
  whole true part ls ps e h r = simp (step (front_line part) ls, e, le-leb head_size (length part) h) r
  whole false part ls ps e h r = simp (step (front_line part) ls, e, le-leb head_size (length part) h)

  go : (n : ℕ) (bytes : List ℕ) → part_count (length bytes) ≡ n → passes (headed_lines bytes) ≡ not (list_any (fails test) (parts bytes))
  unfolding part_count
  go zero bytes h =
      let e : length bytes ≡ 0 = omega arith in
      simp (heads_none bytes (omega arith), parts_none bytes e, none)
  go (suc n) bytes h = at (leb head_size (length bytes)) refl (go n (drop line_size bytes))
    where
      some : 0 < length bytes
      some = omega arith

      at : (t : Bool) → leb head_size (length bytes) ≡ t
          → (part_count (length (drop line_size bytes)) ≡ n → passes (headed_lines (drop line_size bytes)) ≡ not (list_any (fails test) (parts (drop line_size bytes))))
          → passes (headed_lines bytes) ≡ not (list_any (fails test) (parts bytes))
      at true e onward =
          let first = take line_size bytes in
          let rest = drop line_size bytes in
          let f : head_size ≤ length bytes = leb-true _ _ e in
          ap passes (heads_step bytes f ∙ ap (λ l. l ∷ headed_lines rest) (sym (part_line bytes f)))
          ∙ whole (test (front_line first)) first (headed_lines rest) (parts rest) refl (omega (arith, length-take line_size bytes)) (onward (omega (arith, length-drop line_size bytes)))
          ∙ sym (ap (λ ps. not (list_any (fails test) ps)) (parts_step bytes some))
      at false e onward =
          let first = take line_size bytes in
          let f : length bytes < head_size = leb-false _ _ e in
          let g : length first < head_size = omega (arith, length-take line_size bytes) in
          let d : length (drop line_size bytes) ≡ 0 = omega (arith, length-drop line_size bytes) in
          simp (heads_none bytes f, parts_step bytes some, parts_none _ d, lt-leb head_size (length first) g, none)

  pub parts_pass : (bytes : List ℕ) → passes (headed_lines bytes) ≡ not (list_any (fails test) (parts bytes))
  parts_pass bytes = go (part_count (length bytes)) bytes refl
