-- Laws of texts: turned round, behind a pattern, after the code; and of answers that need a test.
use Rattle.std.specs.Prelude.{◌≡◌, refl, Bool, true, false, cond, List, [], ◌∷◌, ◌++◌, ℕ, eqb, drop}
use Rattle.std.proofs.Common.{◌∙◌, ap, ap₂, sym, true≢false, append-nil, append_assoc, eqb-true}
use Rattle.std.proofs.Math.Option.{none, some}
use Rattle.stream.specs.Answers.{Outcome, refused, require, turned, after_code}
use Rattle.stream.specs.Stream.{strip}

-- Turned round.

pub turned_append : (t w : List ℕ) → turned t w ≡ turned t [] ++ w
turned_append [] w = refl
turned_append (n ∷ t) w =
    turned_append t (n ∷ w) ∙ sym (append_assoc (turned t []) (n ∷ []) w) ∙ ap (λ (l : List ℕ). l ++ w) (sym (turned_append t (n ∷ [])))

pub turned_twice : (u t w : List ℕ) → turned (turned u t) w ≡ turned t (u ++ w)
turned_twice [] t w = refl
turned_twice (n ∷ u) t w = turned_twice u (n ∷ t) w

pub turned_back : (u : List ℕ) → turned (turned u []) [] ≡ u
turned_back u = turned_twice u [] [] ∙ append-nil u

-- A pattern, and what stands behind it.

pub strip_found : (ps t rest : List ℕ) → strip ps t ≡ some rest → t ≡ ps ++ rest
strip_found [] t rest h = cc
strip_found (q ∷ ps) [] rest h = cc
strip_found (q ∷ ps) (n ∷ t) rest h = go (eqb q n) refl h (strip_found ps t rest)
  where
    go : (b : Bool) → eqb q n ≡ b → cond b (strip ps t) none ≡ some rest → (strip ps t ≡ some rest → t ≡ ps ++ rest) → n ∷ t ≡ q ∷ (ps ++ rest)
    go true e k f = ap₂ (λ (m : ℕ) (l : List ℕ). m ∷ l) (sym (eqb-true q n e)) (f k)
    go false e k f = cc

pub after_code_lem : (w : List ℕ) → after_code w ≡ drop 2 w
after_code_lem [] = refl
after_code_lem (a ∷ []) = refl
after_code_lem (a ∷ b ∷ w) = refl

-- An answer that needs a test: where it passes, and where it fails.

pub requires : (t : Bool) (n : ℕ) (o : Outcome) → t ≡ true → require t n o ≡ o
unfolding require
requires true n o h = refl
requires false n o h = absurd (true≢false (sym h))

pub refuses : (t : Bool) (n : ℕ) (o : Outcome) → t ≡ false → require t n o ≡ refused n
unfolding require
refuses true n o h = absurd (true≢false h)
refuses false n o h = refl
