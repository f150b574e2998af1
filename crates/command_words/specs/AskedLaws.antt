-- Words read one after another ask for what their list does.
use Rattle.std.specs.Prelude.{◌≡◌, List, [], ◌∷◌, ◌++◌, ℕ, suc, ◌+◌, length}
use Rattle.std.proofs.Common.{ap, ◌∙◌, arith}
use Rattle.command_words.specs.declared.Usage.{Usage}
use Rattle.command_words.specs.declared.Asked.{Asked}
use Rattle.command_word.specs.Word.{word_of}
use Rattle.command_words.specs.Asked.{with_word, with_texts}

-- a word behind others is read at the place behind theirs, from what they ask for
pub text_behind : (u : Usage) (a : Asked) (i : ℕ) (ts : List (List ℕ)) (t : List ℕ)
    → with_texts u a i (ts ++ (t ∷ [])) ≡ with_word u (with_texts u a i ts) (word_of t) (i + length ts)
text_behind u a i [] t = ap (with_word u a (word_of t)) (let e : i ≡ i + 0 = omega arith in e)
text_behind u a i (s ∷ ts) t =
    text_behind u (with_word u a (word_of s) i) (i + 1) ts t
    ∙ ap (with_word u (with_texts u a i (s ∷ ts)) (word_of t)) (let e : i + 1 + length ts ≡ i + suc (length ts) = omega arith in e)
