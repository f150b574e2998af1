-- Arguments read one after another, each by its word, ask for what the list of their words does.
use Rattle.std.specs.Prelude.{◌≡◌, refl, List, [], ◌∷◌, ◌++◌, ℕ, ◌+◌, ◌-◌, ◌≤◌, length}
use Rattle.std.proofs.Common.{ap, sym, ◌∙◌, arith, length-append}
use Rattle.command_word.specs.declared.Word.{Word}
use Rattle.command_words.specs.declared.Usage.{Usage}
use Rattle.command_words.specs.declared.Asked.{Asked}
use Rattle.command_word.specs.Word.{word_of}
use Rattle.command_words.specs.Asked.{none_asked, with_word, with_texts, end_asked, asked_by}
use Rattle.command_words.specs.AskedLaws.{text_behind}
use Rattle.command.specs.Arguments.{AskedByAll}

-- the arguments below place i have been read: what their words ask for, before the end
pub record ReadBelow (u : Usage) (i : ℕ) (asked : Asked) : Type 0 where
  pub texts : List (List ℕ)
  pub counted : 1 + length texts ≡ i
  pub is : asked ≡ with_texts u none_asked 1 texts

-- before the first argument nothing is asked for
pub none_read : (u : Usage) (a : Asked) → a ≡ none_asked → ReadBelow u 1 a
none_read u a e = record { texts = []; counted = refl; is = e }

-- the argument at place i, whose text is t
pub one_read : (u : Usage) (i : ℕ) (a b : Asked) (w : Word) (t : List ℕ)
    → ReadBelow u i a → w ≡ word_of t → b ≡ with_word u a w i → ReadBelow u (i + 1) b
one_read u i a b w t r word e =
    record {
      texts = r.texts ++ (t ∷ []);
      counted = let n = length-append r.texts (t ∷ []) in omega (arith, n, r.counted);
      is =
          e
          ∙ ap (λ (x : Asked). with_word u x w i) r.is
          ∙ ap (λ (v : Word). with_word u (with_texts u none_asked 1 r.texts) v i) word
          ∙ ap (λ (k : ℕ). with_word u (with_texts u none_asked 1 r.texts) (word_of t) k) (sym r.counted)
          ∙ sym (text_behind u none_asked 1 r.texts t);
    }

-- behind the last of them
pub all_read : (u : Usage) (i count : ℕ) (a b : Asked)
    → ReadBelow u i a → i - 1 ≤ count - 1 → count ≤ i → b ≡ end_asked a → AskedByAll u (count - 1) b
unfolding asked_by
all_read u i count a b r low high e =
    record { texts = r.texts; counted = omega (arith, r.counted, low, high); is = e ∙ ap end_asked r.is }
