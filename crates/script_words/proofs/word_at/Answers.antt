-- `nth` gives the word with its number among those that `split` makes of the line, and else none.
use Rattle.std.proofs.Common.{List, [], ℕ, Option, sym, ap, ◌∙◌, rules, tests}
use Rattle.std.specs.Prelude.{unwrap_or}
use Rattle.std.specs.Option.{option_map}
use lib.Dec.{eqb}
use Rattle.std.proofs.lemmas.Iterator.Splits.{YieldsList-from_slice_split}
use Rattle.std.proofs.lemmas.Iterator.Consumers.{nth_from_yields_List}
use Rattle.script_words.proofs.word_at.Goals as goal

pub returns-in-Some : goal.returns-in-Some
returns-in-Some c =
    let e = nth_from_yields_List c.nth.result c.nth.new.self c.args.word c.nth.ensures.ran
    (YieldsList-from_slice_split _ (λ (s : ℕ). eqb s 32) c.args.line.now c.split.ensures.rest c.split.ensures.done c.split.ensures.closure (λ x b q k. search (rules, tests))) in
    sym (ap (λ (o : Option (List ℕ)). unwrap_or o []) (sym e ∙ ap (option_map (λ x. x.now)) c.in-Some.is))

pub returns-in-None : goal.returns-in-None
returns-in-None c =
    let e = nth_from_yields_List c.nth.result c.nth.new.self c.args.word c.nth.ensures.ran
    (YieldsList-from_slice_split _ (λ (s : ℕ). eqb s 32) c.args.line.now c.split.ensures.rest c.split.ensures.done c.split.ensures.closure (λ x b q k. search (rules, tests))) in
    sym (ap (λ (o : Option (List ℕ)). unwrap_or o []) (sym e ∙ ap (option_map (λ x. x.now)) c.in-None.is))
