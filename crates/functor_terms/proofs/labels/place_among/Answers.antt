use Rattle.std.proofs.Common.{rules, ◌≡◌, position, sym, ◌∙◌}
use Rattle.std.proofs.lemmas.Iterator.Search.{position_from_yields_List}
use Rattle.std.proofs.lemmas.Iterator.{YieldsList-from_slice}
use Rattle.functor_terms.specs.Words.{is_same_word}
use Rattle.functor_terms.proofs.labels.place_among.Goals as goal

pub returns-in-Some : goal.returns-in-Some
returns-in-Some c =
    let found : c.position.result ≡ position
    (λ known. is_same_word c.args.word.now known.now) c.args.words.now =
    position_from_yields_List (λ known. is_same_word c.args.word.now known.now) _ _
    c.position.result
    c.position.ensures.ran (YieldsList-from_slice _ c.iter.ensures.rest)
    (λ x b q k. search rules) in
    sym c.in-Some.is ∙ found

pub returns-in-None : goal.returns-in-None
returns-in-None c =
    let found : c.position.result ≡ position
    (λ known. is_same_word c.args.word.now known.now) c.args.words.now =
    position_from_yields_List (λ known. is_same_word c.args.word.now known.now) _ _
    c.position.result
    c.position.ensures.ran (YieldsList-from_slice _ c.iter.ensures.rest)
    (λ x b q k. search rules) in
    sym c.in-None.is ∙ found
