use Rattle.std.proofs.Common.{◌≡◌, ℕ, ◌<◌, List, [], ◌∷◌, ◌++◌, length, get_or, set, Some, None, sym, ap, ◌∙◌, subst, arith}
use Rattle.std.specs.Prelude.{unwrap_or}
use Rattle.std.proofs.lemmas.List.Quantifiers.{position-Some}
use Rattle.functor_terms.specs.Words.{is_same_word, place_of}
use Rattle.answer_checker.specs.Blocks.{line_with}
use Rattle.answer_checker.specs.Verdicts.{number_of}
use Rattle.answer_checker.specs.Steps.{put_again, ArePlaces}
use Rattle.answer_checker.specs.declared.places.Place.{Place}
use Rattle.answer_checker.specs.declared.places.Place.TheVariants.{Nowhere}
use Rattle.answer_checker.proofs.PutStates.{put_more, put_none}
use Rattle.answer_checker.proofs.standing.put_state.Goals as goal

pub returns-in-Some-clause-put : goal.returns-in-Some-clause-put
returns-in-Some-clause-put c lines f ss count are =
    let names : List (List ℕ) = c.args.names.now in
    let word : List ℕ = c.args.word.now in
    let places : List Place = c.args.places.now in
    let i : ℕ = c.in-Some.i in
    let found : place_of word names ≡ Some i = sym c.in-Some.ensures in
    let is : number_of names word ≡ i = ap (λ o. unwrap_or o (length names)) found in
    let inside : i < length places =
    omega (arith, (position-Some (is_same_word word) names i [] found).0, c.requires.one_each) in
    let now : put_again (length lines) (get_or places i Nowhere) ≡ c.put_again.result =
    ap (λ k. put_again k (get_or places i Nowhere)) count ∙ sym c.put_again.ensures in
    subst (λ s. ArePlaces (lines ++ line_with f (ss ++ s ∷ []) ∷ [])
    (set places i c.put_again.result))
    (sym is)
    (subst (λ p. ArePlaces (lines ++ line_with f (ss ++ i ∷ []) ∷ []) (set places i p)) now
    (put_more lines f ss i places inside are))

pub returns-in_default-clause-put : goal.returns-in_default-clause-put
returns-in_default-clause-put c lines f ss count are =
    let names : List (List ℕ) = c.args.names.now in
    let word : List ℕ = c.args.word.now in
    let none : place_of word names ≡ None = sym c.in_default.ensures in
    let is : number_of names word ≡ length names = ap (λ o. unwrap_or o (length names)) none in
    subst (λ s. ArePlaces (lines ++ line_with f (ss ++ s ∷ []) ∷ []) c.args.places.now)
    (sym is)
    (put_none lines f ss (length names) c.args.places.now (omega (arith, c.requires.one_each)) are)
