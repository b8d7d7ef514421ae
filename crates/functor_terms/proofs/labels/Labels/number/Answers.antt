use Rattle.std.proofs.Common.{position, sym, ap, ◌∙◌}
use Rattle.functor_terms.specs.Words.{is_same_word}
use Rattle.functor_terms.proofs.WordLemmas.{position-map}
use Rattle.functor_terms.proofs.labels.Labels.number.Goals as goal

pub returns-in-Some : goal.returns-in-Some
returns-in-Some c = rw (← c.self.view_is) (c.in-Some.ensures.index
    ∙ sym (position-map (is_same_word c.args.word.now) (λ w. w.now) c.self.inside.words.keys))

pub returns-in-None : goal.returns-in-None
returns-in-None c = rw (← c.self.view_is) (c.in-None.ensures.index
    ∙ sym (position-map (is_same_word c.args.word.now) (λ w. w.now) c.self.inside.words.keys))

pub returns-then-len-le-FEW : goal.returns-then-len-le-FEW
returns-then-len-le-FEW c =
    rw (← c.self.view_is)
    (c.place_among.ensures
    ∙ ap (position (λ w. is_same_word c.args.word.now w.now)) c.as_slice.ensures.keys
    ∙ sym (position-map (is_same_word c.args.word.now) (λ w. w.now) c.self.inside.words.keys))
