use Rattle.std.proofs.Common.{◌++◌, sym, ap, ◌∙◌, subst}
use Rattle.functor_terms.specs.Grammar.{SpellsTerm}
use Rattle.functor_terms.specs.Text.{within, shown_at}
use Rattle.functor_terms.proofs.TermLaws.{term-some}
use Rattle.functor_terms.proofs.TextLaws.{texts_spell}
use Rattle.functor_terms.proofs.TextSteps.{shown-loose}
use Rattle.functor_terms.proofs.text.term_text.Goals as goal

pub push_within-requires : goal.push_within-requires
push_within-requires c = (term-some c.args.term.now c.is_term.ensures).0

pub returns-clause-text : goal.returns-clause-text
returns-clause-text c =
    c.in_ok-push_within.ensures
    ∙ ap (λ l. l ++ within 3 (shown_at c.args.term.now 0)) c.in_ok-text.ensures.items
    ∙ shown-loose c.args.term.now c.is_term.ensures 0
    (term-some c.args.term.now c.is_term.ensures).0

pub returns-clause-spells : goal.returns-clause-spells
returns-clause-spells c =
    subst (λ l. SpellsTerm l c.args.term.now) (sym (returns-clause-text c))
    (texts_spell c.args.term.now c.is_term.ensures)
