use Rattle.std.proofs.Common.{[], ◌∷◌, ◌++◌, map, take, sym, subst, arith}
use Rattle.std.proofs.lemmas.List.{take_all, map_more}
use Rattle.answer_checker.specs.Blocks.{line_with}
use Rattle.answer_checker.specs.Verdicts.{number_of}
use Rattle.answer_checker.specs.Steps.{ArePlaces}
use Rattle.answer_checker.proofs.PutStates.{line_begun}
use Rattle.answer_checker.proofs.standing.put_states.Goals as goal

pub loop-word-init : goal.loop-word-init
loop-word-init c =
    record {
      one_each = c.requires.one_each;
      put = λ lines f count are. line_begun lines f c.args.places.now are;
    }

pub loop-word-preserved : goal.loop-word-preserved
loop-word-preserved c =
    record {
      one_each = c.put_state.ensures.one_each;
      put = λ lines f count are.
          subst (λ ss. ArePlaces (lines ++ line_with f ss ∷ []) c.put_state.new.places)
          (sym (map_more (λ word. number_of c.args.names.now word.now) c.args.words.now
          c.loop-word.word-index _ c.loop-word-test.true))
          (c.put_state.ensures.put lines f
          (map (λ word. number_of c.args.names.now word.now)
          (take c.loop-word.word-index c.args.words.now)) count
          (c.loop-word.invariant.put lines f count are));
    }

pub returns-clause-put : goal.returns-clause-put
returns-clause-put c lines f count are =
    subst (λ ws. ArePlaces (lines ++ line_with f (map (λ word. number_of c.args.names.now word.now)
    ws) ∷ [])
    c.loop-word.places)
    (take_all c.loop-word.word-index c.args.words.now (omega (arith, c.loop-word-test.false)))
    (c.loop-word.invariant.put lines f count are)
