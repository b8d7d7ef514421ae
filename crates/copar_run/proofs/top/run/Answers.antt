use Rattle.copar_run.proofs.top.run.Goals as goal

pub returns-clause-told : goal.returns-clause-told
returns-clause-told g c = c.tell.ensures.told _ c.answer-ended.ensures.line
