use Rattle.std.proofs.Common.{◌≡◌, ◌++◌, ℕ, take, codes, decimal, subst}
use Rattle.std.specs.Io.KnownBytes.{append_known}
use Rattle.copar_run.specs.Outcome.{IsQuiet}
use Rattle.copar_run.proofs.Told.{whole-told, front-told}
use Rattle.copar_run.proofs.lines.put_line.Goals as goal

pub returns-in-Grammar-clause-whole : goal.returns-in-Grammar-clause-whole
returns-in-Grammar-clause-whole g c = whole-told _ _ _ _ _ _ _ c.in-Grammar.is
    c.put_numbered.ensures.whole

pub returns-in-Grammar-clause-front : goal.returns-in-Grammar-clause-front
returns-in-Grammar-clause-front g c = front-told _ _ _ _ _ c.in-Grammar.is
    c.put_numbered.ensures.front

pub returns-in-ReadFault-clause-whole : goal.returns-in-ReadFault-clause-whole
returns-in-ReadFault-clause-whole g c =
    whole-told _ _ _ _ _ _ _ c.in-ReadFault.is c.put_text-in-ReadFault.ensures.whole

pub returns-in-ReadFault-clause-front : goal.returns-in-ReadFault-clause-front
returns-in-ReadFault-clause-front g c =
    front-told _ _ _ _ _ c.in-ReadFault.is c.put_text-in-ReadFault.ensures.front

pub returns-in-WriteFault-clause-whole : goal.returns-in-WriteFault-clause-whole
returns-in-WriteFault-clause-whole g c =
    whole-told _ _ _ _ _ _ _ c.in-WriteFault.is c.put_text-in-WriteFault.ensures.whole

pub returns-in-WriteFault-clause-front : goal.returns-in-WriteFault-clause-front
returns-in-WriteFault-clause-front g c =
    front-told _ _ _ _ _ c.in-WriteFault.is c.put_text-in-WriteFault.ensures.front

pub returns-in-NoMemory-clause-whole : goal.returns-in-NoMemory-clause-whole
returns-in-NoMemory-clause-whole g c =
    whole-told _ _ _ _ _ _ _ c.in-NoMemory.is c.put_text-in-NoMemory.ensures.whole

pub returns-in-NoMemory-clause-front : goal.returns-in-NoMemory-clause-front
returns-in-NoMemory-clause-front g c =
    front-told _ _ _ _ _ c.in-NoMemory.is c.put_text-in-NoMemory.ensures.front

pub returns-in-TooLong-clause-whole : goal.returns-in-TooLong-clause-whole
returns-in-TooLong-clause-whole g c =
    whole-told _ _ _ _ _ _ _ c.in-TooLong.is c.put_text-in-TooLong.ensures.whole

pub returns-in-TooLong-clause-front : goal.returns-in-TooLong-clause-front
returns-in-TooLong-clause-front g c = front-told _ _ _ _ _ c.in-TooLong.is
    c.put_text-in-TooLong.ensures.front

pub returns-in-WeightBound-clause-whole : goal.returns-in-WeightBound-clause-whole
returns-in-WeightBound-clause-whole g c =
    whole-told _ _ _ _ _ _ _ c.in-WeightBound.is c.put_numbered-in-WeightBound.ensures.whole

pub returns-in-WeightBound-clause-front : goal.returns-in-WeightBound-clause-front
returns-in-WeightBound-clause-front g c =
    front-told _ _ _ _ _ c.in-WeightBound.is c.put_numbered-in-WeightBound.ensures.front

pub returns-in-SumFault-clause-whole : goal.returns-in-SumFault-clause-whole
returns-in-SumFault-clause-whole g c =
    whole-told _ _ _ _ _ _ _ c.in-SumFault.is c.put_numbered-in-SumFault.ensures.whole

pub returns-in-SumFault-clause-front : goal.returns-in-SumFault-clause-front
returns-in-SumFault-clause-front g c =
    front-told _ _ _ _ _ c.in-SumFault.is c.put_numbered-in-SumFault.ensures.front

pub returns-in-TypeFault-clause-whole : goal.returns-in-TypeFault-clause-whole
returns-in-TypeFault-clause-whole g c = whole-told _ _ _ _ _ _ _ c.in-TypeFault.is
    (subst (λ ending. IsQuiet (g.E.Sink.faults c.args.err.now)
    (g.E.Sink.faults c.put_numbered-in-TypeFault.new.err)
    → g.E.Sink.taken c.put_numbered-in-TypeFault.new.err ≡ append_known
    (g.E.Sink.taken c.args.err.now) (codes "copar: type fault on line "
    ++ decimal c.in-TypeFault.line ++ ending))
    c.ending.ensures c.put_numbered-in-TypeFault.ensures.whole)

pub returns-in-TypeFault-clause-front : goal.returns-in-TypeFault-clause-front
returns-in-TypeFault-clause-front g c = front-told _ _ _ _ _ c.in-TypeFault.is
    (subst (λ ending. (n : ℕ) × (g.E.Sink.taken c.put_numbered-in-TypeFault.new.err ≡ append_known
    (g.E.Sink.taken c.args.err.now) (take n (codes "copar: type fault on line "
    ++ decimal c.in-TypeFault.line ++ ending))))
    c.ending.ensures c.put_numbered-in-TypeFault.ensures.front)

pub returns-in-UnknownState-clause-whole : goal.returns-in-UnknownState-clause-whole
returns-in-UnknownState-clause-whole g c =
    whole-told _ _ _ _ _ _ _ c.in-UnknownState.is c.put_stranger.ensures.whole

pub returns-in-UnknownState-clause-front : goal.returns-in-UnknownState-clause-front
returns-in-UnknownState-clause-front g c =
    front-told _ _ _ _ _ c.in-UnknownState.is c.put_stranger.ensures.front

pub returns-in-AnswerText-clause-whole : goal.returns-in-AnswerText-clause-whole
returns-in-AnswerText-clause-whole g c =
    whole-told _ _ _ _ _ _ _ c.in-AnswerText.is c.put_numbered-in-AnswerText.ensures.whole

pub returns-in-AnswerText-clause-front : goal.returns-in-AnswerText-clause-front
returns-in-AnswerText-clause-front g c =
    front-told _ _ _ _ _ c.in-AnswerText.is c.put_numbered-in-AnswerText.ensures.front
