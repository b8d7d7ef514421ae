use Rattle.std.proofs.Common.{subst}
use Rattle.memchr.specs.Find.{IsFirstByte}
use Rattle.bstr.specs.Bytes.{not_in}
use Rattle.file_cut.proofs.FindLaws.{blanks-at, blanks-all}
use Rattle.file_cut.proofs.bytes.blank_len.Goals as goal

pub returns-in-Some-clause-len : goal.returns-in-Some-clause-len
returns-in-Some-clause-len c =
    blanks-at c.as_slice.result.now c.args.text.now c.as_slice.ensures c.in-Some.place
    (subst (IsFirstByte (not_in c.as_slice.result.now) c.args.text.now) c.in-Some.is
    c.find_not_byteset.ensures)

pub returns-in-None-clause-len : goal.returns-in-None-clause-len
returns-in-None-clause-len c =
    blanks-all c.as_slice.result.now c.args.text.now c.as_slice.ensures
    (subst (IsFirstByte (not_in c.as_slice.result.now) c.args.text.now) c.in-None.is
    c.find_not_byteset.ensures)
