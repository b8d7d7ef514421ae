use Rattle.std.proofs.Common.{subst}
use Rattle.memchr.specs.Find.{IsFirstByte, is_byte}
use Rattle.file_cut.specs.Bytes.{line_feed}
use Rattle.file_cut.proofs.FindLaws.{feed-at, feed-none}
use Rattle.file_cut.proofs.bytes.line_len.Goals as goal

pub returns-in-Some-clause-len : goal.returns-in-Some-clause-len
returns-in-Some-clause-len c =
    feed-at c.args.text.now c.in-Some.place
    (subst (IsFirstByte (is_byte line_feed) c.args.text.now) c.in-Some.is c.find_byte.ensures)

pub returns-in-None-clause-len : goal.returns-in-None-clause-len
returns-in-None-clause-len c =
    feed-none c.args.text.now
    (subst (IsFirstByte (is_byte line_feed) c.args.text.now) c.in-None.is c.find_byte.ensures)
