use Rattle.std.proofs.Common.{◌+◌, ◌∙◌}
use Rattle.file_cut.proofs.LineLaws.{first_line_is, line-feed, indent-within, skipped-written}
use Rattle.file_cut.proofs.line.first_line.Goals as goal

pub split_at-requires-3 : goal.split_at-requires-3
split_at-requires-3 c =
    indent-within c.args.text.now c.split_at.result.1.now c.split_at-2.result.0.now
    c.trimmed-line.result.now c.blank_len-indent.result c.line_len.result
    c.blank_len-indent.ensures.len c.split_at.ensures.back c.line_len.ensures.len
    c.split_at-2.ensures.front c.trimmed-line.ensures

pub returns-clause-line : goal.returns-clause-line
returns-clause-line c =
    first_line_is c.args.text.now c.split_at-2.result.0.now c.split_at-2.result.1.now
    c.trimmed-line.result.now c.behind_feed.result.now
    (c.blank_len-indent.result + c.line_len.result) c.requires
    (line-feed c.args.text.now c.split_at.result.1.now c.split_at-2.result.0.now
    c.trimmed-line.result.now c.blank_len-indent.result c.line_len.result
    c.blank_len-indent.ensures.len c.split_at.ensures.back c.line_len.ensures.len
    c.split_at-2.ensures.front c.trimmed-line.ensures)
    c.split_at-2.ensures.front c.split_at-2.ensures.back c.trimmed-line.ensures
    c.behind_feed.ensures

pub returns-clause-skipped : goal.returns-clause-skipped
returns-clause-skipped c =
    c.begins_note.ensures
    ∙ skipped-written c.args.text.now c.split_at.result.1.now c.split_at-2.result.0.now
    c.trimmed-line.result.now c.blank_len-indent.result c.line_len.result
    c.blank_len-indent.ensures.len c.split_at.ensures.back c.line_len.ensures.len
    c.split_at-2.ensures.front c.trimmed-line.ensures
    c.split_at-3.result.1.now c.split_at-3.ensures.back
