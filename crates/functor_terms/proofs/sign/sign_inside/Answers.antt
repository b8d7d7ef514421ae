use Rattle.std.proofs.Common.{rules, ◌≡◌, true, false}
use Rattle.std.specs.Prelude.{◌==◌}
use Rattle.file_cut.specs.Bytes.{is_word_byte}
use Rattle.functor_terms.specs.Signs.{comma, brace_end}
use Rattle.functor_terms.proofs.FirstSign.{cut-word, cut-passes, front-comma, front-end, front-stray}
use Rattle.functor_terms.proofs.sign.sign_inside.Goals as goal

pub returns-then-is_word_byte-clause-tokens : goal.returns-then-is_word_byte-clause-tokens
returns-then-is_word_byte-clause-tokens c =
    let letter : is_word_byte c.args.first ≡ true = search rules in
    cut-word c.args.text.now c.args.others.now c.args.first c.requires.front c.word_len.result
    c.split_at.result.0.now c.split_at.result.1.now c.new.result c.split_at.ensures.front
    c.split_at.ensures.back c.new.ensures letter c.word_len.ensures.len

pub returns-then-is_word_byte-clause-token : goal.returns-then-is_word_byte-clause-token
returns-then-is_word_byte-clause-token c =
    let letter : is_word_byte c.args.first ≡ true = search rules in
    cut-passes c.args.text.now c.args.others.now c.args.first c.requires.front c.word_len.result
    c.split_at.result.0.now c.split_at.result.1.now c.new.result c.split_at.ensures.front
    c.split_at.ensures.back c.new.ensures is_word_byte letter c.word_len.ensures.len

pub returns-then-first-eq44-clause-tokens : goal.returns-then-first-eq44-clause-tokens
returns-then-first-eq44-clause-tokens c =
    front-comma c.args.text.now c.args.others.now c.args.first c.requires.front (search rules)

pub returns-then-first-eq125-clause-tokens : goal.returns-then-first-eq125-clause-tokens
returns-then-first-eq125-clause-tokens c =
    front-end c.args.text.now c.args.others.now c.args.first c.requires.front (search rules)

pub returns-clause-tokens : goal.returns-clause-tokens
returns-clause-tokens c =
    let letter : is_word_byte c.args.first ≡ false = search rules in
    let no_comma : (c.args.first == comma) ≡ false = search rules in
    let no_end : (c.args.first == brace_end) ≡ false = search rules in
    front-stray c.args.text.now c.args.others.now c.args.first c.requires.front c.requires.no_blank
    letter no_comma no_end
