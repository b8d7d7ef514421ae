use Rattle.std.proofs.Common.{rules, ◌≡◌, length, drop, ap, sym, ◌∙◌}
use Rattle.file_cut.proofs.TokenLaws.{no_tokens}
use Rattle.file_cut.proofs.token.first_token.Goals as goal

pub returns-then-is_empty : goal.returns-then-is_empty
returns-then-is_empty c =
    let none : length c.split_at.result.1.now ≡ 0 = search rules in
    let behind = c.split_at.ensures.back
    ∙ ap (λ n. drop n c.args.text.now) c.blank_len-skipped.ensures.len in
    no_tokens c.args.text.now (ap length (sym behind) ∙ none)
