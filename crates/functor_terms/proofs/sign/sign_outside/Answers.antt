use Rattle.std.proofs.Common.{rules, ◌≡◌, ◌∷◌, true, false, ap, sym, ◌∙◌}
use Rattle.std.specs.Prelude.{◌==◌, ◌&&◌}
use Rattle.std.specs.Char.{is_ascii_digit}
use Rattle.functor_terms.specs.Signs.{outside, signs_at, begins, cross_first, cross_second, brace}
use Rattle.functor_terms.proofs.FirstSign.{cut-digits, cut-passes, front-cross, front-brace, front-sign}
use Rattle.functor_terms.proofs.sign.sign_outside.Goals as goal

pub returns-then-is_ascii_digit-clause-tokens : goal.returns-then-is_ascii_digit-clause-tokens
returns-then-is_ascii_digit-clause-tokens c =
    let digit : is_ascii_digit c.args.first ≡ true = search rules in
    cut-digits c.args.text.now c.args.others.now c.args.first c.requires.front c.digit_len.result
    c.split_at.result.0.now c.split_at.result.1.now c.new.result c.split_at.ensures.front
    c.split_at.ensures.back c.new.ensures digit c.digit_len.ensures.len

pub returns-then-is_ascii_digit-clause-token : goal.returns-then-is_ascii_digit-clause-token
returns-then-is_ascii_digit-clause-token c =
    let digit : is_ascii_digit c.args.first ≡ true = search rules in
    cut-passes c.args.text.now c.args.others.now c.args.first c.requires.front c.digit_len.result
    c.split_at.result.0.now c.split_at.result.1.now c.new.result c.split_at.ensures.front
    c.split_at.ensures.back c.new.ensures is_ascii_digit digit c.digit_len.ensures.len

pub returns-in-Some-clause-tokens : goal.returns-in-Some-clause-tokens
returns-in-Some-clause-tokens c =
    front-cross c.args.text.now c.args.others.now c.in-Some.rest.now c.args.first c.requires.front
    c.in-Some.ensures.0 c.in-Some.ensures.1

pub returns-then-first-eq123-clause-tokens : goal.returns-then-first-eq123-clause-tokens
returns-then-first-eq123-clause-tokens c =
    front-brace c.args.text.now c.args.others.now c.args.first c.requires.front (search rules)

pub returns-clause-tokens : goal.returns-clause-tokens
returns-clause-tokens c =
    let digit : is_ascii_digit c.args.first ≡ false = search rules in
    let cross : ((c.args.first == cross_first) && begins (λ x. x == cross_second) c.args.others.now)
    ≡ false = search rules in
    let no_brace : (c.args.first == brace) ≡ false = search rules in
    front-sign c.args.text.now c.args.others.now c.args.first c.requires.front c.requires.no_blank
    digit cross no_brace ∙ ap (λ s. s ∷ signs_at outside c.args.others.now)
    (sym c.sign_of.ensures)
