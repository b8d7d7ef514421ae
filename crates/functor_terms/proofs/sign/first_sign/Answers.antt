use Rattle.std.proofs.Common.{◌≡◌, drop, ap, sym, ◌∙◌}
use Rattle.std.specs.List.{prefix_len}
use Rattle.file_cut.specs.Bytes.{is_blank}
use Rattle.functor_terms.specs.Signs.{signs_at, place_in}
use Rattle.functor_terms.proofs.FirstSign.{signs-blanks, signs-none, blanks-end}
use Rattle.functor_terms.proofs.sign.first_sign.Goals as goal

pub returns-in_default : goal.returns-in_default
returns-in_default c =
    let behind : c.split_at.result.1.now ≡ drop (prefix_len is_blank c.args.text.now)
    c.args.text.now = c.split_at.ensures.back
    ∙ ap (λ n. drop n c.args.text.now) c.blank_len.ensures.len in
    signs-none c.args.braces c.args.text.now c.split_at.result.1.now behind
    c.in_default.ensures.cases

pub sign_inside-requires-clause-no_blank : goal.sign_inside-requires-clause-no_blank
sign_inside-requires-clause-no_blank c =
    let behind : c.split_at.result.1.now ≡ drop (prefix_len is_blank c.args.text.now)
    c.args.text.now = c.split_at.ensures.back
    ∙ ap (λ n. drop n c.args.text.now) c.blank_len.ensures.len in
    blanks-end c.args.text.now c.in-Some.first.now c.in-Some.others.now
    (sym behind ∙ c.in-Some.ensures.cases.0)

pub sign_outside-requires-clause-no_blank : goal.sign_outside-requires-clause-no_blank
sign_outside-requires-clause-no_blank c =
    let behind : c.split_at.result.1.now ≡ drop (prefix_len is_blank c.args.text.now)
    c.args.text.now = c.split_at.ensures.back
    ∙ ap (λ n. drop n c.args.text.now) c.blank_len.ensures.len in
    blanks-end c.args.text.now c.in-Some.first.now c.in-Some.others.now
    (sym behind ∙ c.in-Some.ensures.cases.0)

pub returns-then-braces : goal.returns-then-braces
returns-then-braces c =
    let behind : c.split_at.result.1.now ≡ drop (prefix_len is_blank c.args.text.now)
    c.args.text.now = c.split_at.ensures.back
    ∙ ap (λ n. drop n c.args.text.now) c.blank_len.ensures.len in (
      signs-blanks c.args.braces c.args.text.now
          ∙ ap (signs_at (place_in c.args.braces)) (sym behind)
          ∙ ap (λ b. signs_at (place_in b) c.split_at.result.1.now) c.if-braces.true
          ∙ c.sign_inside.ensures.tokens,
      c.sign_inside.ensures.token,
    )

pub returns-else-braces : goal.returns-else-braces
returns-else-braces c =
    let behind : c.split_at.result.1.now ≡ drop (prefix_len is_blank c.args.text.now)
    c.args.text.now = c.split_at.ensures.back
    ∙ ap (λ n. drop n c.args.text.now) c.blank_len.ensures.len in (
      signs-blanks c.args.braces c.args.text.now
          ∙ ap (signs_at (place_in c.args.braces)) (sym behind)
          ∙ ap (λ b. signs_at (place_in b) c.split_at.result.1.now) c.if-braces.false
          ∙ c.sign_outside.ensures.tokens,
      c.sign_outside.ensures.token,
    )
