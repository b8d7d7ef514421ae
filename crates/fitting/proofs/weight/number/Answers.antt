use Rattle.std.proofs.Common.{rules, ◌≡◌, sym, ◌∙◌, ap, Ok, true, to_z, of_z}
use Rattle.std.specs.Int.{w64}
use Rattle.std.specs.Prelude.{unsigned_abs}
use Rattle.std.proofs.lemmas.Grind.{common_steps}
use Rattle.weights.specs.Numerals.{is_digits}
use Rattle.fitting.specs.declared.fitted.Fitted.TheVariants as fitted
use Rattle.fitting.proofs.FitFacts.{number-fits, digits-ok, digits-over}
use Rattle.fitting.proofs.weight.number.Goals as goal

pub returns-in-Ok : goal.returns-in-Ok
returns-in-Ok c =
    let digits : is_digits c.in-Some.word.now ≡ true = sym c.are_digits.ensures
    ∙ c.if-not-are_digits.false in
    let same : to_z w64 (of_z w64 c.in-Ok.n.p) ≡ c.in-Ok.n.p = search (rules, common_steps) in
    number-fits c.args.tree.now c.in-Some.word.now c.in-Some.ensures digits
    ∙ ap Ok (digits-ok c.in-Some.word.now c.in-Ok.n digits (sym c.in-Ok.ensures.exact))
    ∙ ap (λ p. Ok (fitted.Label (unsigned_abs p))) (sym same)
    ∙ ap (λ k. Ok (fitted.Label k)) (sym c.unsigned_abs.ensures.value)

pub returns-in-Err : goal.returns-in-Err
returns-in-Err c =
    let digits : is_digits c.in-Some.word.now ≡ true = sym c.are_digits.ensures
    ∙ c.if-not-are_digits.false in
    number-fits c.args.tree.now c.in-Some.word.now c.in-Some.ensures digits
    ∙ ap Ok (digits-over c.in-Some.word.now c.in-Err.field-0 digits (sym c.in-Err.ensures.exact))
