use Rattle.std.proofs.Common.{◌≡◌, suc, ◌-◌, arith}
use Rattle.std.proofs.lemmas.Result.{err_from_is_err_and}
use Rattle.functor_terms.specs.Terms.{depth_limit}
use Rattle.functor_terms.specs.Reading.{raised, powers_from}
use Rattle.functor_terms.proofs.GiveLaws.{gives-err}
use Rattle.functor_terms.proofs.DescentLaws.{powers-out, powers-end, powers-fail, powers-more}
use Rattle.functor_terms.proofs.powers.powers.Goals as goal

pub returns-in_err-next-in-Ok : goal.returns-in_err-next-in-Ok
returns-in_err-next-in-Ok c =
    let more : c.powers.room ≡ suc (c.powers.room - 1) = omega (arith, c.powers-test.true) in
    let p = err_from_is_err_and c.from_residual.result c.from_residual.ensures.1 in
    rw (p.1, p.2) (gives-err c.in_err-next-in-Ok.field-0.0 (raised c.powers.power c.in-Ok.behind)
    (powers_from depth_limit c.args.base c.args.ahead)
    (powers-fail (powers_from depth_limit c.args.base c.args.ahead) c.powers.room c.powers.power
    c.powers.left c.powers.invariant (c.powers.room - 1) more c.in-Ok.behind
    c.in-Ok.ensures) c.in_err-next-in-Ok.ensures)

pub powers-preserved : goal.powers-preserved
powers-preserved c =
    let more : c.powers.room ≡ suc (c.powers.room - 1) = omega (arith, c.powers-test.true) in
    powers-more (powers_from depth_limit c.args.base c.args.ahead) c.powers.room c.powers.power
    c.powers.left c.powers.invariant (c.powers.room - 1) more c.in-Ok.behind c.in-Ok.ensures
    c.in_ok-next-in-Ok.next c.in_ok-next-in-Ok.rest c.in_ok-next-in-Ok.ensures

pub returns-in-Err : goal.returns-in-Err
returns-in-Err c =
    let more : c.powers.room ≡ suc (c.powers.room - 1) = omega (arith, c.powers-test.true) in
    powers-end (powers_from depth_limit c.args.base c.args.ahead) c.powers.room c.powers.power
    c.powers.left c.powers.invariant (c.powers.room - 1) more c.in-Err.ensures.0 c.in-Err.same
    c.in-Err.ensures.1

pub returns : goal.returns
returns c =
    let none : c.powers.room ≡ 0 = omega (arith, c.powers-test.false) in
    powers-out (powers_from depth_limit c.args.base c.args.ahead) c.powers.room c.powers.power
    c.powers.left c.powers.invariant none
