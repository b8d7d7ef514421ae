use Rattle.std.proofs.Common.{◌≡◌, ℕ, ◌<◌, List, Some, length, refl, sym, ◌∙◌, arith, below_more, true≢false}
use Rattle.std.specs.Prelude.{slice_get, slice_index}
use Rattle.std.proofs.lemmas.Option.{slice_get_read}
use Rattle.std.proofs.lemmas.Slice.Zip.{AllZip-long}
use Rattle.functor_terms.proofs.TermLaws.{term-some}
use Rattle.typing.specs.declared.value.Value.{Value}
use Rattle.typing.specs.NormalForms.{IsRelabelledAt}
use Rattle.answer_checker.proofs.Alike.{tie_is_like, apart_is_unlike}
use Rattle.answer_checker.proofs.likeness.first_apart.Goals as goal

pub compare-requires : goal.compare-requires
compare-requires c = (term-some c.args.term.now c.is_term.ensures).0

pub returns-in_default : goal.returns-in_default
returns-in_default c =
    let forms : List Value = c.args.forms.now in
    let firsts : List ℕ = c.args.firsts.now in
    let y : ℕ = c.loop-y.y in
    let in_forms : y < length forms = omega (arith, c.requires.one_each, c.loop-y-test.true) in
    let in_first : slice_index firsts y < length forms =
    omega (arith, in_forms, c.requires.no_later y c.loop-y-test.true) in
    let at_first : slice_get forms (slice_index firsts y) ≡ Some c.index-forms-x.result =
    slice_get_read forms (length forms) (slice_index firsts y) c.index-forms-x.result refl in_first
    c.index-forms-x.is in
    let at_own : slice_get forms y ≡ Some c.index-forms-y.result =
    slice_get_read forms (length forms) y c.index-forms-y.result refl in_forms c.index-forms-y.is in
    record {
      like = λ e. absurd (true≢false e);
      reason = λ values numbers are first.
          apart_is_unlike c.args.term.now values numbers forms firsts y c.index-forms-x.result
          c.index-forms-y.result are first c.loop-y-test.true at_first at_own
          (λ tie. c.in_default.not-Equal (c.compare.ensures ∙ tie))
          (c.loop-y.invariant values numbers are first);
    }

pub loop-y-preserved : goal.loop-y-preserved
loop-y-preserved c values numbers are first =
    let forms : List Value = c.args.forms.now in
    let firsts : List ℕ = c.args.firsts.now in
    let y : ℕ = c.loop-y.y in
    let in_forms : y < length forms = omega (arith, c.requires.one_each, c.loop-y-test.true) in
    let in_first : slice_index firsts y < length forms =
    omega (arith, in_forms, c.requires.no_later y c.loop-y-test.true) in
    let at_first : slice_get forms (slice_index firsts y) ≡ Some c.index-forms-x.result =
    slice_get_read forms (length forms) (slice_index firsts y) c.index-forms-x.result refl in_first
    c.index-forms-x.is in
    let at_own : slice_get forms y ≡ Some c.index-forms-y.result =
    slice_get_read forms (length forms) y c.index-forms-y.result refl in_forms c.index-forms-y.is in
    below_more _ _ (c.loop-y.invariant values numbers are first)
    (tie_is_like c.args.term.now values numbers forms firsts y c.index-forms-x.result
    c.index-forms-y.result are first c.loop-y-test.true at_first at_own (sym c.in-Equal.ensures))

pub returns-clause-like : goal.returns-clause-like
returns-clause-like c none values numbers are first y h =
    let count : length values ≡ length c.args.forms.now =
    sym (AllZip-long (IsRelabelledAt c.args.term.now numbers 0) values c.args.forms.now are) in
    c.loop-y.invariant values numbers are first y
    (omega (arith, h, count, c.requires.one_each, c.loop-y-test.false))
