use Rattle.std.proofs.Common.{rules, ◌≡◌, ◌+◌, ◌*◌, take, get_or, sym, ◌∙◌, arith}
use Rattle.std.specs.Char.{is_ascii_digit}
use Rattle.std.specs.List.{list_all}
use Rattle.std.specs.Str.Parse.{digits_value}
use Rattle.std.proofs.lemmas.Bool.{and_from}
use Rattle.std.proofs.lemmas.List.Folds.{list_all_more}
use Rattle.functor_terms.proofs.DigitLaws.{next_digit, past_bound}
use Rattle.functor_terms.proofs.label_set.number_below.Goals as goal

pub returns-then-value-from : goal.returns-then-value-from
returns-then-value-from c =
    let value : c.loop-byte.value * 10 + c.from.result ≡ digits_value 10
    (take (c.loop-byte.byte-index + 1) c.args.word.now) =
    next_digit c.args.word.now c.loop-byte.byte-index c.loop-byte.value c.from.result
    c.loop-byte-test.true (search rules) c.loop-byte.invariant.is_value (search rules) in
    sym (past_bound c.args.n c.args.word.now (c.loop-byte.byte-index + 1)
    (omega (arith, value, c.if-value-from.true, c.from-in-loop-byte.ensures)))

pub loop-byte-preserved : goal.loop-byte-preserved
loop-byte-preserved c = record {
  digits = list_all_more is_ascii_digit c.args.word.now c.loop-byte.byte-index 0
      c.loop-byte-test.true
      ∙ and_from (list_all is_ascii_digit (take c.loop-byte.byte-index c.args.word.now))
      (is_ascii_digit (get_or c.args.word.now c.loop-byte.byte-index 0))
      c.loop-byte.invariant.digits (search rules);
  is_value = next_digit c.args.word.now c.loop-byte.byte-index c.loop-byte.value c.from.result
      c.loop-byte-test.true (search rules) c.loop-byte.invariant.is_value (search rules);
  below = omega (arith, c.if-value-from.false, c.from-in-loop-byte.ensures);
}
