use Rattle.std.proofs.Common.{◌≡◌, ◌-◌, ℕ, [], length, map, Bor, List, option_map, get_or, arith, sym, ap, ◌∙◌, add-one}
use Rattle.std.proofs.lemmas.List.{length-map}
use Rattle.std.proofs.lemmas.Option.{slice_get-map, slice_get-get_or}
use Rattle.satisfaction.specs.Satisfaction.{holds_at}
use Rattle.truth_writer.specs.Truths.{texts_at}
use Rattle.truth_writer.proofs.TextLaws.{bytes_of, texts_between, line_more, texts_all}
use Rattle.truth_writer.proofs.writing.put_lines.Goals as goal

pub loop-i-preserved : goal.loop-i-preserved
loop-i-preserved c =
    let k = c.args.k in
    let j = c.loop-i.i in
    let now = c.args.evaluator.now in
    let words = c.args.words.now in
    let numbers = c.args.numbers.now in
    let nothing : Bor (List ℕ) = record { ref_ptr = (0, 0); now = [] } in
    let newest : now.next - 1 ≡ k = omega (arith, c.requires.evaluated) in
    line_more (holds_at now.content now.dag) k j (map bytes_of words) numbers
    (get_or words j nothing).now (get_or numbers j 0) c.holds.result c.index-texts-i.result
    c.put.new.self c.loop-i.texts
    (slice_get-map bytes_of words j
    ∙ ap (option_map bytes_of) (slice_get-get_or words j nothing
    (omega (arith, c.requires.words, c.loop-i-test.true))))
    (slice_get-get_or numbers j 0 (omega (arith, c.requires.numbers, c.loop-i-test.true)))
    c.loop-i.invariant
    (c.holds.ensures.truth ∙ ap (λ n. holds_at now.content now.dag n (get_or numbers j 0)) newest)
    c.in_ok-put.ensures.line_is_last

pub returns : goal.returns
returns c =
    let told = holds_at c.args.evaluator.now.content c.args.evaluator.now.dag in
    let words = map bytes_of c.args.words.now in
    let numbers = c.args.numbers.now in
    let long : length words ≡ length c.args.words.now = length-map c.args.words.now bytes_of in
    let all : c.loop-i.i ≡ length words =
    omega (arith, long, c.requires.words, c.loop-i-test.false, c.loop-i.auto.i-end) in
    record {
      told =
          c.loop-i.invariant
          ∙ ap (λ j. texts_between told c.args.k j words numbers) all
          ∙ texts_all told c.args.k words numbers
          (omega (arith, long, c.requires.words, c.requires.numbers))
          ∙ ap (λ n. texts_at told n words numbers) (sym (add-one c.args.k));
    }
