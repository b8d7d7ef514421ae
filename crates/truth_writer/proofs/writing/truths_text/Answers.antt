use Rattle.std.proofs.Common.{◌≡◌, ◌+◌, ◌<◌, [], length, map, replicate, sym, ap, subst, ◌∙◌}
use Rattle.std.specs.List.{All}
use Rattle.std.proofs.lemmas.List.{length-map, take_at}
use Rattle.typing.specs.Contents.{Content, content_of}
use Rattle.satisfaction.specs.Satisfaction.{holds_at}
use Rattle.truth_writer.specs.Truths.{texts_at}
use Rattle.truth_writer.proofs.TextLaws.{bytes_of, texts_none, length-texts}
use Rattle.truth_writer.proofs.writing.truths_text.Goals as goal

pub loop-k-init : goal.loop-k-init
loop-k-init c =
    let told = holds_at (content_of c.args.c.now) c.args.dag.now in
    let words = c.args.words.now in
    let long = length-map words bytes_of in
    record {
      content = c.in_ok-evaluator.ensures.content;
      dag = c.in_ok-evaluator.ensures.dag;
      next = c.in_ok-evaluator.ensures.next;
      told =
          c.in_ok-texts.ensures.none
          ∙ ap (λ n. replicate n []) (sym long)
          ∙ texts_none told (map bytes_of words) c.args.numbers.now (long ∙ c.requires.one_each);
    }

pub put_lines-requires-clause-words : goal.put_lines-requires-clause-words
put_lines-requires-clause-words c =
    let told = holds_at (content_of c.args.c.now) c.args.dag.now in
    let words = c.args.words.now in
    let long = length-map words bytes_of in
    sym (ap length (c.as_mut_slice.ensures.value ∙ c.loop-k.invariant.told)
    ∙ length-texts told c.loop-k.k (map bytes_of words) c.args.numbers.now
    (long ∙ c.requires.one_each) ∙ long)

pub put_lines-requires-clause-states : goal.put_lines-requires-clause-states
put_lines-requires-clause-states c =
    subst (λ (content : Content). All (λ i. i < length content.values) c.args.numbers.now)
    (sym (c.in_ok-advance.ensures.content ∙ c.loop-k.invariant.content)) c.requires.states

pub put_lines-requires-clause-told : goal.put_lines-requires-clause-told
put_lines-requires-clause-told c =
    let content = sym (c.in_ok-advance.ensures.content ∙ c.loop-k.invariant.content) in
    let dag = sym (c.in_ok-advance.ensures.dag ∙ c.loop-k.invariant.dag) in
    c.as_mut_slice.ensures.value ∙ c.loop-k.invariant.told
    ∙ (λ x. texts_at (holds_at (content x) (dag x)) c.loop-k.k
    (map bytes_of c.args.words.now) c.args.numbers.now)

pub loop-k-preserved : goal.loop-k-preserved
loop-k-preserved c =
    let content = c.in_ok-advance.ensures.content ∙ c.loop-k.invariant.content in
    let dag = c.in_ok-advance.ensures.dag ∙ c.loop-k.invariant.dag in
    let texts = c.put_lines.new.texts in
    let long : length texts ≡ length c.loop-k.texts.items =
    c.put_lines.auto.texts ∙ ap length c.as_mut_slice.ensures.value in
    record {
      content = content;
      dag = dag;
      next = c.in_ok-advance.ensures.next ∙ ap (λ n. n + 1) c.loop-k.invariant.next;
      told =
          take_at texts _ c.loop-k.texts.len (sym (c.loop-k.texts.ok.0 ∙ sym long))
          ∙ c.in_ok-put_lines.ensures.told
          ∙ (λ x. texts_at (holds_at (content x) (dag x)) (c.loop-k.k + 1)
          (map bytes_of c.args.words.now) c.args.numbers.now);
    }
