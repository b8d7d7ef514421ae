use Rattle.std.proofs.Common.{rules, ◌≡◌, ◌<◌, ◌≤◌, length, [], ◌∷◌, ◌++◌, None, true, false, true≢false, ap, sym, ◌∙◌, arith}
use Rattle.std.specs.Prelude.{if◌then◌else◌}
use Rattle.std.proofs.lemmas.Result.{err_from_is_err_and}
use Rattle.file_cut.specs.Tokens.{is_inj}
use Rattle.functor_terms.specs.Words.{place_of}
use Rattle.functor_terms.specs.Reading.{word_at, words_at}
use Rattle.functor_terms.proofs.GiveLaws.{gives-err}
use Rattle.functor_terms.proofs.WordLoop.{words-none, words-out, words-fails, words-inj, words-old, words-ends, words-goes}
use Rattle.functor_terms.proofs.label_reading.words.Goals as goal

pub words-init : goal.words-init
words-init c = words-none c.args.ahead c.new-words.result c.new-words.ensures

pub returns-in_err-word : goal.returns-in_err-word
returns-in_err-word c =
    let room : length c.words.words < 65536 =
    omega (arith, c.words-test.true, c.len.ensures) in
    let p = err_from_is_err_and c.from_residual.result c.from_residual.ensures.1 in
    rw (p.1, p.2) (gives-err c.in_err-word.field-0.0 (word_at c.words.left) (words_at c.args.ahead)
    (words-fails c.args.ahead c.words.words c.words.left c.words.invariant room)
    c.in_err-word.ensures.word)

pub returns-then-is_inj : goal.returns-then-is_inj
returns-then-is_inj c =
    let room : length c.words.words < 65536 =
    omega (arith, c.words-test.true, c.len.ensures) in
    let inj : is_inj c.in_ok-word.word ≡ true = search rules in
    words-inj c.args.ahead c.words.words c.words.left c.words.invariant room c.in_ok-word.word
    c.in_ok-word.behind c.in_ok-word.ensures.word inj

pub returns-then-not-branch : goal.returns-then-not-branch
returns-then-not-branch c =
    let room : length c.words.words < 65536 =
    omega (arith, c.words-test.true, c.len.ensures) in
    let other : is_inj c.in_ok-word.word ≡ false = search rules in
    words-old c.args.ahead c.words.words c.words.left c.words.invariant room c.in_ok-word.word
    c.in_ok-word.behind c.in_ok-word.ensures.word c.in_ok-word.ensures.bytes other
    (λ e. true≢false (sym (c.in_ok-add.ensures.new.1
    (ap (λ w. place_of w c.words.words) c.bytes.ensures ∙ e)) ∙ c.if-not-branch.true))

pub words-preserved : goal.words-preserved
words-preserved c =
    let room : length c.words.words < 65536 =
    omega (arith, c.words-test.true, c.len.ensures) in
    let other : is_inj c.in_ok-word.word ≡ false = search rules in
    let new : place_of c.in_ok-word.word c.words.words ≡ None =
    ap (λ w. place_of w c.words.words) (sym c.bytes.ensures)
    ∙ c.in_ok-add.ensures.new.0 c.if-not-branch.false in
    let pushed : c.add.new.self ≡ c.words.words ++ c.in_ok-word.word ∷ [] =
    c.in_ok-add.ensures.words
    ∙ ap (λ b. if b then c.words.words ++ c.bytes.result.now ∷ [] else c.words.words)
    c.if-not-branch.false ∙ ap (λ w. c.words.words ++ w ∷ []) c.bytes.ensures in
    words-goes c.args.ahead c.words.words c.words.left c.words.invariant room c.in_ok-word.word
    c.in_ok-word.behind c.in_ok-word.ensures.word c.in_ok-word.ensures.bytes other new
    c.add.new.self pushed c.in-Ok.rest c.in-Ok.ensures

pub returns-in-Err : goal.returns-in-Err
returns-in-Err c =
    let room : length c.words.words < 65536 =
    omega (arith, c.words-test.true, c.len.ensures) in
    let other : is_inj c.in_ok-word.word ≡ false = search rules in
    let new : place_of c.in_ok-word.word c.words.words ≡ None =
    ap (λ w. place_of w c.words.words) (sym c.bytes.ensures)
    ∙ c.in_ok-add.ensures.new.0 c.if-not-branch.false in
    let pushed : c.add.new.self ≡ c.words.words ++ c.in_ok-word.word ∷ [] =
    c.in_ok-add.ensures.words
    ∙ ap (λ b. if b then c.words.words ++ c.bytes.result.now ∷ [] else c.words.words)
    c.if-not-branch.false ∙ ap (λ w. c.words.words ++ w ∷ []) c.bytes.ensures in
    words-ends c.args.ahead c.words.words c.words.left c.words.invariant room c.in_ok-word.word
    c.in_ok-word.behind c.in_ok-word.ensures.word c.in_ok-word.ensures.bytes other new
    c.add.new.self pushed c.in-Err.ensures.0 c.in-Err.same c.in-Err.ensures.1

pub returns : goal.returns
returns c =
    let full : 65536 ≤ length c.words.words =
    omega (arith, c.words-test.false, c.len.ensures) in
    words-out c.args.ahead c.words.words c.words.left c.words.invariant full
