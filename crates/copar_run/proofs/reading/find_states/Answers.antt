use Rattle.std.proofs.Common.{◌∙◌, inr, refl, sym, ap, subst, map, take, ◌+◌}
use Rattle.functor_terms.specs.Words.{place_of}
use Rattle.copar_run.specs.Named.{AreNumbers}
use Rattle.copar_run.proofs.Finding.{mapped-there, next-number, named-before}
use Rattle.copar_run.proofs.reading.find_states.Goals as goal

pub returns-in_default-clause-strange : goal.returns-in_default-clause-strange
returns-in_default-clause-strange c =
    let words = map (λ word. word.now) c.args.words.now in
    inr (record {
      place = c.loop-k.k;
      told = refl;
      stranger = record {
        word = _;
        there = mapped-there (λ word. word.now) c.args.words.now c.loop-k.k _ c.loop-k-test.true;
        strange = ap (λ w. place_of w c.args.names.now) (sym c.as_bytes.ensures.value)
            ∙ sym c.number.ensures ∙ c.in_default.is;
        first = λ j other below there.
            named-before c.args.names.now words c.loop-k.numbers.items c.loop-k.k j other
            c.loop-k.invariant below there;
      };
      same = refl;
    })

pub loop-k-preserved : goal.loop-k-preserved
loop-k-preserved c =
    let words = map (λ word. word.now) c.args.words.now in
    subst (λ ns. AreNumbers c.args.names.now (take (c.loop-k.k + 1) words) ns)
    (sym c.in_ok-push.ensures.items)
    (next-number c.args.names.now words c.loop-k.numbers.items c.loop-k.k _ c.in-Some.number
    c.loop-k.invariant
    (mapped-there (λ word. word.now) c.args.words.now c.loop-k.k _ c.loop-k-test.true)
    (ap (λ w. place_of w c.args.names.now) (sym c.as_bytes.ensures.value)
    ∙ sym c.number.ensures ∙ c.in-Some.is))
