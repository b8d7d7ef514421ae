use Rattle.std.proofs.Common.{◌≡◌, ℕ, ◌+◌, ◌<◌, Bool, List, length, map, get_or, refl, sym, ◌∙◌, subst, arith}
use Rattle.std.specs.Prelude.{option_map}
use Rattle.std.proofs.lemmas.List.{get_or_default}
use Rattle.typing.specs.Contents.{content_of}
use Rattle.satisfaction.specs.Satisfaction.{holds_at}
use Rattle.formula_text.specs.declared.answer.BlockLine.{BlockLine}
use Rattle.answer_checker.specs.Truths.{citation_of, AreCitations, IsRightLine, IsWrongBy, IsFoundWrong}
use Rattle.answer_checker.specs.declared.truths.Citation.{Citation}
use Rattle.answer_checker.specs.declared.truths.WrongLine.{WrongLine}
use Rattle.answer_checker.proofs.WrongLines.{IsFoundSoFar, found_right, found_wrong, found_all, reason_of, formula_below, cited_there, later_formula, truth_moved}
use Rattle.answer_checker.proofs.truths.first_wrong.Goals as goal
use Rattle.answer_checker.proofs.truths.first_wrong.Goals.{in-Some, in_default}

-- the formulas of lines
abbrev formulas_in : List BlockLine → List ℕ
formulas_in blocks = map (λ (b : BlockLine). b.formula) blocks

pub evaluate_through-requires-clause-there : goal.evaluate_through-requires-clause-there
evaluate_through-requires-clause-there c =
    let items : List Citation = c.as_slice-citation-items.result.now in
    let i : ℕ = c.loop-citation.citation-index in
    let d : Citation = citation_of 0 0 in
    formula_below (length c.args.dag.now) c.args.blocks.now c.requires.cited (get_or items i d).line
    (get_or items i d).formula
    (cited_there (formulas_in c.args.blocks.now) items c.in_ok-cited.cited.items i d
    c.as_slice-citation-items.ensures.value c.in_ok-cited.ensures.cited c.loop-citation-test.true)

pub overflow_add-next : goal.overflow_add-next
overflow_add-next c =
    let items : List Citation = c.as_slice-citation-items.result.now in
    let i : ℕ = c.loop-citation.citation-index in
    let d : Citation = citation_of 0 0 in
    let below : (get_or items i d).formula < length c.args.dag.now =
    formula_below (length c.args.dag.now) c.args.blocks.now c.requires.cited (get_or items i d).line
    (get_or items i d).formula
    (cited_there (formulas_in c.args.blocks.now) items c.in_ok-cited.cited.items i d
    c.as_slice-citation-items.ensures.value c.in_ok-cited.ensures.cited c.loop-citation-test.true)
    in
    omega (arith, below, c.len-count.ensures, c.len-count.type_inv)

pub loop-citation-preserved : goal.loop-citation-preserved
loop-citation-preserved c =
    let told : ℕ → ℕ → Bool = holds_at (content_of c.args.c.now) c.args.dag.now in
    let numbers : List ℕ = c.args.numbers.now in
    let formulas : List ℕ = formulas_in c.args.blocks.now in
    let items : List Citation = c.as_slice-citation-items.result.now in
    let i : ℕ = c.loop-citation.citation-index in
    let d : Citation = citation_of 0 0 in
    let it : Citation = get_or items i d in
    let h : i < length items = c.loop-citation-test.true in
    let at : get_or items i it ≡ it = get_or_default items i it d h in
    let truths = c.evaluate_through.new.truths in
    let ec = c.in_ok-evaluate_through.ensures.content in
    let ed = c.in_ok-evaluate_through.ensures.dag in
    let en = c.in_ok-evaluate_through.ensures.next in
    record {
      content = ec;
      dag = ed;
      next = en;
      ahead = λ j e l below.
          later_formula items c.in_ok-cited.cited.items i j d e
          c.as_slice-citation-items.ensures.value c.in_ok-cited.ensures.ascending
          (omega (arith, l)) below;
      found =
          elim c.match-first_wrong_state.branch [
            | in-Some w ↦
                let wrong : WrongLine =
                record { formula = it.formula; line = it.line; state = w.in-Some.state } in
                subst (IsFoundSoFar told numbers formulas items (i + 1))
                (sym (w.found-is ∙ w.earlier-found.ensures))
                (found_wrong told numbers formulas items i it h at c.loop-citation.found wrong refl
                (record {
                  there =
                      cited_there formulas items c.in_ok-cited.cited.items i d
                      c.as_slice-citation-items.ensures.value c.in_ok-cited.ensures.cited h;
                  wrong =
                      truth_moved (λ t f. IsWrongBy t numbers f it.line w.in-Some.state)
                      truths.content (content_of c.args.c.now) truths.dag c.args.dag.now truths.next
                      it.formula ec ed en w.in-Some.ensures.wrong;
                })
                c.loop-citation.invariant.found)
            | in_default w ↦
                subst (IsFoundSoFar told numbers formulas items (i + 1)) (sym w.found-is)
                (found_right told numbers formulas items i it h at c.loop-citation.found
                (truth_moved (λ t f. IsRightLine t numbers f it.line) truths.content
                (content_of c.args.c.now) truths.dag c.args.dag.now truths.next it.formula ec ed en
                (w.in_default.ensures.right refl))
                c.loop-citation.invariant.found)
          ];
    }

pub returns-in-None : goal.returns-in-None
returns-in-None c =
    let told : ℕ → ℕ → Bool = holds_at (content_of c.args.c.now) c.args.dag.now in
    let numbers : List ℕ = c.args.numbers.now in
    let formulas : List ℕ = formulas_in c.args.blocks.now in
    let items : List Citation = c.as_slice-citation-items.result.now in
    record {
      found =
          subst (λ o. IsFoundWrong told numbers formulas
          (option_map (reason_of told numbers formulas items) o)) c.in-None.is
          (found_all told numbers formulas items c.loop-citation.citation-index
          c.loop-citation.found (omega (arith, c.loop-citation-test.false))
          (subst (AreCitations formulas) (sym c.as_slice-citation-items.ensures.value)
          c.in_ok-cited.ensures.cited)
          c.loop-citation.invariant.found);
    }

pub returns : goal.returns
returns c =
    let told : ℕ → ℕ → Bool = holds_at (content_of c.args.c.now) c.args.dag.now in
    let numbers : List ℕ = c.args.numbers.now in
    let formulas : List ℕ = formulas_in c.args.blocks.now in
    let items : List Citation = c.as_slice-citation-items.result.now in
    record {
      found =
          subst (λ o. IsFoundWrong told numbers formulas
          (option_map (reason_of told numbers formulas items) o)) c.in-Some-found.is
          (found_all told numbers formulas items c.loop-citation.citation-index
          c.loop-citation.found (omega (arith, c.loop-citation-test.false))
          (subst (AreCitations formulas) (sym c.as_slice-citation-items.ensures.value)
          c.in_ok-cited.ensures.cited)
          c.loop-citation.invariant.found);
    }
