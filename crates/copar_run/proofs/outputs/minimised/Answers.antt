use Rattle.std.proofs.Common.{◌≡◌, IsTrue, sym, subst}
use Rattle.std.specs.List.{list_all}
use Rattle.std.proofs.lemmas.Result.{IfOk-weaker}
use Rattle.typing.specs.Contents.{content_of}
use Rattle.typing.specs.Values.{states_below}
use Rattle.structure_writer.specs.Text.{canonical}
use Rattle.structure_writer.specs.Spelled.{IsWellFormed}
use Rattle.quotient_writer.specs.Quotient.{IsQuotient}
use Rattle.copar_run.specs.Minimal.{IsMinimised}
use Rattle.copar_run.proofs.MinimalLaws.{MinimalityLaws, is_minimal}
use Rattle.copar_run.proofs.outputs.minimised.Goals as goal

pub returns : goal.returns
returns c =
    let source = c.args.c.now in
    let d = c.in_ok-d.d in
    let laws : MinimalityLaws = record {
      minimal = c.quotients_are_minimal.ensures;
      own = c.minimal_systems_are_their_own_quotients.ensures;
      spell = c.texts_spell.ensures;
      back = c.texts_are_read_back.ensures;
      fractions = c.texts_are_of_fractions.ensures;
      equivalence = c.same_fractions_same_equivalence.ensures.equivalent;
      states = c.rescaling_keeps_form.ensures.states;
    } in
    let formed : IsWellFormed (content_of d) = record {
      term = c.is_term.ensures;
      names = c.are_names.ensures;
      one_each = d.one_each;
      positive = d.positive;
      bounded = d.bounded;
      fitting = d.fitting;
      normal = d.normal;
      in_range = d.in_range;
      weighted = d.weighted;
      in_bounds = d.in_bounds;
    } in
    IfOk-weaker c.quotient_text.result (λ text. text.items ≡ canonical (content_of d)) _
    (λ output text.
    (let made : IsMinimised (content_of source) output.items = record {
      labels = c.in_ok-labels.labels.items;
      least = content_of d;
      classes = c.in_ok-labels.ensures.classes;
      quotient = record {
        same_term = c.in_ok-d.ensures.term;
        same_denominator = c.in_ok-d.ensures.denominator;
        quotient = subst (λ b. IsQuotient source.term source.names source.values.items b
            d.names d.values.items) c.as_slice.ensures.value c.in_ok-d.ensures.quotient;
      };
      text = text;
    } in
    is_minimal (content_of source) output.items made
    (record {
      one_each = source.one_each;
      in_range = subst (λ n. IsTrue (list_all (states_below n) source.values.items))
          (sym source.one_each) source.in_range;
    })
    formed laws))
    c.quotient_text.ensures.canonical
