use Rattle.std.proofs.Common.{◌≡◌, ◌<◌, ◌++◌, Some, slice_get, length, refl, arith, sym, subst, take, ◌∙◌}
use Rattle.std.specs.Prelude.{codes}
use Rattle.std.proofs.lemmas.Option.{slice_get_read}
use Rattle.std.proofs.lemmas.List.{take_all}
use Rattle.functor_terms.specs.Text.{text_of_term}
use Rattle.functor_terms.specs.Terms.{IsTerm}
use Rattle.functor_terms.specs.Words.{AreNames}
use Rattle.typing.specs.Contents.{content_of}
use Rattle.typing.specs.declared.coalgebra.Coalgebra.{Coalgebra}
use Rattle.structure_writer.specs.Spelled.{Spells, IsWellFormed}
use Rattle.structure_writer.proofs.TextSpells.{text-spells}
use Rattle.structure_writer.specs.Text.{text_at, state_lines}
use Rattle.structure_writer.proofs.Steps.{put-line}
use Rattle.structure_writer.proofs.writing.write_file.Goals as goal

-- what a coalgebra keeps
well : (d : Coalgebra) → IsTerm d.term → AreNames d.names → IsWellFormed (content_of d)
well d term names = record {
  term = term;
  names = names;
  one_each = d.one_each;
  positive = d.positive;
  bounded = d.bounded;
  fitting = d.fitting;
  normal = d.normal;
  in_range = d.in_range;
  weighted = d.weighted;
  in_bounds = d.in_bounds;
}

-- the lines of all states
pub returns-clause-canonical : goal.returns-clause-canonical
returns-clause-canonical c =
    let d = c.args.c.now in
    let k = c.loop-i.i in
    let names : take k d.names ≡ d.names =
    take_all k d.names (omega (arith, c.len-i-end.ensures, c.loop-i-test.false)) in
    let values : take k d.values.items ≡ d.values.items =
    take_all k d.values.items
    (omega (arith, c.len-i-end.ensures, c.loop-i-test.false, d.one_each)) in
    c.loop-i.invariant ∙ (λ i. (text_of_term d.term ++ codes "\n")
    ++ state_lines (text_at d.denominator d.names d.term 0) (names i) (values i))

pub returns-clause-spells : goal.returns-clause-spells
returns-clause-spells c =
    let d = c.args.c.now in
    subst (λ text. Spells text (content_of d)) (sym (returns-clause-canonical c))
    (text-spells (content_of d) (well d c.is_term.ensures c.are_names.ensures))

pub loop-i-preserved : goal.loop-i-preserved
loop-i-preserved c =
    let d = c.args.c.now in
    let in_names : c.loop-i.i < length d.names =
    omega (arith, c.len-i-end.ensures, c.loop-i-test.true) in
    let in_values : c.loop-i.i < length d.values.items =
    omega (arith, d.one_each, in_names) in
    let at : slice_get d.values.items c.loop-i.i ≡ Some c.index.result.now =
    slice_get_read d.values.items (length d.values.items) c.loop-i.i c.index.result.now refl
    in_values c.index.ensures in
    put-line (text_at d.denominator d.names d.term 0) d.names d.values.items c.loop-i.i
    c.name-name.result.now c.index.result.now (text_of_term d.term ++ codes "\n")
    c.loop-i.text.items c.push_line.new.text.items c.name-name.ensures at c.loop-i.invariant
    c.in_ok-push_line.ensures
