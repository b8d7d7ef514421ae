use Rattle.std.proofs.Common.{◌≡◌, List, sym, ap, ◌∙◌}
use Rattle.std.specs.Prelude.{ℤ}
use Rattle.functor_terms.specs.declared.node.Node.TheVariants.{Bag, Distribution, Integers, Rationals}
use Rattle.functor_terms.specs.Terms.{node_at}
use Rattle.typing.specs.declared.value.Value.{Value}
use Rattle.formulas.specs.Truth.{is_value}
use Rattle.formula_checker.specs.LayerValues.{weights_of, layer_value}
use Rattle.evaluation.proofs.layer.has_value.Goals as goal

pub returns-in-Bag : goal.returns-in-Bag
returns-in-Bag c =
    let trits = c.args.trits.now in
    let node_is : Bag ≡ node_at c.args.term.now c.args.node =
    sym c.in-Bag.is ∙ c.node.ensures in
    c.has_weights.ensures Bag
    ∙ ap (λ (es : List (Value × ℤ)). is_value (weights_of Bag 1 es trits)
    c.args.value.now) c.entries.ensures
    ∙ ap (λ m. is_value (layer_value c.args.denominator m c.args.structure.now trits)
    c.args.value.now) node_is

pub returns-in-Integers : goal.returns-in-Integers
returns-in-Integers c =
    let trits = c.args.trits.now in
    let node_is : Integers ≡ node_at c.args.term.now c.args.node =
    sym c.in-Integers.is ∙ c.node.ensures in
    c.has_weights-in-Integers.ensures Integers
    ∙ ap (λ (es : List (Value × ℤ)). is_value (weights_of Integers 1 es trits)
    c.args.value.now) c.entries-in-Integers.ensures
    ∙ ap (λ m. is_value (layer_value c.args.denominator m c.args.structure.now trits)
    c.args.value.now) node_is

pub returns-in-Distribution : goal.returns-in-Distribution
returns-in-Distribution c =
    let trits = c.args.trits.now in
    let node_is : Distribution ≡ node_at c.args.term.now c.args.node =
    sym c.in-Distribution.is ∙ c.node.ensures in
    c.has_weights-in-Distribution.ensures Distribution
    ∙ ap (λ (es : List (Value × ℤ)). is_value (weights_of Distribution c.args.denominator es trits)
    c.args.value.now) c.entries-in-Distribution.ensures
    ∙ ap (λ m. is_value (layer_value c.args.denominator m c.args.structure.now trits)
    c.args.value.now) node_is

pub returns-in-Rationals : goal.returns-in-Rationals
returns-in-Rationals c =
    let trits = c.args.trits.now in
    let node_is : Rationals ≡ node_at c.args.term.now c.args.node =
    sym c.in-Rationals.is ∙ c.node.ensures in
    c.has_weights-in-Rationals.ensures Rationals
    ∙ ap (λ (es : List (Value × ℤ)). is_value (weights_of Rationals c.args.denominator es trits)
    c.args.value.now) c.entries-in-Rationals.ensures
    ∙ ap (λ m. is_value (layer_value c.args.denominator m c.args.structure.now trits)
    c.args.value.now) node_is
