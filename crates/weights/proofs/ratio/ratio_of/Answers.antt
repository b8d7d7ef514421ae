use Rattle.std.proofs.Common.{◌≡◌, sym, ◌∙◌, ap, subst, to_z, of_z, rules}
use Rattle.std.specs.Int.{w128}
use Rattle.std.specs.Prelude.{pos}
use Rattle.weights.specs.Fractions.{IsLowest, lowest_terms}
use Rattle.weights.specs.FractionLaws.{ratio, whole_lowest, lowest_terms-whole, none_lowest, lowest_terms-none}
use Rattle.weights.proofs.ratio.ratio_of.Goals as goal

pub returns-then-denominator-eq1-clause-value : goal.returns-then-denominator-eq1-clause-value
returns-then-denominator-eq1-clause-value c =
    let same : to_z w128 (of_z w128 c.args.sum) ≡ c.args.sum = search rules in
    rw (same, c.if-denominator-eq1.true) (sym (lowest_terms-whole c.args.sum))

pub returns-then-denominator-eq1-clause-lowest : goal.returns-then-denominator-eq1-clause-lowest
returns-then-denominator-eq1-clause-lowest c =
    let same : to_z w128 (of_z w128 c.args.sum) ≡ c.args.sum = search rules in
    rw (same, c.if-denominator-eq1.true) (whole_lowest c.args.sum)

pub returns-then-sum-eq0-clause-value : goal.returns-then-sum-eq0-clause-value
returns-then-sum-eq0-clause-value c =
    let same : to_z w128 (of_z w128 c.args.sum) ≡ c.args.sum = search rules in
    let nothing : c.args.sum ≡ pos 0 = sym same ∙ ap (to_z w128) c.if-sum-eq0.true in
    subst (λ n. ratio (pos 0) 1 ≡ lowest_terms n c.args.denominator) (sym nothing)
    (sym (lowest_terms-none c.args.denominator c.requires.positive))

pub returns-then-sum-eq0-clause-lowest : goal.returns-then-sum-eq0-clause-lowest
returns-then-sum-eq0-clause-lowest c =
    let same : to_z w128 (of_z w128 c.args.sum) ≡ c.args.sum = search rules in
    let nothing : c.args.sum ≡ pos 0 = sym same ∙ ap (to_z w128) c.if-sum-eq0.true in
    subst (λ n. IsLowest n c.args.denominator (pos 0) 1) (sym nothing)
    (none_lowest c.args.denominator)
