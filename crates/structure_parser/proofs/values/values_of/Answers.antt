use Rattle.std.proofs.Common.{◌≡◌, List, [], length, sym, subst, append-nil, arith}
use Rattle.std.proofs.lemmas.Grind.{common_steps}
use Rattle.std.specs.List.{AllZip}
use Rattle.std.specs.Vec.Iter.{into_iter_items}
use Rattle.typing.specs.declared.value.Value.{Value}
use Rattle.structure_parser.specs.declared.stage.Kept.{Kept}
use Rattle.structure_parser.specs.Reading.{IsValueOf}
use Rattle.structure_parser.proofs.values.values_of.Goals as goal

pub returns-clause-values : goal.returns-clause-values
returns-clause-values c =
    let none : into_iter_items c.loop-first.left ≡ [] = grind (arith, common_steps) in
    subst (λ (vs : List Value). AllZip (IsValueOf c.args.term.now c.args.l (length c.args.own.now))
    c.args.kept.items vs) (append-nil c.loop-first.values.items)
    (c.loop-first.invariant.values []
    (subst (λ (ks : List Kept). AllZip (IsValueOf c.args.term.now c.args.l
    (length c.args.own.now)) ks []) (sym none) tt))
