use Rattle.std.proofs.Common.{◌∙◌, ℕ, List, length, sym, ap, subst}
use Rattle.std.proofs.lemmas.Result.{IfOk-weaker}
use Rattle.functor_terms.specs.declared.node.Node.TheVariants.{Powerset}
use Rattle.structures.specs.Structures.{repeated}
use Rattle.structures.proofs.Chosen.{length-repeated}
use Rattle.desorting.specs.Numbered.{AreLabelled}
use Rattle.desorting.proofs.labels.add_labels.Goals as goal

pub returns-in-Powerset-clause-labels : goal.returns-in-Powerset-clause-labels
returns-in-Powerset-clause-labels c =
    let ys : List ℕ = repeated 0 (length c.parts.result.now) in
    let suited : AreLabelled c.args.table.now.weights Powerset c.args.value.now c.args.count ys =
    length-repeated 0 (length c.parts.result.now) ∙ ap length c.parts.ensures in
    IfOk-weaker c.add_members.result _ _
    (λ x e. (
      ys,
      e,
      subst (λ m. AreLabelled c.args.table.now.weights m c.args.value.now c.args.count ys)
          (sym c.in-Powerset.is ∙ c.node.ensures) suited,
    )) c.add_members.ensures
