use Rattle.std.proofs.Common.{rules, ◌≡◌, ◌++◌, ◌∷◌, [], ◌∙◌, refl, ap, Some, to_z, of_z}
use Rattle.std.specs.Int.{w128}
use Rattle.desorting.specs.Numbered.{weights_in}
use Rattle.desorting.proofs.Numbers.{weighed_step}
use Rattle.desorting.proofs.Snoc.{push_more}
use Rattle.desorting.proofs.labels.add_weights.Goals as goal

pub loop-i-preserved : goal.loop-i-preserved
loop-i-preserved c =
    let (ys, are, weighed) = c.loop-i.invariant.labels in
    let number = c.in_ok-number.number in
    let same : to_z w128 (of_z w128 c.weight_at.result) ≡ c.weight_at.result = search rules in
    record {
      labels = (
        ys ++ number ∷ [],
        push_more c.args.labels.now.items c.loop-i.labels.items c.push.new.self.items number ys
            (ys ++ number ∷ []) c.in_ok-push.ensures.items are refl,
        weighed_step c.loop-i.table.weights c.weight.new.self.weights
            c.in_ok-number.ensures.kept (weights_in c.args.value.now) c.loop-i.i
            c.weight_at.result c.weight_at.ensures number
            (c.in_ok-number.ensures.numbered ∙ ap Some same) ys weighed,
      );
      kept = λ i x e. c.in_ok-number.ensures.kept i x (c.loop-i.invariant.kept i x e);
      shapes = c.in_ok-number.ensures.shapes ∙ c.loop-i.invariant.shapes;
    }
