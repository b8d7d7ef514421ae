use Rattle.std.proofs.Common.{◌≡◌, ◌∙◌, refl, to_z, of_z, rules}
use Rattle.std.specs.Int.{w128}
use Rattle.layers.specs.Meanings.{class_at}
use Rattle.layers.proofs.SumCells.{small_start, start_weight, start_value}
use Rattle.layers.proofs.layers.Layers.sums_start.Goals as goal

pub total_at-inside-requires : goal.total_at-inside-requires
total_at-inside-requires c =
    record {
      small =
          small_start c.args.self.now.weights.items
          (class_at c.args.self.now.shapes.items c.args.shape) c.args.scaled c.requires.class
          c.args.labels.now c.requires.fit;
    }

pub returns-clause-weight : goal.returns-clause-weight
returns-clause-weight c =
    start_weight c.args.self.now.weights.items
    (class_at c.args.self.now.shapes.items c.args.shape) c.args.scaled c.requires.class
    c.args.labels.now c.args.shape _ _ (search rules ∙ c.total_at-inside.ensures.sum) refl

pub returns-clause-three : goal.returns-clause-three
returns-clause-three c =
    let same : to_z w128 (of_z w128 c.total_at-inside.result) ≡ c.total_at-inside.result =
    search rules in
    start_value c.args.self.now.weights.items
    (class_at c.args.self.now.shapes.items c.args.shape) c.args.scaled c.requires.class
    c.args.labels.now c.args.self.now.denominator _ c.denominator_of-over.ensures.is _ _
    (same ∙ c.total_at-inside.ensures.sum) refl c.in_ok-three.three
    (c.in_ok-three.ensures.sums
    ∙ rw (c.ratio_of-all.ensures.value, c.ratio_of-none.ensures.value) refl)
