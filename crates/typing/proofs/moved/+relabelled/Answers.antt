use Rattle.std.proofs.Common.{rules, length}
use Rattle.std.proofs.lemmas.Grind.{common_steps}
use Rattle.typing.specs.declared.value.Value.{the_lemmas}
use Rattle.typing.proofs.MovedLemmas.{tuple_below, set_below, entry_below}
use Rattle.typing.proofs.moved.+relabelled.Goals as goal

pub relabelled-map_each-requires : goal.relabelled-map_each-requires
relabelled-map_each-requires t c = (
  search (rules, the_lemmas),
  tuple_below
      (length c.args.labels.now) c.args.value.now c.in-Tuple.parts c.in-Tuple.is c.requires,
)

pub relabelled-map_each-requires-in-Set : goal.relabelled-map_each-requires-in-Set
relabelled-map_each-requires-in-Set t c = (
  search (rules, the_lemmas),
  set_below
      (length c.args.labels.now) c.args.value.now c.in-Set.members c.in-Set.is c.requires,
)

pub relabelled-relabelled-requires-in-loop-value :
    goal.relabelled-relabelled-requires-in-loop-value
relabelled-relabelled-requires-in-loop-value t c = (
  search (rules, the_lemmas),
  entry_below (length c.args.labels.now) c.args.value.now c.as_slice-value-items.result.now
      c.loop-value.value-index c.loop-value-item.result c.loop-value.invariant.all c.requires
      c.loop-value-test.true c.loop-value-item.is,
)

pub relabelled-loop-value-preserved : goal.relabelled-loop-value-preserved
relabelled-loop-value-preserved t c = search (rules, the_lemmas, common_steps)

pub relabelled-returns-after-loop-value : goal.relabelled-returns-after-loop-value
relabelled-returns-after-loop-value t c = search (rules, the_lemmas, common_steps)
