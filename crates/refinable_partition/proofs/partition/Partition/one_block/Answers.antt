use Rattle.std.proofs.Common.{◌≡◌, replicate, rules}
use Rattle.refinable_partition.proofs.Lists.{none_marked_at}
use Rattle.refinable_partition.proofs.partition.Partition.one_block.Goals as goal

pub returns-clause-marked : goal.returns-clause-marked
returns-clause-marked c = λ x. (
    let first : c.in_ok-first.first.items ≡ replicate c.args.n 0 = search rules in
    let marks : c.in_ok-marks.marks.items ≡ replicate c.args.n 0 = search rules in
    rw (first, marks)
    (none_marked_at c.args.n c.args.n c.in_ok-block.block.items c.in_ok-place.place.items x))
