use Rattle.std.proofs.Common.{◌≡◌, get_or, sym, ap, arith}
use Rattle.std.proofs.lemmas.List.{get_or_read}
use Rattle.refinable_partition.specs.Blocks.{Blocks}
use Rattle.refinable_partition.proofs.Ranges.{range_members}
use Rattle.refinable_partition.proofs.Viewed.{block_in}
use Rattle.refinable_partition.proofs.partition.Partition.members.Goals as goal

pub returns-clause-members : goal.returns-clause-members
returns-clause-members c =
    let laid = c.self.invariant in
    let hb = block_in c.self.view_is c.requires in
    let f_is : c.index.result.now ≡ get_or c.self.inside.first.items c.args.b 0 =
    get_or_read c.self.inside.first.items c.args.b c.index.result.now
    (omega (arith, hb, laid.counted, laid.first_len)) c.index.ensures 0 in
    let s_is : c.index-2.result.now ≡ get_or c.self.inside.sizes.items c.args.b 0 =
    get_or_read c.self.inside.sizes.items c.args.b c.index-2.result.now
    (omega (arith, hb, laid.counted, laid.sizes_len)) c.index-2.ensures 0 in
    rw c.deref.ensures.value
    (range_members laid hb f_is (omega (arith, s_is)) c.args.self.now
    (ap (λ (p : Blocks). p.block) (sym c.self.view_is)) (omega (arith, s_is)))
