use Rattle.std.proofs.Common.{◌∙◌, sym, ap, refl, arith}
use Rattle.std.proofs.lemmas.List.{get_or_default}
use Rattle.refinable_partition.specs.Blocks.{Blocks}
use Rattle.refinable_partition.proofs.Ranges.{range_members}
use Rattle.refinable_partition.proofs.Viewed.{block_in}
use Rattle.refinable_partition.proofs.partition.Partition.is_laid_out.Goals as goal

pub returns-clause-none_empty : goal.returns-clause-none_empty
returns-clause-none_empty c = λ b hb.
    let are = range_members c.self.invariant (block_in c.self.view_is hb) refl
    (omega arith) c.args.self.now (ap (λ (p : Blocks). p.block) (sym c.self.view_is)) refl in
    let first = are.each 0 0 are.some in (
      _,
      first.0,
      get_or_default c.args.self.now.block _ b 0 first.0 ∙ first.1,
    )
