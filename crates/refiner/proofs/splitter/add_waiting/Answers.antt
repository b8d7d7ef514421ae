use Rattle.std.proofs.Common.{◌<◌, length, sym, subst, arith}
use Rattle.std.specs.Prelude.{All}
use Rattle.refiner.specs.declared.parts.Part.{Part}
use Rattle.std.proofs.lemmas.Option.{get_or_from_slice_get}
use Rattle.refiner.specs.Recorded.{Split}
use Rattle.refiner.proofs.Waiting.{splits_more}
use Rattle.refiner.proofs.splitter.add_waiting.Goals as goal

pub loop-k-preserved : goal.loop-k-preserved
loop-k-preserved c =
    let s : Split = record { parent = c.split.result.parent; parts = c.split.result.parts.now } in
    splits_more c.args.blocks.now c.args.splits.now c.loop-k.k s
    c.args.waiting.now.items c.loop-k.waiting.items c.add_parts.new.waiting.items
    (omega (arith, c.loop-k-test.true, c.len-k-end.ensures))
    (sym (get_or_from_slice_get c.args.splits.now c.loop-k.k s s c.split.ensures))
    c.loop-k.invariant c.in_ok-add_parts.ensures

pub add_parts-requires : goal.add_parts-requires
add_parts-requires c =
    let s : Split = record { parent = c.split.result.parent; parts = c.split.result.parts.now } in
    let within : c.loop-k.k < length c.args.splits.now =
    omega (arith, c.loop-k-test.true, c.len-k-end.ensures) in
    record {
      live = subst (λ (t : Split). All (λ (u : Part). u.block < c.args.blocks.now.count) t.parts)
          (get_or_from_slice_get c.args.splits.now c.loop-k.k s s c.split.ensures)
          (c.requires.live c.loop-k.k s within);
    }
