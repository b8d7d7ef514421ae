use Rattle.std.proofs.Common.{length, subst}
use Rattle.structures.specs.Walk.{IsWalked}
use Rattle.structures.proofs.WalkEnds.{walked_end}
use Rattle.structures.proofs.walking.structures_of.Goals as goal

pub returns : goal.returns
returns c =
    let t = c.args.c.now.term in
    let found = c.in_ok-found.found in
    record {
      structures =
          walked_end t c.args.c.now.values.items found.places found.sources.items
          found.targets.items
          (subst (λ vs. IsWalked t vs found.places found.sources.items found.targets.items
          (length found.places)) c.as_slice.ensures.value c.in_ok-found.ensures.walked)
          c.in_ok-found.ensures.few c.in_ok-found.ensures.few_edges;
    }
