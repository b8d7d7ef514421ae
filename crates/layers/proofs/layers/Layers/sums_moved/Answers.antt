use Rattle.std.proofs.Common.{◌≡◌, ap, ◌∙◌, refl, arith, to_z, of_z, rules}
use Rattle.std.specs.Int.{w128}
use Rattle.std.specs.Prelude.{◌-ℤ◌}
use Rattle.layers.specs.Nest.{add}
use Rattle.layers.specs.Meanings.{class_at}
use Rattle.layers.proofs.SumCells.{small_gone, small_inside, small_outside, small_part, small_rest, sums_updated, kept}
use Rattle.layers.proofs.layers.Layers.sums_moved.Goals as goal

pub total_at-part-requires : goal.total_at-part-requires
total_at-part-requires c =
    let k = c.requires.cell.3 in
    let ws = c.args.self.now.weights.items in
    let kind = class_at c.args.self.now.shapes.items c.requires.cell.0 in
    let gone =
    small_gone ws kind c.requires.cell.0 c.requires.cell.1 c.requires.cell.2 k.fit
    k.are_trits c.args.sums c.args.moved.now k.weight_is k.moved_is in
    record { small = gone }

pub sub-rest-requires : goal.sub-rest-requires
sub-rest-requires c =
    let k = c.requires.cell.3 in
    let ws = c.args.self.now.weights.items in
    let kind = class_at c.args.self.now.shapes.items c.requires.cell.0 in
    let inside =
    small_inside ws kind c.requires.cell.0 c.requires.cell.1 c.requires.cell.2 k.fit
    k.are_trits c.args.sums c.args.moved.now k.weight_is k.moved_is in
    let part =
    small_part ws kind c.requires.cell.0 c.requires.cell.1 c.requires.cell.2 k.fit
    k.are_trits c.args.sums c.args.moved.now k.weight_is k.moved_is in
    let p : to_z w128 (of_z w128 c.total_at-part.result) ≡ c.total_at-part.result = search rules in
    record {
      within =
          rw (kept c.args.sums.inside inside, p, c.total_at-part.ensures.sum)
          (omega (arith, inside, part));
    }

pub add-other-requires : goal.add-other-requires
add-other-requires c =
    let k = c.requires.cell.3 in
    let ws = c.args.self.now.weights.items in
    let kind = class_at c.args.self.now.shapes.items c.requires.cell.0 in
    let outside =
    small_outside ws kind c.requires.cell.0 c.requires.cell.1 c.requires.cell.2 k.fit
    k.are_trits c.args.sums c.args.moved.now k.weight_is k.moved_is in
    let part =
    small_part ws kind c.requires.cell.0 c.requires.cell.1 c.requires.cell.2 k.fit
    k.are_trits c.args.sums c.args.moved.now k.weight_is k.moved_is in
    let p : to_z w128 (of_z w128 c.total_at-part.result) ≡ c.total_at-part.result = search rules in
    record {
      within =
          rw (kept c.args.sums.outside outside, p, c.total_at-part.ensures.sum)
          (omega (arith, outside, part));
    }

pub add-others-requires : goal.add-others-requires
add-others-requires c =
    let k = c.requires.cell.3 in
    let ws = c.args.self.now.weights.items in
    let kind = class_at c.args.self.now.shapes.items c.requires.cell.0 in
    let inside =
    small_inside ws kind c.requires.cell.0 c.requires.cell.1 c.requires.cell.2 k.fit
    k.are_trits c.args.sums c.args.moved.now k.weight_is k.moved_is in
    let outside =
    small_outside ws kind c.requires.cell.0 c.requires.cell.1 c.requires.cell.2 k.fit
    k.are_trits c.args.sums c.args.moved.now k.weight_is k.moved_is in
    let rest =
    small_rest ws kind c.requires.cell.0 c.requires.cell.1 c.requires.cell.2 k.fit
    k.are_trits c.args.sums c.args.moved.now k.weight_is k.moved_is in
    let p : to_z w128 (of_z w128 c.total_at-part.result) ≡ c.total_at-part.result = search rules in
    let r : to_z w128 (of_z w128 c.sub-rest.result) ≡ c.sub-rest.result = search rules in
    record {
      within =
          rw (
            kept c.args.sums.outside outside,
            r,
            c.sub-rest.ensures.difference,
            kept c.args.sums.inside inside,
            p,
            c.total_at-part.ensures.sum,
          )
          (omega (arith, outside, rest));
    }

pub returns : goal.returns
returns c = record {
  updated = λ shape labels trits k.
      let ws = c.args.self.now.weights.items in
      let kind = class_at c.args.self.now.shapes.items shape in
      let sums = c.args.sums in
      let moved = c.args.moved.now in
      let i = kept sums.inside (small_inside ws kind shape labels trits k.fit k.are_trits sums moved
      k.weight_is k.moved_is) in
      let o = kept sums.outside (small_outside ws kind shape labels trits k.fit k.are_trits sums
      moved
      k.weight_is k.moved_is) in
      let p : to_z w128 (of_z w128 c.total_at-part.result) ≡ c.total_at-part.result =
      search rules in
      let r : to_z w128 (of_z w128 c.sub-rest.result) ≡ c.sub-rest.result = search rules in
      let x : to_z w128 (of_z w128 c.add-other.result) ≡ c.add-other.result = search rules in
      let y : to_z w128 (of_z w128 c.add-others.result) ≡ c.add-others.result = search rules in
      let part = to_z w128 (of_z w128 c.total_at-part.result) in
      let rest = to_z w128 (of_z w128 c.sub-rest.result) in
      let u =
      sums_updated ws kind shape labels trits k.fit k.are_trits sums moved k.weight_is k.moved_is
      c.args.self.now.denominator c.denominator_of-over.result c.denominator_of-over.ensures.is
      part rest (to_z w128 (of_z w128 c.add-other.result))
      (to_z w128 (of_z w128 c.add-others.result)) (p ∙ c.total_at-part.ensures.sum)
      (r ∙ c.sub-rest.ensures.difference ∙ ap (λ z. z -ℤ part) i)
      (x ∙ c.add-other.ensures.sum ∙ ap (λ z. add z part) o)
      (y ∙ c.add-others.ensures.sum ∙ ap (λ z. add z rest) o)
      c.in_ok-three.three c.in_ok-void.void
      (c.in_ok-three.ensures.sums
      ∙ rw (c.ratio_of-away.ensures.value, c.ratio_of.ensures.value, c.ratio_of-2.ensures.value, o)
      refl)
      (c.in_ok-void.ensures.sums
      ∙ rw (
        c.ratio_of-away.ensures.value,
        c.ratio_of-3.ensures.value,
        c.ratio_of-4.ensures.value,
        o,
        i,
      ) refl) in
      record { rest_is = u.0; part_is = u.1; three_is = u.2; void_is = u.3 };
}
