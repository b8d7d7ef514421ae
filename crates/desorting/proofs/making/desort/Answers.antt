use Rattle.std.proofs.Common.{◌<◌, ◌^◌, sym, ◌∙◌, subst}
use Rattle.structures.specs.Structures.{occurrences_from}
use Rattle.desorting.specs.Numbered.{AreNumbered}
use Rattle.desorting.proofs.Made.{place_inside, few_leaves, one_number, made_system, made_fit, as_many_targets}
use Rattle.desorting.proofs.making.desort.Goals as goal

pub numbered-requires-clause-inside : goal.numbered-requires-clause-inside
numbered-requires-clause-inside c =
    let found = c.in_ok-places.field-0 in
    place_inside c.args.c.now.term c.args.c.now.values.items found.places found.sources.items
    found.targets.items c.in_ok-places.ensures.structures

pub numbered-requires-clause-few : goal.numbered-requires-clause-few
numbered-requires-clause-few c =
    let found = c.in_ok-places.field-0 in
    few_leaves c.args.c.now.term c.args.c.now.values.items found.places found.sources.items
    found.targets.items c.in_ok-places.ensures.structures

pub invariant_of-result : goal.invariant_of-result
invariant_of-result c =
    let found = c.in_ok-places.field-0 in
    let are = c.in_ok-places.ensures.structures in
    let states = c.in_ok-store.ensures.states ∙ c.len-count.ensures.count in
    record {
      one_shape =
          one_number c.args.c.now.term c.args.c.now.values.items found.places found.sources.items
          found.targets.items are c.numbered.new.table.shapes c.numbered.new.table.weights
          c.in_ok-shapes.field-0.shapes.items c.in_ok-shapes.field-0.labels.items
          c.in_ok-shapes.ensures.numbered ∙ sym states;
      few = subst (λ n. n < 2 ^ 26) (sym states) are.few;
    }

pub returns : goal.returns
returns c =
    let t = c.args.c.now.term in
    let values = c.args.c.now.values.items in
    let found = c.in_ok-places.field-0 in
    let are = c.in_ok-places.ensures.structures in
    let numbers = c.in_ok-shapes.field-0.shapes.items in
    let labels = c.in_ok-shapes.field-0.labels.items in
    let shapes = c.in_ok-iface.iface.shapes.items in
    let table = c.in_ok-iface.iface.weights.items in
    let edges = c.in_ok-store.store.edges in
    let numbered : AreNumbered t shapes table found.places numbers labels =
    subst (λ l. AreNumbered t l table found.places numbers labels)
    (sym c.in_ok-iface.ensures.shapes)
    (subst (λ l. AreNumbered t c.numbered.new.table.shapes l found.places numbers labels)
    (sym c.in_ok-iface.ensures.weights) c.in_ok-shapes.ensures.numbered) in
    record {
      desorted = record {
        occurrences = occurrences_from 0 found.places found.sources.items found.targets.items;
        sorting = are.sorting;
        system =
            made_system t values found.places found.sources.items found.targets.items are shapes
            table numbers labels numbered edges c.in_ok-store.ensures.sources
            c.in_ok-store.ensures.labels c.in_ok-store.ensures.targets;
        fit =
            made_fit t values found.places found.sources.items found.targets.items are shapes
            table numbers labels numbered edges c.in_ok-store.ensures.sources
            c.in_ok-store.ensures.labels c.in_ok-store.ensures.targets c.is_term.ensures;
        sorted = c.in_ok-store.ensures.states ∙ c.len-count.ensures.count ∙ are.sorted;
        edges =
            as_many_targets edges found.targets.items c.in_ok-store.ensures.targets ∙ are.edges;
        states = c.len-states.ensures ∙ sym c.args.c.now.one_each;
        denominator = c.in_ok-iface.ensures.denominator;
      };
    }
