use Rattle.std.proofs.Common.{◌≡◌, ◌∙◌, ◌<◌, ◌+◌, ◌++◌, ◌∷◌, [], length, min, set, sym, ap, subst, refl, arith}
use Rattle.std.specs.Prelude.{slice_index}
use Rattle.std.proofs.lemmas.Option.{slice_get_read, get_or_from_slice_get}
use Rattle.classes.proofs.Marks.{AreMarked, marked_more}
use Rattle.classes.proofs.firsts.first_places.Goals as goal

pub loop-i-preserved : goal.loop-i-preserved
loop-i-preserved c =
    let labels = c.args.labels.now in
    let blocks = c.args.blocks in
    let n = c.args.n in
    let i = c.loop-i.i in
    let known = c.loop-i.known.items in
    let firsts = c.loop-i.firsts.items in
    let label = slice_index labels i in
    let inside : i < length labels = omega (arith, c.loop-i-test.true, c.requires.enough) in
    let few : label < blocks = c.requires.inside i 0 inside in
    let more =
    marked_more labels blocks n i known firsts c.loop-i.invariant c.loop-i-test.true label refl
    few in
    let room : label < length known = omega (arith, few, c.loop-i.invariant.rooms) in
    let there : slice_index known label ≡ c.index.result.now =
    get_or_from_slice_get known label c.index.result.now 0
    (slice_get_read known (length known) label c.index.result.now refl room c.index.ensures) in
    let same = sym (c.min-first.ensures ∙ ap (λ x. min x i) (sym there)) in
    subst (λ fs. AreMarked labels blocks n (i + 1) (set known label c.min-first.result) fs)
    (sym c.in_ok-push.ensures.items)
    (subst (λ f. AreMarked labels blocks n (i + 1) (set known label f) (firsts ++ f ∷ [])) same
    more)
