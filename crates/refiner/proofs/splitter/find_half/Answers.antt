use Rattle.std.proofs.Common.{◌≡◌, ◌<◌, ◌∙◌, [], ◌∷◌, ◌++◌, arith, ap, sym, subst, inl, inr, length, get_or, ◌-◌, nat_lt, vec_len, Some, None}
use Rattle.std.specs.Prelude.{All, slice_get}
use Rattle.std.proofs.lemmas.Option.{slice_get_cases, none-some}
use Rattle.refinable_partition.specs.Blocks.{states_of, size_in}
use Rattle.refiner.proofs.MoreSplits.{all_last}
use Rattle.refiner.proofs.Waiting.{popped_last, single_made, waiting_popped}
use Rattle.refiner.proofs.splitter.find_half.Goals as goal

pub loop-x-preserved : goal.loop-x-preserved
loop-x-preserved c =
    let p = c.args.blocks.now in
    let q = c.args.coarse.now in
    let before = c.loop-x.waiting.items in
    let after = c.pop.new.self.items in
    let x = c.in-Some.x in
    let item = c.last.ensures.item in
    let same : c.deref.result.now ≡ before = c.deref.ensures.value in
    let is : before ≡ after ++ x ∷ [] =
    popped_last before after c.last.result c.pop.result x
    c.in-Some.ensures (item.0 ∙ ap (λ xs. nat_lt 0 (length xs)) same)
    (λ d. item.4 (omega arith) d ∙ ap (λ xs. get_or xs (length xs - 1) d) same)
    (λ d h. c.pop.ensures.value d (omega arith)
    ∙ ap (λ n. Some (get_or before (n - 1) d)) (let e : vec_len c.loop-x.waiting ≡ length before =
    omega arith in e))
    c.pop.ensures.items in
    let hx : x < states_of p =
    all_last (λ z. z < states_of p) after x
    (subst (λ xs. All (λ z. z < states_of p) xs) is c.loop-x.invariant.live) in
    waiting_popped p q before after x is c.requires.nested hx
    (omega (
      arith,
      c.if-size-all.false,
      c.size-all.ensures.members,
      c.size-size.ensures.members,
      ap (size_in q.block) c.block_of-in-Some.ensures.block,
      ap (size_in p.block) c.block_of.ensures.block,
    ))
    c.loop-x.invariant

pub returns : goal.returns
returns c =
    let xs = c.deref.result.now in
    let none : slice_get xs (length xs - 1) ≡ None =
    sym c.last.ensures.value ∙ sym c.copied.ensures ∙ c.in_default.is in
    let empty : length xs ≡ 0 = elim (slice_get_cases xs (length xs - 1)).1 [
      | inl here ↦ absurd (none-some here.0 (sym none ∙ here.2))
      | inr past ↦ omega (arith, past.0)
    ] in
    record {
      waiting = c.loop-x.invariant;
      half = single_made c.args.blocks.now c.args.coarse.now c.loop-x.waiting.items
          c.requires.states
          c.requires.nested c.loop-x.invariant (ap length (sym c.deref.ensures.value) ∙ empty);
    }
