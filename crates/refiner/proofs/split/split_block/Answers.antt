use Rattle.std.proofs.Common.{◌≡◌, ◌<◌, ◌∙◌, [], ◌∷◌, ◌++◌, List, sym, ap, refl, subst, arith}
use Rattle.std.proofs.lemmas.List.{get_or_default}
use Rattle.refiner.specs.declared.moved.Moved.{Moved}
use Rattle.refiner.specs.declared.parts.Part.{Part}
use Rattle.refiner.specs.Grouping.{IsCut}
use Rattle.refiner.specs.Touched.{IsParting}
use Rattle.refiner.proofs.SplitOff.{parting_none, run_in_range, run_new, run_last, rest_keeps}
use Rattle.refiner.proofs.split.split_block.Goals as goal

pub loop-from-init : goal.loop-from-init
loop-from-init c = record {
  in_range = omega arith;
  parting = λ all void told.
      subst (λ (parts : List Part). IsParting all void c.args.b c.args.blocks.now
      c.args.blocks.now c.args.moved.now 0 parts) (sym c.clear.ensures.items)
      (parting_none all void c.args.b c.args.blocks.now c.args.moved.now told c.requires.some
      (record { block = 0; state = 0; three = void; void = void }) c.requires.unmarked);
}

pub mark_moved-requires-clause-in_range : goal.mark_moved-requires-clause-in_range
mark_moved-requires-clause-in_range c =
    let t = c.requires.told in
    run_in_range t.0 t.1 c.args.b c.args.blocks.now c.args.moved.now t.2 c.loop-from.blocks
    c.loop-from.from c.value_end-to.result c.loop-from.parts.items
    (c.loop-from.invariant.parting t.0 t.1 t.2) c.value_end-to.ensures

pub mark_moved-requires-clause-unmarked : goal.mark_moved-requires-clause-unmarked
mark_moved-requires-clause-unmarked c =
    let t = c.requires.told in
    (c.loop-from.invariant.parting t.0 t.1 t.2).cutting.unmarked

pub split_marked-requires : goal.split_marked-requires
split_marked-requires c =
    let t = c.requires.told in
    omega (
      arith,
      c.requires.live,
      (c.loop-from.invariant.parting t.0 t.1 t.2).cutting.grown,
      c.mark_moved.ensures.blocks.count,
    )

pub returns-in_default : goal.returns-in_default
returns-in_default c = λ all void told.
    let m : Moved = c.index-moved-from.result in
    let here : c.loop-from.from < _ = c.loop-from-test.true in
    let parting = c.loop-from.invariant.parting all void told in
    subst (λ (ps : List Part). IsCut all c.args.b c.args.blocks.now c.split_marked.new.self ps)
    (sym c.in_ok-push-2.ensures.items)
    (run_last all void c.args.b c.args.blocks.now c.args.moved.now told c.loop-from.blocks
    c.loop-from.from c.value_end-to.result c.loop-from.parts.items parting c.value_end-to.ensures
    c.in_ok-three.three
    (λ d. ap (λ (n : Moved). n.three) (get_or_default c.args.moved.now c.loop-from.from d m here)
    ∙ sym c.in_ok-three.ensures.same)
    c.requires.live c.mark_moved.new.blocks c.split_marked.new.self c.mark_moved.ensures.blocks
    c.mark_moved.ensures.all c.mark_moved.ensures.only c.in_default.ensures.states
    c.in_default.ensures.cleared m
    (λ mixed. (let e = c.in_default.ensures.mixed.1 mixed in cc)) c.in_default.ensures.same)

pub loop-from-preserved : goal.loop-from-preserved
loop-from-preserved c =
    let m : Moved = c.index-moved-from.result in
    let here : c.loop-from.from < _ = c.loop-from-test.true in
    record {
      in_range = c.value_end-to.ensures.within;
      parting = λ all void told. (
          let parting = c.loop-from.invariant.parting all void told in
          subst (λ (ps : List Part). IsParting all void c.args.b c.args.blocks.now
          c.split_marked.new.self c.args.moved.now c.value_end-to.result ps)
          (sym c.in_ok-push.ensures.items)
          (run_new all void c.args.b c.args.blocks.now c.args.moved.now told c.loop-from.blocks
          c.loop-from.from c.value_end-to.result c.loop-from.parts.items parting
          c.value_end-to.ensures c.in_ok-three.three
          (λ d. ap (λ (n : Moved). n.three) (get_or_default c.args.moved.now c.loop-from.from d m
          here) ∙ sym c.in_ok-three.ensures.same)
          c.requires.live c.mark_moved.new.blocks c.split_marked.new.self
          c.mark_moved.ensures.blocks c.mark_moved.ensures.all c.mark_moved.ensures.only
          c.in-Some.ensures.states c.in-Some.ensures.cleared m c.in-Some.block
          c.in-Some.ensures.number (c.in-Some.ensures.mixed.0 refl) c.in-Some.ensures.split));
    }

pub returns : goal.returns
returns c = λ all void told.
    let m : Moved = c.index-moved-0.result in
    let three : c.in_ok-three-2.three ≡ void =
    c.in_ok-three-2.ensures.same ∙ told.voids_are 0 m c.requires.some in
    subst (λ (ps : List Part). IsCut all c.args.b c.args.blocks.now c.loop-from.blocks ps)
    (sym (c.in_ok-push-3.ensures.items
    ∙ ap (λ t. c.loop-from.parts.items ++ record { block = c.args.b; three = t } ∷ []) three))
    (rest_keeps all void c.args.b c.args.blocks.now c.args.moved.now told c.loop-from.blocks
    c.loop-from.from c.loop-from.parts.items (c.loop-from.invariant.parting all void told)
    c.loop-from-test.false c.requires.live)
