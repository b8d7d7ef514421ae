use Rattle.std.proofs.Common.{◌∙◌, sym, length, ap, arith}
use Rattle.typing.proofs.Within.{each_below}
use Rattle.typing.specs.Contents.{content_of}
use Rattle.classes.proofs.Composed.{enough}
use Rattle.classes.proofs.Classes.{classes}
use Rattle.classes.proofs.Counting.{great}
use Rattle.classes.proofs.equivalents.firsts_of.Goals as goal

pub first_places-requires-clause-enough : goal.first_places-requires-clause-enough
first_places-requires-clause-enough c =
    let now = c.args.c.now in
    let desorted = c.requires.desorted in
    let refined = c.args.refinement.now.refined in
    omega (
      arith,
      enough c.greatest_is_equivalence.ensures c.stable_labellings_give_stable_lists.ensures
          now.term now.values.items desorted.occurrences c.is_term.ensures desorted.sorting
          refined.block_of
          (great (content_of now) c.args.refinement.now.system desorted refined c.requires.refined),
      c.len-n.ensures,
      now.one_each,
      ap length c.block_of.ensures,
    )

pub returns-clause-stable : goal.returns-clause-stable
returns-clause-stable c =
    let now = c.args.c.now in
    (classes c.greatest_is_equivalence.ensures c.stable_labellings_give_stable_lists.ensures
    (content_of now) c.args.refinement.now.system c.requires.desorted c.is_term.ensures
    (each_below now.values.items _ now.one_each now.in_range) c.args.refinement.now.refined
    c.requires.refined c.block_of.result.now c.len-n.result c.in_ok-firsts.firsts.items
    c.block_of.ensures (c.len-n.ensures ∙ sym now.one_each) c.in_ok-firsts.ensures).stable

pub returns-clause-coarsest : goal.returns-clause-coarsest
returns-clause-coarsest c =
    let now = c.args.c.now in
    (classes c.greatest_is_equivalence.ensures c.stable_labellings_give_stable_lists.ensures
    (content_of now) c.args.refinement.now.system c.requires.desorted c.is_term.ensures
    (each_below now.values.items _ now.one_each now.in_range) c.args.refinement.now.refined
    c.requires.refined c.block_of.result.now c.len-n.result c.in_ok-firsts.firsts.items
    c.block_of.ensures (c.len-n.ensures ∙ sym now.one_each) c.in_ok-firsts.ensures).coarsest

pub returns-clause-first : goal.returns-clause-first
returns-clause-first c =
    let now = c.args.c.now in
    (classes c.greatest_is_equivalence.ensures c.stable_labellings_give_stable_lists.ensures
    (content_of now) c.args.refinement.now.system c.requires.desorted c.is_term.ensures
    (each_below now.values.items _ now.one_each now.in_range) c.args.refinement.now.refined
    c.requires.refined c.block_of.result.now c.len-n.result c.in_ok-firsts.firsts.items
    c.block_of.ensures (c.len-n.ensures ∙ sym now.one_each) c.in_ok-firsts.ensures).first
