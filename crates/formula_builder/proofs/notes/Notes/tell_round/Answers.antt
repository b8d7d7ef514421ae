use Rattle.std.proofs.Common.{◌∙◌, ap, refl, sym, [], ◌∷◌, ◌++◌, arith}
use Rattle.std.proofs.lemmas.List.{get_or_read}
use Rattle.std.proofs.lemmas.Option.{get_or_from_slice_get, slice_get_within}
use Rattle.formula_builder.specs.Making.{book_of, split_seen, round_seen}
use Rattle.formula_builder.proofs.Parts.{split_ready, split_room, end_room, splits_step, round_made}
use Rattle.formula_builder.proofs.notes.Notes.tell_round.Goals as goal

pub tell_split-requires-clause-tellable : goal.tell_split-requires-clause-tellable
tell_split-requires-clause-tellable c =
    let s = split_seen c.split-split.result in
    split_ready (book_of c.args.self.now) (book_of c.loop-k.self) (round_seen c.args.round.now)
    c.args.round.now.splits refl c.loop-k.k s c.requires.tellable
    (slice_get_within c.args.round.now.splits c.loop-k.k s c.split-split.ensures)
    (sym (get_or_from_slice_get c.args.round.now.splits c.loop-k.k s s c.split-split.ensures))
    c.loop-k.invariant.told

pub tell_split-requires-clause-room : goal.tell_split-requires-clause-room
tell_split-requires-clause-room c =
    let s = split_seen c.split-split.result in
    split_room (book_of c.args.self.now) (book_of c.loop-k.self) (round_seen c.args.round.now)
    c.args.round.now.splits refl c.loop-k.k s c.requires.tellable
    (slice_get_within c.args.round.now.splits c.loop-k.k s c.split-split.ensures)
    (sym (get_or_from_slice_get c.args.round.now.splits c.loop-k.k s s c.split-split.ensures))
    c.loop-k.invariant.told

pub loop-k-preserved : goal.loop-k-preserved
loop-k-preserved c = record {
  told = (let s = split_seen c.split-split.result in
      splits_step (book_of c.args.self.now) (book_of c.loop-k.self)
      (book_of c.tell_split.new.self) (round_seen c.args.round.now) c.args.round.now.splits refl
      c.loop-k.k s c.index-splitter.result.now c.index-coarse.result.now
      (get_or_read c.args.self.now.blocks.items c.args.round.now.splitter
      c.index-splitter.result.now c.requires.tellable.splitter_in c.index-splitter.ensures 0)
      (get_or_read c.args.self.now.coarse.items c.args.round.now.coarse
      c.index-coarse.result.now c.requires.tellable.coarse_in c.index-coarse.ensures 0)
      c.requires.tellable.parents_apart c.requires.tellable.parts_apart
      (slice_get_within c.args.round.now.splits c.loop-k.k s c.split-split.ensures)
      (sym (get_or_from_slice_get c.args.round.now.splits c.loop-k.k s s c.split-split.ensures))
      c.loop-k.invariant.told c.in_ok-tell_split.ensures.told);
}

pub put-requires-clause-room : goal.put-requires-clause-room
put-requires-clause-room c =
    omega (
      arith,
      end_room (book_of c.args.self.now) (book_of c.loop-k.self) (round_seen c.args.round.now)
          c.loop-k.k c.requires.tellable (omega (arith, c.len-k-end.ensures))
          c.loop-k.invariant.told,
    )

pub returns-clause-told : goal.returns-clause-told
returns-clause-told c =
    round_made (book_of c.args.self.now) (book_of c.loop-k.self) (round_seen c.args.round.now)
    c.loop-k.k c.put.new.dag c.put-2.new.dag c.index-splitter.result.now
    c.index-coarse.result.now c.in_ok-denied.denied c.in_ok-outer.outer c.push-2.new.self.items
    (get_or_read c.args.self.now.blocks.items c.args.round.now.splitter
    c.index-splitter.result.now c.requires.tellable.splitter_in c.index-splitter.ensures 0)
    (get_or_read c.args.self.now.coarse.items c.args.round.now.coarse
    c.index-coarse.result.now c.requires.tellable.coarse_in c.index-coarse.ensures 0)
    (omega (arith, c.len-k-end.ensures)) c.loop-k.invariant.told
    c.in_ok-denied.ensures.last.0 c.in_ok-denied.ensures.last.1 c.in_ok-outer.ensures.last.0
    c.in_ok-outer.ensures.last.1 c.in_ok-outer.ensures.ordered
    (c.in_ok-push-2.ensures.items
    ∙ ap (λ cs. cs ++ c.in_ok-outer.outer ∷ []) c.in_ok-push.ensures.items)
