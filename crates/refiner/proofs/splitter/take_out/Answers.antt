use Rattle.std.proofs.Common.{sym, arith}
use Rattle.refiner.proofs.Sizes.{size_less}
use Rattle.refiner.proofs.TakenOut.{taken}
use Rattle.refiner.proofs.splitter.take_out.Goals as goal

pub take_out-requires : goal.take_out-requires
take_out-requires c =
    let p = c.args.blocks.now in
    let q = c.args.coarse.now in
    let members = c.members.ensures.members in
    let w = c.requires.proper in
    record {
      live = c.requires.coarse_live;
      each = λ k d h. (
          let at = members.each k d h in
          (omega (arith, at.0, c.requires.states), c.requires.within _ at.0 at.1));
      once = members.once;
      some = members.some;
      proper = omega (
        arith,
        members.as_many,
        size_less p.block q.block c.args.s c.args.c w.0 (sym c.requires.states)
            (λ x hx e. c.requires.within x hx e) w.1 w.2 w.3,
      );
    }

pub returns-clause-out : goal.returns-clause-out
returns-clause-out c =
    taken c.args.blocks.now c.args.coarse.now c.take_out.new.self c.args.s c.members.result.now
    c.members.ensures.members c.in_ok-take_out.ensures.moved c.in_ok-take_out.ensures.others
