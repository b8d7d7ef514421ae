use Rattle.quotient_writer.proofs.ClassLaws.{are_firsts, count, labels-stable, labels-part, labels-join}
use Rattle.quotient_writer.proofs.laws.first_equivalents_are_numbered.Goals as goal

pub returns : goal.returns
returns c = record {
  firsts = λ t values firsts are. are_firsts t values firsts are.stable are.coarsest are.first;
  numbered = λ t values firsts labels within are same. record {
    covers = count t values firsts are.stable are.coarsest labels same;
    stable = labels-stable t values firsts are.stable are.coarsest labels same within;
    alike = λ i j hi hj. (
      λ e. (
        hi,
        hj,
        firsts,
        are.stable,
        labels-part t values firsts are.stable are.coarsest labels same i j hi hj e,
      ),
      λ e. labels-join t values firsts are.stable are.coarsest labels same i j e,
    );
  };
}
