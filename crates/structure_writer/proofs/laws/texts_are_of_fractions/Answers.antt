use Rattle.structure_writer.proofs.SameText.{same-text}
use Rattle.structure_writer.proofs.laws.texts_are_of_fractions.Goals as goal

pub returns : goal.returns
returns c = same-text c.lowest_terms_stay.ensures.multiple
