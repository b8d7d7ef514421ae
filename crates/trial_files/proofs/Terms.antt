-- The terms of the four kinds of trial inputs, which their functor lines spell.
use Rattle.std.proofs.Common.{◌≡◌, true, false, [], ◌∷◌, refl}
use Rattle.std.specs.Prelude.{codes}
use Rattle.std.specs.List.{list_all}
use Rattle.file_cut.specs.Lines.{is_skipped}
use Rattle.functor_terms.specs.Grammar.{SpellsTerm}
use Rattle.functor_terms.specs.Reading.{items_from, words_at, powers_from, prefix_at, power_at, product_at, sum_at, inside_at, part_at}
use Rattle.functor_terms.specs.Signs.{signs_at}
use Rattle.functor_terms.specs.Terms.{Nodes, Part, over, placed}
use Rattle.functor_terms.specs.declared.node.Node.TheVariants.{State, Constant, Product, Power, Powerset, Distribution, Integers}
use Rattle.functor_terms.specs.declared.node.LabelSet.{LabelSet}
use Rattle.functor_terms.specs.declared.node.LabelSet.TheVariants.{Listed, Below}
use Rattle.functor_terms.proofs.ReadingLaws.{term-spelled}
use Rattle.structure_writer.proofs.Marks.{is_plain}
use Rattle.trial_texts.specs.declared.kind.TrialKind.{TrialKind}
use Rattle.trial_texts.specs.declared.kind.TrialKind.TheVariants.{Lts, Chain, Sums, Dfa}
use Rattle.trial_texts.specs.Text.{functor_text}

-- the letters of the labels
abbrev pub three_letters : LabelSet
three_letters = Listed (codes "a" ∷ codes "b" ∷ codes "c" ∷ [])

-- the labels a and b
abbrev pub two_letters : LabelSet
two_letters = Listed (codes "a" ∷ codes "b" ∷ [])

-- a node without children, and one with a child
abbrev pub leaf_state : Part
leaf_state = over State []

abbrev pub marked_with : Part → Part
marked_with part = over Product (over (Constant (Below 2)) [] ∷ part ∷ [])

abbrev pub part_of : TrialKind → Part
part_of Lts =
    over Powerset (over Product (over (Constant three_letters) [] ∷ leaf_state ∷ []) ∷ [])
part_of Chain = marked_with (over Distribution (leaf_state ∷ []))
part_of Sums = marked_with (over Integers (leaf_state ∷ []))
part_of Dfa = marked_with (over (Power two_letters) (leaf_state ∷ []))

-- the term of a kind
abbrev pub term_of : TrialKind → Nodes
term_of kind = placed 0 (part_of kind).0

-- the functor of a trial is spelled by its text
pub functor-spelled : (kind : TrialKind) → SpellsTerm (functor_text kind) (term_of kind)
unfolding items_from words_at powers_from prefix_at power_at product_at sum_at inside_at part_at
    signs_at
functor-spelled Lts = term-spelled (functor_text Lts) (part_of Lts) refl
functor-spelled Chain = term-spelled (functor_text Chain) (part_of Chain) refl
functor-spelled Sums = term-spelled (functor_text Sums) (part_of Sums) refl
functor-spelled Dfa = term-spelled (functor_text Dfa) (part_of Dfa) refl

-- the line ends nowhere within, and is not skipped
pub functor-plain : (kind : TrialKind) → list_all is_plain (functor_text kind) ≡ true
functor-plain Lts = refl
functor-plain Chain = refl
functor-plain Sums = refl
functor-plain Dfa = refl

-- the functor line of a trial is not skipped
pub functor-unskipped : (kind : TrialKind) → is_skipped (functor_text kind) ≡ false
functor-unskipped Lts = refl
functor-unskipped Chain = refl
functor-unskipped Sums = refl
functor-unskipped Dfa = refl
