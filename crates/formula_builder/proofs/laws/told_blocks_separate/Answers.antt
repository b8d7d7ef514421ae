use Rattle.std.proofs.Common.{◌∙◌, refl, sym, inl, inr}
use Rattle.std.proofs.lemmas.Bool.{eq-eqb}
use Rattle.std.proofs.lemmas.Bool.Decides.{eqb_tells}
use Rattle.sorted_systems.specs.Systems.{class_in}
use Rattle.formula_builder.proofs.laws.told_blocks_separate.Goals as goal

pub returns : goal.returns
returns g c node value system dag formulas block_of told x y hx hy apart = (
  told.exactly x x hx hx ∙ eq-eqb (class_in block_of x) (class_in block_of x) refl,
  told.exactly x y hx hy ∙ elim (eqb_tells (class_in block_of y) (class_in block_of x)) [
    | inl same ↦ absurd (apart (sym same.1))
    | inr other ↦ other.0
  ],
)
