-- Formulas that tell states apart.
--
-- separates        == what is cut out tells the same states apart
-- separate         == states are equivalent exactly where no formula tells them apart
use Rattle.std.proofs.Common.{◌≡◌, ◌<◌, ℕ, List, [], ◌∷◌, length, refl, sym, ◌∙◌, ap, arith}
use Rattle.functor_terms.specs.Terms.{IsTerm}
use Rattle.typing.specs.Contents.{Content}
use Rattle.typing.specs.Laws.{AreInRange}
use Rattle.sorted_systems.specs.Systems.{class_in}
use Rattle.formulas.specs.declared.formula.Formula.{Formula}
use Rattle.formulas.specs.Formulas.{IsDag}
use Rattle.satisfaction.specs.Laws.{TheSameOfCoalgebras}
use Rattle.satisfaction.specs.Satisfaction.{holds_at}
use Rattle.formula_builder.specs.Certified.{Certified}
use Rattle.formula_builder.specs.Cited.{IsOnlyCited}
use Rattle.state_certificates.proofs.Cut.{kept_at}
use Rattle.state_certificates.specs.Certificates.{formula_of, StatesAreTold, IsSeparation, FormulasSeparate}

-- what is cut out tells the states of two blocks apart
pub separates :
    (c : Content) (told : Certified) → StatesAreTold c told → IsDag told.dag →
    (i j : ℕ) → i < length c.values → j < length c.values →
    (class_in told.block_of i ≡ class_in told.block_of j → ⊥) →
    (k : ℕ) → k ≡ formula_of told i → (small : List Formula) (n : ℕ) →
    IsOnlyCited told.dag (k ∷ []) small (n ∷ []) → IsSeparation c i j small n
separates c told exact ordered i j hi hj apart k is small n cut = record {
  there = cut.there 0 (omega arith);
  holds =
      kept_at told.dag (k ∷ []) small (n ∷ []) cut c ordered 0 (omega arith) i
      ∙ ap (λ m. holds_at c told.dag m i) is
      ∙ (exact.exactly i i hi hi).1 ((exact.blocks i i hi hi).0 refl);
  fails = λ h. apart ((exact.blocks i j hi hj).1 ((exact.exactly i j hi hj).0
      (sym (kept_at told.dag (k ∷ []) small (n ∷ []) cut c ordered 0 (omega arith) j
      ∙ ap (λ m. holds_at c told.dag m j) is)
      ∙ h)));
  cited = cut.cited;
}

-- states are equivalent exactly where no formula tells them apart
pub separate :
    TheSameOfCoalgebras → (c : Content) → IsTerm c.term → AreInRange c.values →
    (told : Certified) → StatesAreTold c told → IsDag told.dag → FormulasSeparate c
separate law c term within told exact ordered i j hi hj = (
  λ alike dag is k h. law c term within dag is k h i j alike,
  λ same. (exact.exactly i j hi hj).0
      ((same told.dag ordered (formula_of told i) (exact.there i hi)).0
      ((exact.exactly i i hi hi).1 ((exact.blocks i i hi hi).0 refl))),
)
