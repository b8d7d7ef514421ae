-- What is cut out of a list of formulas keeps what is known of it.
--
-- kept_at          == a wanted formula holds at the same states, under its new number
-- kept_fit         == modalities fit as before
-- kept_writable    == and can be written as before
use Rattle.std.proofs.Common.{◌≡◌, ◌<◌, ℕ, false, List, length, refl, ◌∙◌, ap, subst}
use Rattle.std.specs.Prelude.{slice_index, slice_index_or, slice_get, Some, All}
use Rattle.std.specs.Option.{option_map_or}
use Rattle.std.proofs.lemmas.Option.{slice_get-get_or, slice_get_within, get_or_from_slice_get}
use Rattle.functor_terms.specs.Terms.{Nodes}
use Rattle.typing.specs.Contents.{Content}
use Rattle.typing.specs.Layers.{Place}
use Rattle.formulas.specs.declared.formula.Formula.{Formula}
use Rattle.formulas.specs.declared.formula.Formula.TheVariants.{True, Not, And, At}
use Rattle.formulas.specs.Formulas.{IsDag}
use Rattle.formulas.specs.Ranges.{IsWritable}
use Rattle.formulas.specs.Truth.{holds}
use Rattle.satisfaction.specs.Modalities.{fits_term, AllFit}
use Rattle.satisfaction.specs.Satisfaction.{layers_of, holds_at}
use Rattle.formula_builder.specs.Cited.{renumbered, IsOnlyCited}
use Rattle.formula_builder.proofs.Renumbered.{kept_truth}

module _
    (dag : List Formula) (wanted : List ℕ) (small : List Formula) (new : List ℕ)
    (is : IsOnlyCited dag wanted small new) where
  -- a wanted formula holds at the same states, under its new number
  pub kept_at :
      (c : Content) → IsDag dag → (m : ℕ) → m < length wanted → (i : ℕ) →
      holds_at c small (slice_index new m) i ≡ holds_at c dag (slice_index wanted m) i
  kept_at c ordered m h i =
      let same : (x : Place) →
      holds (layers_of c.term c.denominator c.values) small (slice_index new m) x
      ≡ holds (layers_of c.term c.denominator c.values) dag (slice_index wanted m) x =
      λ x. kept_truth (layers_of c.term c.denominator c.values) dag small (slice_index is.old)
      ordered is.ordered is.same (slice_index new m) (is.there m h) x
      ∙ ap (λ n. holds (layers_of c.term c.denominator c.values) dag n x) (is.are_wanted m h) in
      λ t. option_map_or (λ v. same (0, v) t) (slice_get c.values i) false

  -- modalities fit as before
  pub kept_fit : (t : Nodes) → AllFit t dag → AllFit t small
  kept_fit t fit m f e =
      by f ∙ fit (slice_index is.old m) (renumbered (slice_index is.old) f) (is.same m f e)
    where
      by : (g : Formula) → fits_term t g ≡ fits_term t (renumbered (slice_index is.old) g)
      by True = refl
      by (Not i) = refl
      by (And i j) = refl
      by (At q v s c) = refl

  -- and can be written as before
  pub kept_writable : All IsWritable dag → All IsWritable small
  kept_writable writable m d h =
      let f : Formula = slice_index_or small m d in
      let at : slice_get dag (slice_index is.old m) ≡ Some (renumbered (slice_index is.old) f) =
      is.same m f (slice_get-get_or small m d h) in
      by f
      (subst IsWritable
      (get_or_from_slice_get dag (slice_index is.old m) (renumbered (slice_index is.old) f) d at)
      (writable (slice_index is.old m) d
      (slice_get_within dag (slice_index is.old m) (renumbered (slice_index is.old) f) at)))
    where
      by : (g : Formula) → IsWritable (renumbered (slice_index is.old) g) → IsWritable g
      by True w = w
      by (Not i) w = w
      by (And i j) w = w
      by (At q v s c) w = w
