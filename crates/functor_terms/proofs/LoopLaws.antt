-- One turn of a loop that reads items with a sign between each two.
use Rattle.std.proofs.Common.{◌≡◌, ℕ, suc, ◌∷◌, [], ◌++◌, List, Option, Some, None, Bool, true, false, sym, ap, ◌∙◌}
use Rattle.std.specs.Prelude.{option_and_then, if◌then◌else◌}
use Rattle.std.specs.Option.{option_map_or}
use Rattle.functor_terms.specs.declared.sign.Sign.{Sign}
use Rattle.functor_terms.specs.Reading.{Reads, behind_sign, others_behind, joined_by, items_from}

module _ {A : Type 0} (item : Reads A) (goes_on : Sign → Bool) (joins : List A → A → Bool)
    (whole : Option (List A × List Sign)) (n : ℕ) (done : List A) (left : List Sign)
    (kept : items_from item goes_on joins n done left ≡ whole) where
  -- no more items may come
  pub loop-out : n ≡ 0 → whole ≡ None
  unfolding items_from
  loop-out e = sym kept ∙ ap (λ m. items_from item goes_on joins m done left) e

  module _ (m : ℕ) (more : n ≡ suc m) where
    step : (r : Option (A × List Sign)) → item left ≡ r
        → whole ≡ option_and_then (λ p. joined_by item goes_on joins done p.0
        (items_from item goes_on joins m) p.1) r
    unfolding items_from
    step r e =
        sym kept ∙ ap (λ k. items_from item goes_on joins k done left) more
        ∙ ap (option_and_then (λ p. joined_by item goes_on joins done p.0
        (items_from item goes_on joins m) p.1)) e

    -- no item is there
    pub loop-fails : item left ≡ None → whole ≡ None
    loop-fails e = step None e

    module _ (x : A) (rest : List Sign) (read : item left ≡ Some (x, rest)) where
      tested : (b : Bool) → joins done x ≡ b → whole
          ≡ (if b then others_behind item goes_on joins (done ++ x ∷ [])
          (items_from item goes_on joins m) rest else None)
      tested b e =
          step (Some (x, rest)) read
          ∙ ap (λ c. if c then others_behind item goes_on joins (done ++ x ∷ [])
          (items_from item goes_on joins m) rest else None) e

      -- it may not come behind those before it
      pub loop-refuses : joins done x ≡ false → whole ≡ None
      loop-refuses e = tested false e

      -- it is the last
      pub loop-ends : joins done x ≡ true → behind_sign goes_on rest ≡ None
          → whole ≡ Some (done ++ x ∷ [], rest)
      loop-ends e ends = tested true e
          ∙ ap (λ r. option_map_or (items_from item goes_on joins m (done ++ x ∷ [])) r
          (Some (done ++ x ∷ [], rest))) ends

      -- another follows
      pub loop-goes : joins done x ≡ true → (others : List Sign)
          → behind_sign goes_on rest ≡ Some others
          → items_from item goes_on joins m (done ++ x ∷ []) others ≡ whole
      loop-goes e others next =
          sym (tested true e ∙ ap (λ r. option_map_or
          (items_from item goes_on joins m (done ++ x ∷ [])) r (Some (done ++ x ∷ [], rest)))
          next)
