-- Lists to which each structure adds as many as edges leave it.
use Rattle.std.proofs.Common.{◌≡◌, ℕ, ◌+◌, ◌<◌, List, [], ◌∷◌, ◌++◌, length, Some, slice_get, refl, sym, ap, ◌∙◌, subst, ⊎_elim, arith, length-append}
use Rattle.std.specs.Prelude.{◌⊎◌}
use Rattle.std.specs.List.{AllZip}
use Rattle.std.proofs.lemmas.Option.{same_Some, none-some, slice_get_within}
use Rattle.std.proofs.lemmas.List.{append-nil}
use Rattle.functor_terms.specs.Terms.{Nodes}
use Rattle.typing.specs.Layers.{Place, leaves_of}
use Rattle.edge_store.specs.Edges.{chosen}
use Rattle.structures.specs.Structures.{repeated, sources_from}
use Rattle.structures.proofs.Chosen.{length-repeated, chosen-append, chosen-repeated, chosen-other, chosen-past, sources-snoc}
use Rattle.structures.proofs.Sound.{first_part}
use Rattle.desorting.specs.Numbered.{AreBlocks}
use Rattle.structures.proofs.Chosen.{later_test}

at_last : {X : Type 0} (xs : List X) (x z : X) → slice_get (xs ++ x ∷ []) (length xs) ≡ Some z
    → x ≡ z
at_last [] x z e = same_Some x z e
at_last (y ∷ ys) x z e = at_last ys x z e

module _ {X : Type 0} (t : Nodes) (R : Place → List X → Type 0) where
  pub blocks_none : AreBlocks t R [] []
  blocks_none = record { one_each = refl; each = λ y x e. absurd (none-some x e) }

  module _
      (places : List Place) (xs : List X) (blocks : AreBlocks t R places xs) (x : Place)
      (ys : List X) (count : length ys ≡ length (leaves_of t x)) (holds : R x ys) where
    abbrev all : List Place
    all = places ++ x ∷ []

    abbrev new : List ℕ
    new = repeated (0 + length places) (length (leaves_of t x))

    sources_are : sources_from t 0 all ≡ sources_from t 0 places ++ new
    sources_are = sources-snoc t 0 places x

    -- what is chosen is chosen of the old and of the new ones
    both :
        (y : ℕ) → chosen y (sources_from t 0 all) (xs ++ ys)
        ≡ chosen y (sources_from t 0 places) xs ++ chosen y new ys
    both y =
        ap (λ l. chosen y l (xs ++ ys)) sources_are
        ∙ chosen-append y (sources_from t 0 places) new xs ys blocks.one_each

    old :
        (y : ℕ) (z : Place) → y < length places → slice_get all y ≡ Some z →
        R z (chosen y (sources_from t 0 all) (xs ++ ys))
    old y z h e =
        let kept : chosen y (sources_from t 0 all) (xs ++ ys)
        ≡ chosen y (sources_from t 0 places) xs =
        both y
        ∙ ap (λ l. chosen y (sources_from t 0 places) xs ++ l)
        (chosen-other y (0 + length places) (length (leaves_of t x)) ys
        (later_test (0 + length places) y (omega (arith, h))))
        ∙ append-nil (chosen y (sources_from t 0 places) xs) in
        subst (R z) (sym kept) (blocks.each y z (first_part places (x ∷ []) y z h e))

    now :
        (y : ℕ) (z : Place) → y ≡ length places → slice_get all y ≡ Some z →
        R z (chosen y (sources_from t 0 all) (xs ++ ys))
    now y z same e =
        let this : x ≡ z =
        at_last places x z (ap (slice_get all) (sym same) ∙ e) in
        let number : 0 + length places ≡ y = omega (arith, same) in
        let those : chosen y (sources_from t 0 all) (xs ++ ys) ≡ ys =
        both y
        ∙ ap (λ l. l ++ chosen y new ys)
        (chosen-past t y 0 places (omega (arith, same)) xs)
        ∙ ap (λ k. chosen y (repeated k (length (leaves_of t x))) ys) number
        ∙ chosen-repeated y (length (leaves_of t x)) ys count in
        subst (λ w. R w (chosen y (sources_from t 0 all) (xs ++ ys))) this
        (subst (R x) (sym those) holds)

    -- blocks stay where the list grows
    pub blocks_more : AreBlocks t R all (xs ++ ys)
    blocks_more = record {
      one_each =
          omega (
            arith,
            ap length sources_are,
            length-append (sources_from t 0 places) new,
            length-repeated (0 + length places) (length (leaves_of t x)),
            blocks.one_each,
            length-append xs ys,
            count,
          );
      each = λ y z e.
          ⊎_elim (λ earlier. old y z earlier e) (λ last. now y z last e)
          (cases y (omega (arith, slice_get_within all y z e, length-append places (x ∷ []))));
    }
      where
        cases : (y : ℕ) → y < length places + 1 → (y < length places) ⊎ (y ≡ length places)
        cases y h = grind arith

-- blocks of one relation are blocks of a weaker one
pub blocks_kept :
    {X : Type 0} (t : Nodes) (R Q : Place → List X → Type 0) →
    ((x : Place) (ys : List X) → R x ys → Q x ys) → (places : List Place) (xs : List X) →
    AreBlocks t R places xs → AreBlocks t Q places xs
blocks_kept t R Q h places xs blocks = record {
  one_each = blocks.one_each;
  each = λ y x e. h x (chosen y (sources_from t 0 places) xs) (blocks.each y x e);
}

-- pairs of one relation are pairs of a weaker one
pub zip_kept :
    {A B : Type 0} (R Q : A → B → Type 0) → ((x : A) (y : B) → R x y → Q x y) →
    (xs : List A) (ys : List B) → AllZip R xs ys → AllZip Q xs ys
zip_kept R Q h [] [] z = tt
zip_kept R Q h [] (y ∷ ys) z = absurd z
zip_kept R Q h (x ∷ xs) [] z = absurd z
zip_kept R Q h (x ∷ xs) (y ∷ ys) z = (h x y z.0, zip_kept R Q h xs ys z.1)

-- one more pair at the end
pub zip_more :
    {A B : Type 0} (R : A → B → Type 0) (xs : List A) (ys : List B) (x : A) (y : B) →
    AllZip R xs ys → R x y → AllZip R (xs ++ x ∷ []) (ys ++ y ∷ [])
zip_more R [] [] x y z h = (h, tt)
zip_more R [] (w ∷ ys) x y z h = absurd z
zip_more R (w ∷ xs) [] x y z h = absurd z
zip_more R (w ∷ xs) (v ∷ ys) x y z h = (z.0, zip_more R xs ys x y z.1 h)
