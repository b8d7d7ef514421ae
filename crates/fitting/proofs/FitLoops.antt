-- One turn of a loop that reads the elements of a list.
use Rattle.std.proofs.Common.{◌≡◌, List, [], ◌∷◌, ◌++◌, refl, sym, ap, ◌∙◌, append_assoc, append-nil}
use Rattle.std.specs.Prelude.{Ok, Err, Option, Some, None}
use Rattle.std.specs.Option.{option_map_or}
use Rattle.typing.specs.declared.kind.TypeKind.{TypeKind}
use Rattle.fitting.specs.declared.fault.FitFault.{FitFault}
use Rattle.fitting.specs.declared.fault.FitFault.TheVariants.{Misfit, NoMemory}
use Rattle.fitting.specs.declared.fitted.Fitted.{Fitted}
use Rattle.fitting.specs.Fitting.{Found, found, made, each, Gives, GivesAs}

-- elements before those that are read
abbrev pub behind : {A : Type 0} → List A → Found (List A) → Found (List A)
behind done r = made (λ ys. done ++ ys) r

-- elements and one more before those that are read
behind-again : {A : Type 0} (done : List A) (y : A) (r : Found (List A))
    → ◌≡◌ {A = Found (List A)} (behind (done ++ y ∷ []) r) (behind done (made (λ ys. y ∷ ys) r))
behind-again done y (Ok ys) = ap (λ (l : List _). Ok l) (append_assoc done (y ∷ []) ys)
behind-again done y (Err kind) = refl

-- an element, and those behind it
abbrev next : {B : Type 0} → Found (List B) → Found B → Found (List B)
next rest r = found r (λ y. made (λ ys. y ∷ ys) rest)

module _ {B : Type 0} (done : List B) (rest whole : Found (List B)) (r : Found B)
    (kept : behind done (next rest r) ≡ whole) where
  next-goes : (y : B) → r ≡ Ok y → behind (done ++ y ∷ []) rest ≡ whole
  next-goes y e = behind-again done y rest ∙ sym (ap (λ q. behind done (next rest q)) e) ∙ kept

  next-stops : (kind : TypeKind) → r ≡ Err kind → whole ≡ Err kind
  next-stops kind e = sym kept ∙ ap (λ q. behind done (next rest q)) e

  next-fails : (e : FitFault) → Gives {A = B} (Err e) r → {C : Type 0} (f : C → List B)
      → GivesAs f (Err e) whole
  next-fails (Misfit kind) given f = next-stops kind given
  next-fails NoMemory given f = tt

-- nothing is left
pub ends : {B : Type 0} (done : List B) (whole : Found (List B)) → behind done (Ok []) ≡ whole
    → whole ≡ Ok done
ends done whole kept = sym kept ∙ ap (λ (l : List _). Ok l) (append-nil done)

module _ {A B : Type 0} (f : A → Found B) (done : List B) (x : A) (xs all : List A) (left : List A)
    (is : left ≡ x ∷ xs) (kept : behind done (each f left) ≡ each f all) where
  first : behind done (each f (x ∷ xs)) ≡ each f all
  first = ap (λ l. behind done (each f l)) (sym is) ∙ kept

  pub each-goes : (y : B) → f x ≡ Ok y → behind (done ++ y ∷ []) (each f xs) ≡ each f all
  each-goes = next-goes done (each f xs) (each f all) (f x) first

  pub each-fails : (e : FitFault) → Gives {A = B} (Err e) (f x) → {C : Type 0} (g : C → List B)
      → GivesAs g (Err e) (each f all)
  each-fails = next-fails done (each f xs) (each f all) (f x) first

-- what is held, behind what was taken
abbrev pub held_behind : List Fitted → Option (List Fitted) → Option (List Fitted)
held_behind done held = option_map_or (λ vs. Some (done ++ vs)) held None
