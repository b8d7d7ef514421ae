-- What follows where tests in order find something.
use Rattle.std.proofs.Common.{◌≡◌, ℕ, Bool, true, false, List, [], ◌∷◌, length, refl, sym, ap, ◌∙◌, subst}
use Rattle.std.specs.Prelude.{Option, Some, None, Ok, Err, slice_set, replicate, suc, zero}
use Rattle.std.specs.Option.{option_map_or}
use Rattle.std.specs.List.{AllByRecursion}
use Rattle.std.proofs.Math.ListN.{length-set}
use Rattle.std.proofs.lemmas.Option.{none-some, same_Some}
use Rattle.file_cut.specs.declared.tree.Entry.{Entry}
use Rattle.functor_terms.specs.declared.node.LabelSet.{LabelSet}
use Rattle.functor_terms.specs.Terms.{label_number}
use Rattle.typing.specs.declared.kind.TypeKind.{TypeKind}
use Rattle.typing.specs.declared.kind.TypeKind.TheVariants.{WrongShape, NotALabel, RepeatedKey}
use Rattle.fitting.specs.declared.fitted.Fitted.{Fitted}
use Rattle.fitting.specs.Levels.{key, weight_tree}
use Rattle.fitting.specs.Fitting.{Found, Fit, needs, demands, found, made, each, Slots, is_free, filled, all_held}

-- an answer is one
pub ok_same : {A : Type 0} (x y : A) → ◌≡◌ {A = Found A} (Ok x) (Ok y) → x ≡ y
ok_same x y e = cc

-- a fault is no answer
pub err_ok : {A : Type 0} (kind : TypeKind) (y : A) → ◌≡◌ {A = Found A} (Err kind) (Ok y) → ⊥
err_ok kind y e = cc

-- what is needed is there where the answer is Ok
pub needs-ok : {A B : Type 0} (o : Option A) (kind : TypeKind) (rest : A → Found B) (y : B)
    → needs o kind rest ≡ Ok y → (x : A) × (o ≡ Some x) × (rest x ≡ Ok y)
needs-ok None kind rest y e = absurd (err_ok kind y e)
needs-ok (Some x) kind rest y e = (x, refl, e)

-- what is demanded holds where the answer is Ok
pub demands-ok : {B : Type 0} (b : Bool) (kind : TypeKind) (rest : Found B) (y : B)
    → demands b kind rest ≡ Ok y → (b ≡ true) × (rest ≡ Ok y)
demands-ok true kind rest y e = (refl, e)
demands-ok false kind rest y e = absurd (err_ok kind y e)

-- an Ok behind an Ok
pub found-ok : {A B : Type 0} (r : Found A) (rest : A → Found B) (y : B) → found r rest ≡ Ok y
    → (x : A) × (r ≡ Ok x) × (rest x ≡ Ok y)
found-ok (Ok x) rest y e = (x, refl, e)
found-ok (Err kind) rest y e = absurd (err_ok kind y e)

-- what is made is made of an answer
pub made-ok : {A B : Type 0} (f : A → B) (r : Found A) (y : B) → made f r ≡ Ok y
    → (x : A) × (r ≡ Ok x) × (f x ≡ y)
made-ok f (Ok x) y e = (x, refl, ok_same (f x) y e)
made-ok f (Err kind) y e = absurd (err_ok kind y e)

-- what holds of what each element gives
pub each-good : {A B : Type 0} (g : A → Found B) (P : B → Type 0)
    → ((a : A) (b : B) → g a ≡ Ok b → P b) → (xs : List A) (bs : List B) → each g xs ≡ Ok bs
    → AllByRecursion P bs
each-good {B = B} g P h [] bs e = subst (λ (l : List B). AllByRecursion P l) (ok_same [] bs e) tt
each-good {B = B} g P h (a ∷ xs) bs e =
    let (y, r, e1) = found-ok (g a) (λ y. made (λ ys. y ∷ ys) (each g xs)) bs e in
    let (ys, r2, e2) = made-ok (λ (zs : List B). y ∷ zs) (each g xs) bs e1 in
    subst (λ (l : List B). AllByRecursion P l) e2 (h a y r, each-good g P h xs ys r2)

-- what holds of the slots that are not empty
abbrev pub SlotHolds : (Fitted → Type 0) → Option Fitted → Type 0
SlotHolds P None = Unit {0}
SlotHolds P (Some v) = P v

-- a list in which one entry is replaced keeps what holds of each
pub set-good : {X : Type 0} (Q : X → Type 0) (xs : List X) (k : ℕ) (y : X)
    → AllByRecursion Q xs → Q y → AllByRecursion Q (slice_set xs k y)
set-good Q [] k y all h = tt
set-good Q (x ∷ xs) zero y all h = (h, all.1)
set-good Q (x ∷ xs) (suc k) y all h = (all.0, set-good Q xs k y all.1 h)

-- what holds of what is read holds of the slots, and there are as many
pub filled-good : (labels : LabelSet) (g : Fit) (P : Fitted → Type 0)
    → ((u : _) (v : Fitted) → g u ≡ Ok v → P v) → (es : List Entry) (slots out : Slots)
    → AllByRecursion (SlotHolds P) slots → filled labels g slots es ≡ Ok out
    → AllByRecursion (SlotHolds P) out × (length out ≡ length slots)
filled-good labels g P h [] slots out all e = let same =
    ok_same slots out e in (
      subst (λ (l : Slots). AllByRecursion (SlotHolds P) l) same all,
      ap length (sym same),
    )
filled-good labels g P h (entry ∷ es) slots out all e =
    let (w, e1, f1) = needs-ok (key entry) WrongShape
    (λ w. needs (weight_tree entry) WrongShape
    (λ u. needs (label_number labels w) NotALabel
    (λ k. demands (is_free slots k) RepeatedKey
    (found (g u) (λ v. filled labels g (slice_set slots k (Some v)) es))))) out e in
    let (u, e2, f2) = needs-ok (weight_tree entry) WrongShape
    (λ u. needs (label_number labels w) NotALabel
    (λ k. demands (is_free slots k) RepeatedKey
    (found (g u) (λ v. filled labels g (slice_set slots k (Some v)) es)))) out f1 in
    let (k, e3, f3) = needs-ok (label_number labels w) NotALabel
    (λ k. demands (is_free slots k) RepeatedKey
    (found (g u) (λ v. filled labels g (slice_set slots k (Some v)) es))) out f2 in
    let (e4, f4) = demands-ok (is_free slots k) RepeatedKey
    (found (g u) (λ v. filled labels g (slice_set slots k (Some v)) es)) out f3 in
    let (v, e5, f5) = found-ok (g u) (λ v. filled labels g (slice_set slots k (Some v)) es) out
    f4 in
    let rest = filled-good labels g P h es (slice_set slots k (Some v)) out
    (set-good (SlotHolds P) slots k (Some v) all (h u v e5)) f5 in
    (rest.0, rest.1 ∙ length-set slots k (Some v))

-- what all slots hold
pub held-good : (P : Fitted → Type 0) (slots : Slots) (vs : List Fitted)
    → AllByRecursion (SlotHolds P) slots → all_held slots ≡ Some vs
    → AllByRecursion P vs × (length vs ≡ length slots)
held-good P [] vs all e = let same =
    same_Some [] vs e in (
      subst (λ (l : List Fitted). AllByRecursion P l) same tt,
      ap length (sym same),
    )
held-good P (None ∷ slots) vs all e = absurd (none-some vs e)
held-good P (Some v ∷ slots) vs all e =
    by (all_held slots) refl (λ us q. held-good P slots us all.1 q) e
  where
    by : (o : Option (List Fitted)) → all_held slots ≡ o
        → ((us : List Fitted) → all_held slots ≡ Some us
        → AllByRecursion P us × (length us ≡ length slots))
        → option_map_or (λ us. Some (v ∷ us)) o None ≡ Some vs
        → AllByRecursion P vs × (length vs ≡ length (Some v ∷ slots))
    by None q rest e = absurd (none-some vs e)
    by (Some us) q rest e =
        let w = rest us q in
        let same = same_Some (v ∷ us) vs e in (
          subst (λ (l : List Fitted). AllByRecursion P l) same (all.0, w.0),
          ap length (sym same)
              ∙ ap suc w.1,
        )

-- empty slots hold whatever is asked
pub empty-good : (P : Fitted → Type 0) (k : ℕ) → AllByRecursion (SlotHolds P) (replicate k None)
empty-good P zero = tt
empty-good P (suc k) = (tt, empty-good P k)
