-- What is read at each kind of node, taken apart: what stands at its top, and what holds of each
-- part where it holds of all that the children read.
use Rattle.std.proofs.Common.{◌≡◌, ℕ, ◌+◌, List, [], ◌∷◌, length, subst}
use Rattle.std.specs.Prelude.{Option, Ok, ◌==◌}
use Rattle.std.specs.List.{AllByRecursion, list_all}
use Rattle.std.proofs.lemmas.Bool.{eqb-true}
use Rattle.file_cut.specs.declared.tree.Tree.{Tree}
use Rattle.file_cut.specs.declared.tree.Entry.{Entry}
use Rattle.functor_terms.specs.declared.node.Node.{Node}
use Rattle.functor_terms.specs.declared.node.LabelSet.{LabelSet}
use Rattle.functor_terms.specs.Terms.{label_count, number_below}
use Rattle.typing.specs.declared.kind.TypeKind.TheVariants.{WrongShape, WrongCount, MissingKey, BadIndex}
use Rattle.fitting.specs.declared.fitted.Fitted.{Fitted}
use Rattle.fitting.specs.declared.fitted.Fitted.TheVariants as fitted
use Rattle.fitting.specs.declared.fitted.Weight.{Weight}
use Rattle.fitting.specs.Levels.{parts, branch, entries, held, weight_tree}
use Rattle.fitting.specs.Fitting.{Found, Fit, needs, demands, found, made, fit_at, each, places, product_fit, sum_fit, power_fit, power_of, is_keyed, filled, all_held, empty_slots, Slots, set_fit, set_of, is_alone, weights_fit, weights_of, has_weight, entry_fit, weight_fit}
use Rattle.fitting.proofs.Inversions.{ok_same, needs-ok, demands-ok, found-ok, made-ok, each-good, filled-good, held-good, empty-good}

-- a tuple has a part for each place
pub record IsTupleOf (gs : List Fit) (f : Fitted) : Type 0 where
  pub trees : List Tree
  pub values : List Fitted
  pub count : length trees ≡ length gs
  pub read : places gs 0 trees ≡ Ok values
  pub is : fitted.Tuple values ≡ f

-- a product that is read is a tuple of what its parts are read as
pub product-ok : (gs : List Fit) (u : Tree) (f : Fitted) → product_fit gs u ≡ Ok f → IsTupleOf gs f
product-ok gs u f e =
    let counted : List Tree → Found Fitted = λ us.
    demands (length us == length gs) WrongCount (made fitted.Tuple (places gs 0 us)) in
    let (us, e1, f1) = needs-ok (parts u) WrongShape counted f e in
    let (e2, f2) =
    demands-ok (length us == length gs) WrongCount (made fitted.Tuple (places gs 0 us)) f f1 in
    let (fs, e3, same) = made-ok fitted.Tuple (places gs 0 us) f f2 in
    record {
      trees = us;
      values = fs;
      count = eqb-true (length us) (length gs) e2;
      read = e3;
      is = same;
    }

-- what holds of what each place reads holds of all parts
pub places-good :
    (gs : List Fit) (P : Fitted → Type 0)
    → ((k : ℕ) (u : Tree) (f : Fitted) → fit_at gs k u ≡ Ok f → P f)
    → (k : ℕ) (us : List Tree) (fs : List Fitted) → places gs k us ≡ Ok fs → AllByRecursion P fs
places-good gs P good k [] fs e =
    subst (λ (l : List Fitted). AllByRecursion P l) (ok_same [] fs e) tt
places-good gs P good k (u ∷ us) fs e =
    let (f, e1, f1) =
    found-ok (fit_at gs k u) (λ v. made (λ vs. v ∷ vs) (places gs (k + 1) us)) fs e in
    let (hs, e2, is) = made-ok (λ (vs : List Fitted). f ∷ vs) (places gs (k + 1) us) fs f1 in
    subst (λ (l : List Fitted). AllByRecursion P l) is
    (good k u f e1, places-good gs P good (k + 1) us hs e2)

-- a part of a sum
pub record IsInjOf (gs : List Fit) (f : Fitted) : Type 0 where
  pub index : ℕ
  pub tree : Tree
  pub value : Fitted
  pub read : fit_at gs index tree ≡ Ok value
  pub is : fitted.Inj index value ≡ f

-- a sum that is read is an injection of what its part is read as
pub sum-ok : (gs : List Fit) (u : Tree) (f : Fitted) → sum_fit gs u ≡ Ok f → IsInjOf gs f
sum-ok gs u f e =
    let placed : List ℕ × Tree → ℕ → Found Fitted = λ b k. made (fitted.Inj k) (fit_at gs k b.1) in
    let (b, e1, f1) =
    needs-ok (branch u) WrongShape
    (λ b. needs (number_below (length gs) b.0) BadIndex (placed b)) f e in
    let (k, e2, f2) = needs-ok (number_below (length gs) b.0) BadIndex (placed b) f f1 in
    let (h, e3, same) = made-ok (fitted.Inj k) (fit_at gs k b.1) f f2 in
    record { index = k; tree = b.1; value = h; read = e3; is = same }

-- so many values, of each of which P holds
pub record AreHeld (P : Fitted → Type 0) (make : List Fitted → Fitted) (f : Fitted) : Type 0 where
  pub values : List Fitted
  pub all : AllByRecursion P values
  pub is : make values ≡ f

module _ (gs : List Fit) (P : Fitted → Type 0)
    (good : (u : Tree) (f : Fitted) → fit_at gs 0 u ≡ Ok f → P f) where
  -- a value for each label
  pub power-ok :
      (labels : LabelSet) (u : Tree) (f : Fitted) → power_fit labels gs u ≡ Ok f
      → AreHeld P fitted.Tuple f
  power-ok labels u f e =
      let (es, e1, f1) = needs-ok (entries u) WrongShape (power_of labels (fit_at gs 0)) f e in
      let full : Slots → Found Fitted = λ slots.
      needs (all_held slots) MissingKey (λ vs. Ok (fitted.Tuple vs)) in
      let read : Found Slots = filled labels (fit_at gs 0) (empty_slots labels) es in
      let (e2, f2) = demands-ok (list_all is_keyed es) WrongShape (found read full) f f1 in
      let (slots, e3, f3) = found-ok read full f f2 in
      let (fs, e4, f4) =
      needs-ok (all_held slots) MissingKey (λ vs. Ok (fitted.Tuple vs)) f f3 in
      let kept =
      filled-good labels (fit_at gs 0) P good es (empty_slots labels) slots
      (empty-good P (label_count labels)) e3 in
      record {
        values = fs;
        all = (held-good P slots fs kept.0 e4).0;
        is = ok_same (fitted.Tuple fs) f f4;
      }

  -- a set
  pub set-ok : (u : Tree) (f : Fitted) → set_fit gs u ≡ Ok f → AreHeld P fitted.Set f
  set-ok u f e =
      let (es, e1, f1) = needs-ok (entries u) WrongShape (set_of (fit_at gs 0)) f e in
      let read : Found (List Fitted) = each (λ e. fit_at gs 0 (held e)) es in
      let (e2, f2) = demands-ok (list_all is_alone es) WrongShape (made fitted.Set read) f f1 in
      let (fs, e3, same) = made-ok fitted.Set read f f2 in
      record {
        values = fs;
        all = each-good (λ e. fit_at gs 0 (held e)) P (λ e h q. good (held e) h q) es fs e3;
        is = same;
      }

  -- a weight list: P holds of each value, and Q of each weight
  pub record AreWeighed (Q : Weight → Type 0) (f : Fitted) : Type 0 where
    pub pairs : List (Fitted × Weight)
    pub all : AllByRecursion (λ w. P w.0 × Q w.1) pairs
    pub is : fitted.Weights pairs ≡ f

  -- weights that are read have what each weight has
  pub weights-ok :
      (m : Node) (Q : Weight → Type 0)
      → ((o : Option Tree) (w : Weight) → weight_fit m o ≡ Ok w → Q w)
      → (u : Tree) (f : Fitted) → weights_fit m gs u ≡ Ok f → AreWeighed Q f
  weights-ok m Q weighs u f e =
      let (es, e1, f1) = needs-ok (entries u) WrongShape (weights_of m (fit_at gs 0)) f e in
      let read : Found (List (Fitted × Weight)) = each (entry_fit m (fit_at gs 0)) es in
      let (e2, f2) =
      demands-ok (list_all (has_weight m) es) WrongShape (made fitted.Weights read) f f1 in
      let (fs, e3, same) = made-ok fitted.Weights read f f2 in
      record {
        pairs = fs;
        all =
            each-good (entry_fit m (fit_at gs 0)) (λ w. P w.0 × Q w.1) entry es fs e3;
        is = same;
      }
    where
      entry :
          (e : Entry) (w : Fitted × Weight) → entry_fit m (fit_at gs 0) e ≡ Ok w
          → P w.0 × Q w.1
      entry e w q =
          let (h, e1, f1) =
          found-ok (fit_at gs 0 (held e))
          (λ v. made (λ w. (v, w)) (weight_fit m (weight_tree e))) w q in
          let (k, e2, same) =
          made-ok (λ (c : Weight). (h, c)) (weight_fit m (weight_tree e)) w f1 in
          subst (λ (c : Fitted × Weight). P c.0 × Q c.1) same
          (good (held e) h e1, weighs (weight_tree e) k e2)
