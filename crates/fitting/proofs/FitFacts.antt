-- What a tree is found to be at a node, by what its children find.
use Rattle.std.proofs.Common.{◌≡◌, ℕ, zero, suc, ◌-◌, ◌<◌, Bool, true, false, List, [], ◌∷◌, length, map, Some, None, slice_get, refl, sym, ap, ◌∙◌, subst, arith}
use Rattle.std.specs.Prelude.{if◌then◌else◌, nat_le, pos, Result, Ok, Err, unsigned_abs}
use Rattle.std.proofs.lemmas.Bool.{leb-true}
use Rattle.std.proofs.lemmas.Option.{none-some, same_Some}
use Rattle.file_cut.specs.declared.tree.Tree.{Tree}
use Rattle.functor_terms.specs.declared.node.Node.{Node}
use Rattle.functor_terms.specs.Terms.{Nodes, IsTerm, node_at, children_at}
use Rattle.functor_terms.proofs.Folds.{fold-at}
use Rattle.weights.specs.Numerals.{Whole, is_digits, number_of, numeral, reading_of}
use Rattle.weights.specs.NumeralLaws.{reading_of-Spells, reading_of-digits}
use Rattle.weights.specs.declared.numeral.Numeral.{Numeral}
use Rattle.weights.specs.declared.fault.NumeralFault.{NumeralFault}
use Rattle.weights.specs.declared.fault.NumeralFault.TheVariants as numeral_fault
use Rattle.fitting.specs.declared.fault.FitFault.{FitFault}
use Rattle.fitting.specs.declared.fitted.Fitted.{Fitted}
use Rattle.fitting.specs.declared.fitted.Fitted.TheVariants as fitted
use Rattle.typing.specs.declared.kind.TypeKind.TheVariants.{WrongShape, NotALabel}
use Rattle.fitting.specs.Levels.{word}
use Rattle.fitting.specs.Fitting.{needs, demands, number_fit, Fit, no_fit, fit_at, fit_step, fitting, Gives, number_limit}
use Rattle.typing.proofs.TermFacts.{not_zero}

-- a node finds what its step finds
pub fit-at : (t : Nodes) → IsTerm t → (names : List (List ℕ)) (p : ℕ) → p < length t → (m : Node)
    → m ≡ node_at t p → (u : Tree) (r : Result Fitted FitFault)
    → Gives r (fit_step names m (map (fitting t names) (children_at t p)) u)
    → Gives r (fitting t names p u)
fit-at t is names p h m e u r given =
    subst (Gives r) (ap (λ n. fit_step names n (map (fitting t names) (children_at t p)) u) e
    ∙ sym (ap (λ (f : Fit). f u) (fold-at no_fit (fit_step names) t is p h))) given

fit_at-suc : (f : Fit) (fs : List Fit) (k : ℕ) → fit_at (f ∷ fs) (suc k) ≡ fit_at fs k
fit_at-suc f fs k = ap (λ b. if b then f else fit_at fs (suc k - 1)) (not_zero k)
    ∙ ap (fit_at fs) (let e : suc k - 1 ≡ k = omega arith in e)

module _ (g : ℕ → Fit) where
  -- what the k-th of some nodes finds
  pub fit_found : (qs : List ℕ) (k q : ℕ) → slice_get qs k ≡ Some q → fit_at (map g qs) k ≡ g q
  fit_found [] k q e = absurd (none-some q e)
  fit_found (r ∷ qs) zero q e = ap g (same_Some r q e)
  fit_found (r ∷ qs) (suc k) q e = fit_at-suc (g r) (map g qs) k ∙ fit_found qs k q e

  -- no child, no fit
  pub fit_none : (qs : List ℕ) (k : ℕ) → slice_get qs k ≡ None → fit_at (map g qs) k ≡ no_fit
  fit_none [] k e = refl
  fit_none (r ∷ qs) zero e = absurd (none-some r (sym e))
  fit_none (r ∷ qs) (suc k) e = fit_at-suc (g r) (map g qs) k ∙ fit_none qs k e

-- what is read of digits alone
digits-reading : (w : List ℕ) → is_digits w ≡ true → nat_le (number_of w) number_limit ≡ false
    → reading_of w ≡ Err (numeral_fault.OverBound false)
digits-reading w h over = reading_of-Spells w false (Whole w) (record { text = refl; formed = h })
    ∙ rw over refl

ok_same : (n m : Numeral) → ◌≡◌ {A = Result Numeral NumeralFault} (Ok n) (Ok m) → n ≡ m
ok_same n m e = cc

ok_err : (n : Numeral) (e : NumeralFault) → ◌≡◌ {A = Result Numeral NumeralFault} (Ok n) (Err e) → ⊥
ok_err n e q = cc

-- a number that is read is the one that the digits spell, within the bound
pub digits-ok : (w : List ℕ) (n : Numeral) → is_digits w ≡ true → reading_of w ≡ Ok n
    → (if nat_le (number_of w) number_limit then fitted.Label (number_of w) else fitted.OverBound)
    ≡ fitted.Label (unsigned_abs n.p)
digits-ok w n h e = by (nat_le (number_of w) number_limit) refl
  where
    by : (b : Bool) → nat_le (number_of w) number_limit ≡ b
        → (if b then fitted.Label (number_of w) else fitted.OverBound)
        ≡ fitted.Label (unsigned_abs n.p)
    by true small =
        let same : n ≡ numeral (pos (number_of w)) 1 =
        ok_same n (numeral (pos (number_of w)) 1)
        (sym e ∙ reading_of-digits w h (leb-true (number_of w) number_limit small)) in
        ap (λ (m : Numeral). fitted.Label (unsigned_abs m.p)) (sym same)
    by false over = absurd (ok_err n (numeral_fault.OverBound false)
        (sym e ∙ digits-reading w h over))

-- a number over the bound is read as one
pub digits-over : (w : List ℕ) (f : NumeralFault) → is_digits w ≡ true → reading_of w ≡ Err f
    → (if nat_le (number_of w) number_limit then fitted.Label (number_of w) else fitted.OverBound)
    ≡ fitted.OverBound
digits-over w f h e = by (nat_le (number_of w) number_limit) refl
  where
    by : (b : Bool) → nat_le (number_of w) number_limit ≡ b
        → (if b then fitted.Label (number_of w) else fitted.OverBound) ≡ fitted.OverBound
    by true small = absurd (ok_err (numeral (pos (number_of w)) 1) f
        (sym (reading_of-digits w h (leb-true (number_of w) number_limit small)) ∙ e))
    by false over = refl

-- digits alone fit as the number that they spell
pub number-fits : (u : Tree) (w : List ℕ) → word u ≡ Some w → is_digits w ≡ true
    → number_fit u ≡ Ok (if nat_le (number_of w) number_limit then fitted.Label
    (number_of w) else fitted.OverBound)
number-fits u w here h =
    ap (λ o. needs o WrongShape (λ v. demands (is_digits v) NotALabel
    (Ok (if nat_le (number_of v) number_limit then fitted.Label
    (number_of v) else fitted.OverBound)))) here
    ∙ ap (λ b. demands b NotALabel (Ok (if nat_le (number_of w) number_limit then fitted.Label
    (number_of w) else fitted.OverBound))) h
