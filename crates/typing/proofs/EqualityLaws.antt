-- Equality at a node is an equivalence.
use Rattle.std.proofs.Common.{◌≡◌, ℕ, Bool, true, false, ◌&&◌, List, refl, sym, ap, ◌∙◌}
use Rattle.std.specs.Prelude.{◌==◌}
use Rattle.std.specs.Cmp.{IsEquivalence}
use Rattle.std.specs.Cmp.Lexicographic.{lists_equiv, options_equiv}
use Rattle.std.specs.List.{AllByRecursion}
use Rattle.std.proofs.lemmas.Bool.{and_parts, and_from, eqb-true}
use Rattle.std.proofs.lemmas.Cmp.{nat_eq_equiv, on_equiv}
use Rattle.functor_terms.specs.declared.node.Node.{Node}
use Rattle.functor_terms.specs.declared.node.Node.TheVariants.{State, Constant, Naturals, Product, Sum, Power, Powerset, Bag, Distribution, Integers, Rationals}
use Rattle.functor_terms.specs.Terms.{Nodes}
use Rattle.functor_terms.proofs.Folds.{fold-all}
use Rattle.typing.specs.declared.value.Value.{Value}
use Rattle.typing.specs.Values.{state, label, index, inner, parts, entries}
use Rattle.typing.specs.Equality.{Test, no_test, test_at, eq_step, are_equal}
use Rattle.typing.proofs.Tests.{no_test-equivalence, test_at-equivalence, each_place-equivalence, same_members-equivalence, same_weights-equivalence}

-- a choice, and what is compared there
module _ (f : ℕ → Test) (is : (k : ℕ) → IsEquivalence (f k)) where
  -- a choice may be compared in either order
  pub chosen_symm : (i j : ℕ) (x y : Value) → ((i == j) && f i x y) ≡ ((j == i) && f j y x)
  chosen_symm i j x y = by (i == j) refl
    where
      by : (b : Bool) → (i == j) ≡ b → ((i == j) && f i x y) ≡ ((j == i) && f j y x)
      by true e = ap (λ b. b && f i x y) e ∙ (is i).symm x y ∙ ap (λ k. f k y x) (eqb-true i j e)
          ∙ sym (ap (λ b. b && f j y x) (nat_eq_equiv.symm j i ∙ e))
      by false e = ap (λ b. b && f i x y) e
          ∙ sym (ap (λ b. b && f j y x) (nat_eq_equiv.symm j i ∙ e))

  -- choices that are equal are alike to a third
  pub chosen_congr : (i j k : ℕ) (x y z : Value) → ((i == j) && f i x y) ≡ true
      → ((i == k) && f i x z) ≡ ((j == k) && f j y z)
  chosen_congr i j k x y z h =
      let p = and_parts (i == j) (f i x y) h in
      ap (λ b. (i == k) && b) ((is i).congr x y z p.1)
      ∙ ap (λ n. (n == k) && f n y z) (eqb-true i j p.0)

sum_equivalence : (es : List Test) → AllByRecursion IsEquivalence es
    → IsEquivalence (eq_step Sum es)
sum_equivalence es h = record {
  refl = λ u. and_from (index u == index u) (test_at es (index u) (inner u) (inner u))
      (nat_eq_equiv.refl (index u)) ((test_at-equivalence es (index u) h).refl (inner u));
  symm = λ u v. chosen_symm (test_at es) (λ k. test_at-equivalence es k h) (index u) (index v)
      (inner u) (inner v);
  congr = λ u v w e. chosen_congr (test_at es) (λ k. test_at-equivalence es k h) (index u) (index v)
      (index w) (inner u) (inner v) (inner w) e;
}

-- a level over equivalences is an equivalence
pub eq_step-equivalence : (m : Node) (es : List Test) → AllByRecursion IsEquivalence es
    → IsEquivalence (eq_step m es)
eq_step-equivalence State es h = on_equiv state (options_equiv nat_eq_equiv)
eq_step-equivalence (Constant labels) es h = on_equiv label nat_eq_equiv
eq_step-equivalence Naturals es h = on_equiv label nat_eq_equiv
eq_step-equivalence Product es h = on_equiv parts (each_place-equivalence es h)
eq_step-equivalence (Power labels) es h = on_equiv parts (lists_equiv (test_at-equivalence es 0 h))
eq_step-equivalence Sum es h = sum_equivalence es h
eq_step-equivalence Powerset es h = on_equiv parts (same_members-equivalence (test_at es 0)
    (test_at-equivalence es 0 h))
eq_step-equivalence Bag es h = on_equiv entries (same_weights-equivalence (test_at es 0)
    (test_at-equivalence es 0 h))
eq_step-equivalence Distribution es h = on_equiv entries (same_weights-equivalence (test_at es 0)
    (test_at-equivalence es 0 h))
eq_step-equivalence Integers es h = on_equiv entries (same_weights-equivalence (test_at es 0)
    (test_at-equivalence es 0 h))
eq_step-equivalence Rationals es h = on_equiv entries (same_weights-equivalence (test_at es 0)
    (test_at-equivalence es 0 h))

-- equality at a node is an equivalence
pub eq-equivalence : (t : Nodes) (p : ℕ) → IsEquivalence (are_equal t p)
eq-equivalence t p = fold-all IsEquivalence no_test eq_step no_test-equivalence eq_step-equivalence
    t p
