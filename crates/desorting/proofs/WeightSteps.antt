-- Weight lists: sums of classes against sums of equal entries.
use Rattle.std.proofs.Common.{◌≡◌, ℕ, Bool, true, false, cond, List, [], ◌∷◌, map, refl, sym, ap, ◌∙◌, subst, ⊎_elim, inl, inr, arith}
use Rattle.std.specs.Prelude.{◌⊎◌, ℤ, pos, ◌+ℤ◌, ◌==◌, if◌then◌else◌}
use Rattle.std.specs.Cmp.{IsEquivalence}
use Rattle.std.specs.List.{list_all, AllZip}
use Rattle.std.specs.Ordering.{int_eq}
use Rattle.std.proofs.lemmas.Bool.{and_from, eqb-true}
use Rattle.std.proofs.lemmas.Bool.Decides.{Decides-int_eq}
use Rattle.std.proofs.lemmas.Cmp.{nat_eq_equiv, on_equiv}
use Rattle.std.proofs.lemmas.Int.{ints}
use Rattle.std.proofs.lemmas.List.Folds.{list_all-append}
use Rattle.typing.specs.declared.value.Value.{Value}
use Rattle.typing.specs.Values.{relabelled}
use Rattle.typing.specs.Layers.{Place}
use Rattle.typing.specs.Equality.{Test, weight_of, same_weights, the_sum}
use Rattle.typing.proofs.Tests.{same_weights-Decides}
use Rattle.weights.specs.Sums.{sum_if}
use Rattle.desorting.specs.Agreement.{SameSums}
use Rattle.desorting.proofs.Steps.{ClassesEqual, EqualsMeet}
use Rattle.typing.proofs.Weights.{weight_in, coarser_sums_everywhere}

-- an element of a list with its class
record Placed (R : Place → ℕ → Type 0) (q : ℕ) : Type 0 where
  value : Value
  class : ℕ
  known : R (q, value) class

module _ (R : Place → ℕ → Type 0) (b : List ℕ) (E : ℕ → Test) (q : ℕ) (is : IsEquivalence (E q))
  where
    abbrev AreClassed : List (Value × ℤ) → List ℕ → Type 0
    AreClassed es cs = AllZip R (map (λ e. (q, e.0)) es) cs

    abbrev moved : List (Value × ℤ) → List (Value × ℤ)
    moved es = map (λ e. (relabelled b e.0, e.1)) es

    abbrev weights : List (Value × ℤ) → List ℤ
    weights es = map (λ e. e.1) es

    abbrev sum_at : ℕ → List (Value × ℤ) → List ℕ → ℤ
    sum_at k es cs = sum_if (pos 0) (λ x y. x +ℤ y) (λ c. c == k) (weights es) cs

    abbrev placed : (es : List (Value × ℤ)) (cs : List ℕ) → AreClassed es cs → List (Placed R q × ℤ)
    placed [] [] h = []
    placed [] (c ∷ cs) h = absurd h
    placed (e ∷ es) [] h = absurd h
    placed (e ∷ es) (c ∷ cs) h = (record { value = e.0; class = c; known = h.0 }, e.1) ∷ placed es cs
        h.1

    abbrev same_class : Placed R q → Placed R q → Bool
    same_class x y = x.class == y.class

    abbrev same_value : Placed R q → Placed R q → Bool
    same_value x y = E q (relabelled b x.value) (relabelled b y.value)

    class-equivalence : IsEquivalence same_class
    class-equivalence = on_equiv (λ (x : Placed R q). x.class) nat_eq_equiv

    value-equivalence : IsEquivalence same_value
    value-equivalence = on_equiv (λ (x : Placed R q). relabelled b x.value) is

    class_sums : (es : List (Value × ℤ)) (cs : List ℕ) (h : AreClassed es cs) (x : Placed R q)
        → weight_in same_class (placed es cs h) x ≡ sum_at x.class es cs
    class_sums [] [] h x = refl
    class_sums [] (c ∷ cs) h x = absurd h
    class_sums (e ∷ es) [] h x = absurd h
    class_sums (e ∷ es) (c ∷ cs) h x = by (c == x.class) (class_sums es cs h.1 x)
      where
        by : (o : Bool) → weight_in same_class (placed es cs h.1) x ≡ sum_at x.class es cs
            → (if o then e.1 else pos 0) +ℤ weight_in same_class (placed es cs h.1) x
            ≡ cond o (e.1 +ℤ sum_at x.class es cs) (sum_at x.class es cs)
        by true k = ap (λ n. e.1 +ℤ n) k
        by false k = omega (arith, ints, k)

    value_sums : (es : List (Value × ℤ)) (cs : List ℕ) (h : AreClassed es cs) (x : Placed R q)
        → weight_in same_value (placed es cs h) x ≡ weight_of (E q) (moved es) (relabelled b x.value)
    value_sums [] [] h x = refl
    value_sums [] (c ∷ cs) h x = absurd h
    value_sums (e ∷ es) [] h x = absurd h
    value_sums (e ∷ es) (c ∷ cs) h x =
        ap (λ n. (if E q (relabelled b e.0) (relabelled b x.value) then e.1 else pos 0) +ℤ n)
        (value_sums es cs h.1 x)

    each_placed : (p : Value × ℤ → Bool) (es : List (Value × ℤ)) (cs : List ℕ) → AreClassed es cs
        → ((x : Placed R q) (w : ℤ) → p (relabelled b x.value, w) ≡ true)
        → list_all p (moved es) ≡ true
    each_placed p [] cs h k = refl
    each_placed p (e ∷ es) [] h k = absurd h
    each_placed p (e ∷ es) (c ∷ cs) h k = and_from (p (relabelled b e.0, e.1)) (list_all p (moved es))
        (k (record { value = e.0; class = c; known = h.0 }) e.1) (each_placed p es cs h.1 k)

    -- weights with one sum in each class have equal images
    pub weights-equal : (us ws : List (Value × ℤ)) (cs ds : List ℕ) → ClassesEqual R b E q
        → AreClassed us cs → AreClassed ws ds → SameSums the_sum us ws cs ds
        → same_weights (E q) (moved us) (moved ws) ≡ true
    weights-equal us ws cs ds h x y same =
        let merged : (a : Placed R q) → weight_in same_value (placed us cs x) a ≡ weight_in same_value
        (placed ws ds y) a =
        coarser_sums_everywhere same_class same_value class-equivalence value-equivalence
        (λ v w e. h v.value w.value w.class (subst (λ k. R (q, v.value) k)
        (eqb-true v.class w.class e) v.known) w.known)
        (placed us cs x) (placed ws ds y) (λ a. class_sums us cs x a ∙ same a.class
        ∙ sym (class_sums ws ds y a)) in
        let equal : (a : Placed R q) → weight_of (E q) (moved us) (relabelled b a.value) ≡ weight_of
        (E q) (moved ws) (relabelled b a.value) =
        λ a. sym (value_sums us cs x a) ∙ merged a ∙ value_sums ws ds y a in
        let test : Value × ℤ
        → Bool = λ w. int_eq (weight_of (E q) (moved us) w.0) (weight_of (E q) (moved ws) w.0) in
        let passes : (a : Placed R q) (w : ℤ)
        → test (relabelled b a.value, w) ≡ true =
        λ a w. (Decides-int_eq (weight_of (E q) (moved us) (relabelled b a.value))
        (weight_of (E q) (moved ws) (relabelled b a.value))).1 (equal a) in
        list_all-append test (moved us) (moved ws)
        ∙ and_from (list_all test (moved us)) (list_all test (moved ws))
        (each_placed test us cs x passes) (each_placed test ws ds y passes)

    -- an element of a class, or the class has no weight
    find : (k : ℕ) (es : List (Value × ℤ)) (cs : List ℕ) → AreClassed es cs
        → ((x : Placed R q) × (x.class ≡ k)) ⊎ (sum_at k es cs ≡ pos 0)
    find k [] cs h = inr refl
    find k (e ∷ es) [] h = absurd h
    find k (e ∷ es) (c ∷ cs) h = by (c == k) refl (find k es cs h.1)
      where
        by : (o : Bool) → (c == k) ≡ o → ((x : Placed R q) × (x.class ≡ k)) ⊎ (sum_at k es cs ≡ pos 0)
            → ((x : Placed R q) × (x.class ≡ k)) ⊎ (cond (c == k) (e.1 +ℤ sum_at k es cs)
            (sum_at k es cs) ≡ pos 0)
        by true is_k later = inl (record { value = e.0; class = c; known = h.0 }, eqb-true c k is_k)
        by false other (inl there) = inl there
        by false other (inr none) = inr (ap (λ o. cond o (e.1 +ℤ sum_at k es cs) (sum_at k es cs))
            other ∙ none)

    -- weights whose images are equal have one sum in each class
    pub weights-agree : (us ws : List (Value × ℤ)) (cs ds : List ℕ) → EqualsMeet R b E q
        → AreClassed us cs → AreClassed ws ds → same_weights (E q) (moved us) (moved ws) ≡ true
        → SameSums the_sum us ws cs ds
    weights-agree us ws cs ds h x y e k =
        let equal : (a : Placed R q) → weight_in same_value (placed us cs x) a ≡ weight_in same_value
        (placed ws ds y) a =
        λ a. value_sums us cs x a ∙ (same_weights-Decides (E q) is (moved us) (moved ws)).0 e
        (relabelled b a.value) ∙ sym (value_sums ws ds y a) in
        let merged : (a : Placed R q) → weight_in same_class (placed us cs x) a ≡ weight_in same_class
        (placed ws ds y) a =
        coarser_sums_everywhere same_value same_class value-equivalence class-equivalence
        (λ v w same. meets v w same) (placed us cs x) (placed ws ds y) equal in
        let at : ((a : Placed R q) × (a.class ≡ k)) → sum_at k us cs ≡ sum_at k ws ds =
        λ a. subst (λ c. sum_at c us cs ≡ sum_at c ws ds) a.1 (sym (class_sums us cs x a.0)
        ∙ merged a.0 ∙ class_sums ws ds y a.0) in
        ⊎_elim at (λ none. ⊎_elim at (λ neither. none ∙ sym neither) (find k ws ds y))
        (find k us cs x)
      where
        meets : (v w : Placed R q) → same_value v w ≡ true → same_class v w ≡ true
        meets v w same = let one : v.class ≡ w.class = h v.value w.value v.class w.class v.known
            w.known same in subst (λ c. (v.class == c) ≡ true) one (nat_eq_equiv.refl v.class)
