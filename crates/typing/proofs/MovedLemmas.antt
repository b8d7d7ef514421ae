-- What the rebuilding of a value rests on.
use Rattle.std.proofs.Common.{◌≡◌, ℕ, ◌<◌, true, List, length, map, get_or, refl, sym, ap, ◌∙◌, subst}
use Rattle.std.specs.Prelude.{ℤ}
use Rattle.std.specs.List.{list_all}
use Rattle.std.proofs.lemmas.Option.{slice_get_read}
use Rattle.typing.specs.declared.value.Value.{Value, Value-F, out-Value, roll-Value}
use Rattle.typing.specs.declared.value.Value.TheVariants as value
use Rattle.typing.specs.declared.value.Value.TheViews.{outs-Tuple, outs-Set, rolls-Weights, roll-out-Value}
use Rattle.typing.specs.Values.{parts, parts_in, entries_in, relabelled, states_below}
use Rattle.typing.proofs.MapLaws.{parts_below, entries_below, mapped, out_map}
use Rattle.typing.proofs.StableLaws.{each_of}

-- the states in the parts of a tuple are below the bound
pub tuple_below : (n : ℕ) (v : Value) (vs : List Value) → v ≡ value.Tuple vs
    → states_below n v ≡ true → list_all (states_below n) vs ≡ true
tuple_below n v vs e h = subst (λ (us : List Value). list_all (states_below n) us ≡ true)
    (ap parts e ∙ ap parts_in (outs-Tuple vs)) (parts_below n v h)

-- the states in the members of a set are below the bound
pub set_below : (n : ℕ) (v : Value) (vs : List Value) → v ≡ value.Set vs → states_below n v ≡ true
    → list_all (states_below n) vs ≡ true
set_below n v vs e h = subst (λ (us : List Value). list_all (states_below n) us ≡ true) (ap parts e
    ∙ ap parts_in (outs-Set vs)) (parts_below n v h)

-- the states in an entry's element are below the bound
pub entry_below : (n : ℕ) (v : Value) (es : List (Value × ℤ)) (i : ℕ) (e : Value × ℤ)
    → out-Value v ≡ Value-F.Weights es → states_below n v ≡ true → i < length es → e ≡ get_or es i e
    → states_below n e.0 ≡ true
entry_below n v es i e o h below is =
    each_of (λ (w : Value × ℤ). states_below n w.0) es
    (subst (λ (ws : List (Value × ℤ)). list_all (λ w. states_below n w.0) ws ≡ true)
    (ap entries_in o) (entries_below n v h)) i e (slice_get_read es (length es) i e refl below
    is)

pub weights_made : (b : List ℕ) (v : Value) (es : List (Value × ℤ))
    → out-Value v ≡ Value-F.Weights es → value.Weights (map (λ e. (relabelled b e.0, e.1)) es)
    ≡ relabelled b v
weights_made b v es o = sym (rolls-Weights (map (λ e. (relabelled b e.0, e.1)) es))
    ∙ ap roll-Value (sym (out_map b v ∙ ap (mapped b) o)) ∙ roll-out-Value (relabelled b v)
