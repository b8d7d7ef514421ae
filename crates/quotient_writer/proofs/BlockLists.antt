-- Block lists with one more line.
use Rattle.std.proofs.Common.{◌≡◌, ℕ, zero, suc, ◌+◌, ◌<◌, append-nil, List, [], ◌∷◌, ◌++◌, length, map, take, slice_get, Some, true≢false, add-one, arith, refl, ap, sym, ◌∙◌, append_assoc}
use Rattle.std.specs.Prelude.{unwrap_or, slice_index}
use Rattle.std.proofs.lemmas.List.{get_or-map, length-map}
use Rattle.std.proofs.lemmas.Option.{none-some}
use Rattle.quotient_writer.specs.Blocks.{block_line, block_lines, name_of, first_state, first_states}

-- without classes there is no line
pub lines-none : (names : List (List ℕ)) → block_lines names [] ≡ []
lines-none [] = refl
lines-none (name ∷ names) = refl

-- the lines of one state more
lines-more : (f : ℕ → List ℕ) (names : List (List ℕ)) (firsts : List ℕ) (i : ℕ)
    (name : List ℕ)
    → slice_get names i ≡ Some name → i < length firsts
    → block_lines names (map f (take (suc i) firsts))
    ≡ block_lines names (map f (take i firsts)) ++ block_line name (f (slice_index firsts i))
lines-more f [] firsts i name d h = absurd (none-some name d)
lines-more f (n ∷ names) [] i name d h = absurd (omega (arith, h))
lines-more f (n ∷ names) (k ∷ firsts) zero name d h =
    ap (λ rest. block_line n (f k) ++ rest) (lines-none names) ∙ append-nil (block_line n (f k))
    ∙ ap (λ x. block_line x (f k)) (ap (λ o. unwrap_or o []) d)
lines-more f (n ∷ names) (k ∷ firsts) (suc i) name d h =
    ap (λ rest. block_line n (f k) ++ rest) (lines-more f names firsts i name d (omega (arith, h)))
    ∙ sym (append_assoc (block_line n (f k)) (block_lines names (map f (take i firsts)))
    (block_line name (f (slice_index firsts i))))

-- the name of a state that has one
name-is : (names : List (List ℕ)) (i : ℕ) (name : List ℕ) → slice_get names i ≡ Some name
    → name_of names i ≡ name
name-is [] i name e = absurd (none-some name e)
name-is (n ∷ names) zero name e = ap (λ o. unwrap_or o []) e
name-is (n ∷ names) (suc i) name e = name-is names i name e

-- the block list with the line of one state more
pub line-more : (names : List (List ℕ)) (labels : List ℕ) (i first : ℕ)
    (name class old new : List ℕ) → i < length labels
    → first ≡ first_state labels (slice_index labels i) → slice_get names i ≡ Some name
    → slice_get names first ≡ Some class
    → old ≡ block_lines names (map (name_of names) (take i (first_states labels)))
    → new ≡ old ++ block_line name class
    → new ≡ block_lines names (map (name_of names) (take (i + 1) (first_states labels)))
line-more names labels i first name class old new h is named classed before more =
    let all : List ℕ = first_states labels in
    let long : length all ≡ length labels = rw length-map refl in
    let here : slice_index all i ≡ first =
    get_or-map (first_state labels) labels i 0 0 h ∙ sym is in
    more
    ∙ ap (λ text. text ++ block_line name class) before
    ∙ ap (λ x. block_lines names (map (name_of names) (take i all)) ++ block_line name x)
    (sym (ap (name_of names) here ∙ name-is names first class classed))
    ∙ sym (lines-more (name_of names) names all i name named (omega (arith, h, long)))
    ∙ ap (λ k. block_lines names (map (name_of names) (take k all))) (sym (add-one i))
