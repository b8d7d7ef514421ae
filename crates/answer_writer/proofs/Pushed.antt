-- Texts that grow by one line.
use Rattle.std.proofs.Common.{◌≡◌, List, [], ◌∷◌, ◌++◌, ℕ, append_assoc, refl, ap, sym, ◌∙◌}
use Rattle.std.specs.Prelude.{codes}
use Rattle.formula_text.specs.Answers.{Block, Equivalent, formula_name}
use Rattle.formula_text.specs.Texts.{line_of_parts, line_text}
use Rattle.answer_writer.specs.Lines.{names_behind}

-- the line of two equivalent states, piece by piece
pub equivalent_last :
    (x y before told named after : List ℕ) → told ≡ before ++ codes "equivalent " →
    named ≡ told ++ x ++ 32 ∷ y → after ≡ named ++ 10 ∷ [] →
    after ≡ before ++ line_text (Equivalent x y)
equivalent_last x y before told named after e f g =
    let word : List ℕ = codes "equivalent " in
    g
    ∙ ap (λ t. t ++ 10 ∷ []) (f ∙ ap (λ t. t ++ x ++ 32 ∷ y) e)
    ∙ append_assoc (before ++ word ++ x) (32 ∷ y) (10 ∷ [])
    ∙ append_assoc (before ++ word) x (32 ∷ (y ++ 10 ∷ []))
    ∙ append_assoc before word (x ++ 32 ∷ (y ++ 10 ∷ []))

-- parts behind a part, each behind a space
parts_behind :
    (part : List ℕ) (parts : List (List ℕ)) →
    line_of_parts (part ∷ parts) ≡ part ++ (names_behind parts ++ 10 ∷ [])
parts_behind part [] = refl
parts_behind part (next ∷ parts) =
    ap (λ rest. part ++ 32 ∷ rest)
    (parts_behind next parts ∙ sym (append_assoc next (names_behind parts) (10 ∷ [])))

-- the line of a block, piece by piece
pub block_last :
    (f : ℕ) (names : List (List ℕ)) (before told cited named after : List ℕ) →
    told ≡ before ++ codes "block " → cited ≡ told ++ formula_name f →
    named ≡ cited ++ names_behind names → after ≡ named ++ 10 ∷ [] →
    after ≡ before ++ line_text (Block f names)
block_last f names before told cited named after e g h i =
    let word : List ℕ = codes "block " in
    let all : List ℕ = names_behind names in
    i
    ∙ ap (λ t. t ++ 10 ∷ [])
    (h ∙ ap (λ t. t ++ all) (g ∙ ap (λ t. t ++ formula_name f) e))
    ∙ append_assoc (before ++ word ++ formula_name f) all (10 ∷ [])
    ∙ append_assoc (before ++ word) (formula_name f) (all ++ 10 ∷ [])
    ∙ append_assoc before word (formula_name f ++ (all ++ 10 ∷ []))
    ∙ ap (λ t. before ++ (word ++ t)) (sym (parts_behind (formula_name f) names))
