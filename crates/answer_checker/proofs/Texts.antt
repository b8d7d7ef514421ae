-- What is read of a text is fit to be judged.
use Rattle.std.proofs.Common.{◌≡◌, ℕ, suc, ◌+◌, ◌<◌, ◌≤◌, ◌^◌, ◌==◌, Bool, true, false, ◌&&◌, ◌||◌, List, [], ◌∷◌, length, map, Some, None, refl, sym, ap, ◌∙◌, subst, arith}
use Rattle.std.specs.Prelude.{Option, option_map, Result, Ok, Err, nat_lt, codes, if◌then◌else◌}
use Rattle.std.specs.List.{All, list_all}
use Rattle.std.specs.Fmt.{decimal}
use Rattle.std.proofs.lemmas.Bool.{and_parts, ltb-true}
use Rattle.std.proofs.lemmas.Option.{same_Some, none-some}
use Rattle.std.proofs.lemmas.List.{length-map}
use Rattle.std.proofs.lemmas.List.Elements.{All-nil, All-cons, All-head, All-tail, All-weaker}
use Rattle.file_cut.specs.Lines.{Numbered, lines_of}
use Rattle.file_cut.proofs.LineLaws.{lines_few}
use Rattle.formulas.specs.declared.formula.Formula.{Formula}
use Rattle.formula_text.specs.Numbers.{is_same, number_below}
use Rattle.weights.specs.Numerals.{number_of}
use Rattle.formula_text.specs.Answers.{Answer, Defines, Block, Separates, Equivalent, parts_of, letter_f, cited, is_word, block_of, separates_of, equivalent_of, defined_by, body_of, formula_name, answer_of, count_with, with_answer, answered, tells_no_pair, taken, taken_from, certificate_of, formulas_of}
use Rattle.formula_text.specs.Reading.{blocks_of, block_seen, IsTextOf, GivesText}
use Rattle.formula_text.specs.declared.answer.AnswerText.{AnswerText}
use Rattle.formula_text.specs.declared.answer.BlockLine.{BlockLine}
use Rattle.answer_checker.specs.Verdicts.{IsReadable}
use Rattle.answer_checker.proofs.LeastLines.{one_line_each}

-- the answers that were read
pub text_given :
    (t : AnswerText) (read : Result (List (ℕ × Answer)) ℕ) → GivesText t read →
    (answers : List (ℕ × Answer)) × (read ≡ Ok answers) × IsTextOf t answers
text_given t (Ok answers) h = (answers, refl, h)
text_given t (Err bad) h = absurd h

-- the block of an answer cites a formula below k
abbrev CitesBlock : ℕ → Option Answer → Type 0
CitesBlock k None = Unit {0}
CitesBlock k (Some (Defines f)) = Unit {0}
CitesBlock k (Some (Block i names)) = i < k
CitesBlock k (Some (Separates x y i)) = Unit {0}
CitesBlock k (Some (Equivalent x y)) = Unit {0}

-- a formula that is cited comes earlier
cited_below : (k : ℕ) (part : List ℕ) (i : ℕ) → cited k part ≡ Some i → i < k
cited_below k [] i e = absurd (none-some i e)
cited_below k (b ∷ digits) i e = by (b == letter_f) e
  where
    at_number :
        (o : Bool) (n : ℕ) → o ≡ (is_same (decimal n) digits && nat_lt n k) →
        (if o then Some n else None) ≡ Some i → i < k
    at_number true n is e' =
        subst (λ x. x < k) (same_Some n i e')
        (ltb-true n k (and_parts (is_same (decimal n) digits) (nat_lt n k) (sym is)).1)
    at_number false n is e' = absurd (none-some i e')

    by : (o : Bool) → (if o then number_below k digits else None) ≡ Some i → i < k
    by true e' =
        at_number (is_same (decimal (number_of digits)) digits && nat_lt (number_of digits) k)
        (number_of digits) refl e'
    by false e' = absurd (none-some i e')

-- the block of a line
block_cites : (k : ℕ) (parts : List (List ℕ)) → CitesBlock k (block_of k parts)
block_cites k [] = tt
block_cites k (f ∷ []) = tt
block_cites k (f ∷ name ∷ names) = by (list_all is_word (name ∷ names))
  where
    found : (o : Option ℕ) → cited k f ≡ o
        → CitesBlock k (option_map (λ i. Block i (name ∷ names)) o)
    found None e = tt
    found (Some i) e = cited_below k f i e

    by : (o : Bool) →
        CitesBlock k (if o then option_map (λ i. Block i (name ∷ names)) (cited k f) else None)
    by true = found (cited k f) refl
    by false = tt

-- other lines give no block
separates_cites : (k : ℕ) (parts : List (List ℕ)) → CitesBlock k (separates_of k parts)
separates_cites k [] = tt
separates_cites k (x ∷ []) = tt
separates_cites k (x ∷ y ∷ []) = tt
separates_cites k (x ∷ y ∷ f ∷ z ∷ rest) = tt
separates_cites k (x ∷ y ∷ f ∷ []) = by (is_word x && is_word y)
  where
    found : (o : Option ℕ) → CitesBlock k (option_map (Separates x y) o)
    found None = tt
    found (Some i) = tt

    by : (o : Bool) → CitesBlock k (if o then option_map (Separates x y) (cited k f) else None)
    by true = found (cited k f)
    by false = tt

equivalent_cites : (k : ℕ) (parts : List (List ℕ)) → CitesBlock k (equivalent_of parts)
equivalent_cites k [] = tt
equivalent_cites k (x ∷ []) = tt
equivalent_cites k (x ∷ y ∷ z ∷ rest) = tt
equivalent_cites k (x ∷ y ∷ []) = by (is_word x && is_word y)
  where
    by : (o : Bool) → CitesBlock k (if o then Some (Equivalent x y) else None)
    by true = tt
    by false = tt

defined_cites : (k : ℕ) (name : List ℕ) (parts : List (List ℕ))
    → CitesBlock k (defined_by k name parts)
defined_cites k name [] = tt
defined_cites k name (sign ∷ body) = by (is_same name (formula_name k) && is_same sign (codes "="))
  where
    found : (o : Option Formula) → CitesBlock k (option_map Defines o)
    found None = tt
    found (Some f) = tt

    by : (o : Bool) → CitesBlock k (if o then option_map Defines (body_of k body) else None)
    by true = found (body_of k body)
    by false = tt

-- what a line says
answer_cites : (k : ℕ) (parts : List (List ℕ)) → CitesBlock k (answer_of k parts)
answer_cites k [] = tt
answer_cites k (w ∷ rest) =
    by (is_same w (codes "block")) (is_same w (codes "separates")) (is_same w (codes "equivalent"))
  where
    by : (a b d : Bool) →
        CitesBlock k (if a then block_of k rest
        else if b then separates_of k rest
        else if d then equivalent_of rest else defined_by k w rest)
    by true b d = block_cites k rest
    by false true d = separates_cites k rest
    by false false true = equivalent_cites k rest
    by false false false = defined_cites k w rest

-- the same where lines of pairs are taken or not
taken_cites : (k : ℕ) (pairs : Bool) (o : Option Answer) → CitesBlock k o
    → CitesBlock k (taken pairs o)
taken_cites k pairs None h = tt
taken_cites k pairs (Some a) h = by (pairs || tells_no_pair a)
  where
    by : (o : Bool) → CitesBlock k (if o then Some a else None)
    by true = h
    by false = tt

-- there are at most n blocks, and each cites one of k formulas or one that is read
record AreSound (n k : ℕ) (answers : List (ℕ × Answer)) : Type 0 where
  few : length (blocks_of answers) ≤ n
  cited : All (λ b. b.1 < k + length (formulas_of answers)) (blocks_of answers)

-- one answer more
sound_more :
    (n k line : ℕ) (a : Answer) (more : List (ℕ × Answer)) → CitesBlock k (Some a) →
    AreSound n (count_with k a) more → AreSound (suc n) k ((line, a) ∷ more)
sound_more n k line (Defines f) more h s = record {
  few = omega (arith, s.few);
  cited =
      All-weaker (λ b. b.1 < k + 1 + length (formulas_of more))
      (λ b. b.1 < k + suc (length (formulas_of more))) (λ b l. omega (arith, l)) (blocks_of more)
      s.cited;
}
sound_more n k line (Block f names) more h s = record {
  few = omega (arith, s.few);
  cited =
      All-cons (λ b. b.1 < k + length (formulas_of more)) (line, f, names) (blocks_of more)
      (omega (arith, h)) s.cited;
}
sound_more n k line (Separates x y f) more h s =
    record { few = omega (arith, s.few); cited = s.cited }
sound_more n k line (Equivalent x y) more h s =
    record { few = omega (arith, s.few); cited = s.cited }

-- an answer with what is read of later lines
sound_with :
    (n k line : ℕ) (a : Answer) (later : Result (List (ℕ × Answer)) ℕ)
    (answers : List (ℕ × Answer)) → with_answer line a later ≡ Ok answers → CitesBlock k (Some a) →
    ((more : List (ℕ × Answer)) → later ≡ Ok more → AreSound n (count_with k a) more) →
    AreSound (suc n) k answers
sound_with n k line a (Ok more) answers e h ih =
    let is : (line, a) ∷ more ≡ answers = cc in
    subst (AreSound (suc n) k) is (sound_more n k line a more h (ih more refl))
sound_with n k line a (Err bad) answers e h ih = cc

-- a line with later ones
sound_line :
    (n k line : ℕ) (read : Answer → Result (List (ℕ × Answer)) ℕ) (o : Option Answer)
    (answers : List (ℕ × Answer)) → answered line read o ≡ Ok answers → CitesBlock k o →
    ((a : Answer) (more : List (ℕ × Answer)) → read a ≡ Ok more → AreSound n (count_with k a) more)
    →
    AreSound (suc n) k answers
sound_line n k line read None answers e h ih = cc
sound_line n k line read (Some a) answers e h ih =
    sound_with n k line a (read a) answers e h (ih a)

-- all lines
sound_from :
    (pairs : Bool) (k : ℕ) (lines : List Numbered) (answers : List (ℕ × Answer)) →
    taken_from pairs k lines ≡ Ok answers → AreSound (length lines) k answers
sound_from pairs k [] answers e =
    let is : [] ≡ answers = cc in
    subst (AreSound 0 k) is
    (record { few = omega arith; cited = All-nil (λ (b : ℕ × ℕ × List (List ℕ)). b.1 < k + 0) })
sound_from pairs k (line ∷ lines) answers e =
    sound_line (length lines) k line.number (λ a. taken_from pairs (count_with k a) lines)
    (taken pairs (answer_of k (parts_of line.text))) answers e
    (taken_cites k pairs (answer_of k (parts_of line.text)) (answer_cites k (parts_of line.text)))
    (λ a more e'. sound_from pairs (count_with k a) lines more e')

-- what is said of the blocks that are seen
seen_cited :
    (n : ℕ) (blocks : List BlockLine) → All (λ b. b.1 < n) (map block_seen blocks) →
    All (λ (b : BlockLine). b.formula < n) blocks
seen_cited n [] all = All-nil (λ (b : BlockLine). b.formula < n)
seen_cited n (b ∷ blocks) all =
    All-cons (λ (b : BlockLine). b.formula < n) b blocks
    (All-head (λ (s : ℕ × ℕ × List (List ℕ)). s.1 < n) (block_seen b) (map block_seen blocks) all)
    (seen_cited n blocks
    (All-tail (λ (s : ℕ × ℕ × List (List ℕ)). s.1 < n) (block_seen b) (map block_seen blocks) all))

-- what is read of a text can be judged
pub readable :
    (bytes : List ℕ) (t : AnswerText) (answers : List (ℕ × Answer)) → length bytes ≤ 2 ^ 26 →
    certificate_of bytes ≡ Ok answers → IsTextOf t answers → IsReadable t
readable bytes t answers short read is =
    let sound = sound_from false 0 (lines_of bytes) answers read in
    record {
      few =
          omega (
            arith,
            sound.few,
            lines_few 1 bytes,
            length-map t.blocks.items block_seen,
            ap length is.blocks,
            short,
          );
      cited =
          seen_cited (length t.dag) t.blocks.items
          (subst (All (λ b. b.1 < length t.dag)) (sym is.blocks)
          (All-weaker (λ b. b.1 < 0 + length (formulas_of answers)) (λ b. b.1 < length t.dag)
          (λ b l. omega (arith, l, ap length is.formulas)) (blocks_of answers) sound.cited));
      one_each = ap length is.lines ∙ one_line_each answers ∙ sym (ap length is.formulas);
    }
