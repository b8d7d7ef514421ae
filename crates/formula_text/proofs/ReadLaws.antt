-- What is read of the lines so far.
use Rattle.std.proofs.Common.{◌≡◌, ℕ, suc, ◌+◌, List, [], ◌∷◌, ◌++◌, ◌≤◌, ◌^◌, length, map, append_assoc, append-nil, Some, None, refl, ap, sym, ◌∙◌, subst, arith}
use Rattle.std.specs.Prelude.{Bool, Result, Ok, Err}
use Rattle.std.proofs.lemmas.List.{length-append}
use Rattle.file_cut.specs.Lines.{Numbered, numbered_line}
use Rattle.formula_text.specs.Answers.{Answer, Defines, Block, Separates, Equivalent, parts_of, answer_of, count_with, with_answer, answered, taken, taken_from, with_formula, formulas_of}
use Rattle.formula_text.specs.declared.answer.AnswerText.{AnswerText}
use Rattle.formula_text.specs.declared.fault.DagFault.{DagFault}
use Rattle.formula_text.specs.declared.fault.DagFault.TheVariants.{BadLine, NoMemory}
use Rattle.formula_text.specs.Reading.{with_line, lines_of_formulas, with_block, blocks_of, pair_or, pair_of, block_seen, IsTextOf, GivesText, TellsBad, first_pair, IsPut, IsBadHere}

-- ---- answers behind answers

formulas_behind :
    (xs ys : List (ℕ × Answer)) → formulas_of (xs ++ ys) ≡ formulas_of xs ++ formulas_of ys
formulas_behind [] ys = refl
formulas_behind (x ∷ xs) ys = ap (with_formula x.1) (formulas_behind xs ys) ∙ by x.1
  where
    by :
        (a : Answer) →
        with_formula a (formulas_of xs ++ formulas_of ys)
        ≡ with_formula a (formulas_of xs) ++ formulas_of ys
    by (Defines f) = refl
    by (Block f names) = refl
    by (Separates x y f) = refl
    by (Equivalent x y) = refl

lines_behind :
    (xs ys : List (ℕ × Answer)) →
    lines_of_formulas (xs ++ ys) ≡ lines_of_formulas xs ++ lines_of_formulas ys
lines_behind [] ys = refl
lines_behind (x ∷ xs) ys = ap (with_line x.0 x.1) (lines_behind xs ys) ∙ by x.0 x.1
  where
    by :
        (n : ℕ) (a : Answer) →
        with_line n a (lines_of_formulas xs ++ lines_of_formulas ys)
        ≡ with_line n a (lines_of_formulas xs) ++ lines_of_formulas ys
    by n (Defines f) = refl
    by n (Block f names) = refl
    by n (Separates x y f) = refl
    by n (Equivalent x y) = refl

blocks_behind :
    (xs ys : List (ℕ × Answer)) → blocks_of (xs ++ ys) ≡ blocks_of xs ++ blocks_of ys
blocks_behind [] ys = refl
blocks_behind (x ∷ xs) ys = ap (with_block x.0 x.1) (blocks_behind xs ys) ∙ by x.0 x.1
  where
    by :
        (n : ℕ) (a : Answer) →
        with_block n a (blocks_of xs ++ blocks_of ys)
        ≡ with_block n a (blocks_of xs) ++ blocks_of ys
    by n (Defines f) = refl
    by n (Block f names) = refl
    by n (Separates x y f) = refl
    by n (Equivalent x y) = refl

pair_behind :
    (xs ys : List (ℕ × Answer)) → pair_of (xs ++ ys) ≡ first_pair (pair_of xs) (pair_of ys)
pair_behind [] ys = refl
pair_behind (x ∷ xs) ys = ap (pair_or x.0 x.1) (pair_behind xs ys) ∙ by x.0 x.1
  where
    by :
        (n : ℕ) (a : Answer) →
        pair_or n a (first_pair (pair_of xs) (pair_of ys))
        ≡ first_pair (pair_or n a (pair_of xs)) (pair_of ys)
    by n (Defines f) = refl
    by n (Block f names) = refl
    by n (Separates x y f) = refl
    by n (Equivalent x y) = refl

-- what is put last belongs to one answer more
text_more :
    (old new : AnswerText) (done : List (ℕ × Answer)) (n : ℕ) (a : Answer) →
    IsTextOf old done → IsPut n a old new → IsTextOf new (done ++ (n, a) ∷ [])
text_more old new done n a is put =
    let last : List (ℕ × Answer) = (n, a) ∷ [] in
    record {
      formulas =
          put.formulas
          ∙ ap (λ fs. fs ++ formulas_of last) is.formulas
          ∙ sym (formulas_behind done last);
      lines =
          put.lines
          ∙ ap (λ ns. ns ++ lines_of_formulas last) is.lines
          ∙ sym (lines_behind done last);
      blocks =
          put.blocks
          ∙ ap (λ bs. bs ++ blocks_of last) is.blocks
          ∙ sym (blocks_behind done last);
      pair =
          put.pair
          ∙ ap (λ p. first_pair p (pair_of last)) is.pair
          ∙ sym (pair_behind done last);
    }

-- ---- the answers so far, before those of later lines

-- answers before others
abbrev pub prefixed : List (ℕ × Answer) → Result (List (ℕ × Answer)) ℕ
    → Result (List (ℕ × Answer)) ℕ
prefixed done (Ok answers) = Ok (done ++ answers)
prefixed done (Err bad) = Err bad

one_more :
    (done : List (ℕ × Answer)) (n : ℕ) (a : Answer) (later : Result (List (ℕ × Answer)) ℕ) →
    prefixed done (with_answer n a later) ≡ prefixed (done ++ (n, a) ∷ []) later
one_more done n a (Ok answers) = ap Ok (sym (append_assoc done ((n, a) ∷ []) answers))
one_more done n a (Err bad) = refl

-- nothing in front changes nothing
pub none_before : (read : Result (List (ℕ × Answer)) ℕ) → read ≡ prefixed [] read
none_before (Ok answers) = refl
none_before (Err bad) = refl

-- the text has what the lines before those that are left say
pub record IsReadSoFar (pairs : Bool) (found left : List Numbered) (t : AnswerText) : Type 0 where
  pub done : List (ℕ × Answer)
  pub is : IsTextOf t done
  pub read : taken_from pairs 0 found ≡ prefixed done (taken_from pairs (length t.dag) left)

-- nothing is read at first
pub so_far-none :
    (pairs : Bool) (found : List Numbered) (t : AnswerText) → t.dag ≡ [] → t.lines.items ≡ [] →
    t.blocks.items ≡ [] → t.pair ≡ None → IsReadSoFar pairs found found t
so_far-none pairs found t dag lines blocks pair =
    record {
      done = [];
      is =
          record {
            formulas = dag;
            lines = lines;
            blocks = ap (map block_seen) blocks;
            pair = pair;
          };
      read =
          none_before (taken_from pairs 0 found)
          ∙ ap (λ fs. prefixed [] (taken_from pairs (length fs) found)) (sym dag);
    }

-- how many formulas there are behind an answer
count_more :
    (old new : AnswerText) (n : ℕ) (a : Answer) → IsPut n a old new →
    count_with (length old.dag) a ≡ length new.dag
count_more old new n a put = by a put.formulas
  where
    by :
        (a : Answer) → new.dag ≡ old.dag ++ with_formula a [] →
        count_with (length old.dag) a ≡ length new.dag
    by (Defines f) e = sym (length-append old.dag (f ∷ [])) ∙ ap length (sym e)
    by (Block f names) e = ap length (sym (append-nil old.dag) ∙ sym e)
    by (Separates x y f) e = ap length (sym (append-nil old.dag) ∙ sym e)
    by (Equivalent x y) e = ap length (sym (append-nil old.dag) ∙ sym e)

-- one line more
pub so_far-more :
    (pairs : Bool) (found rest : List Numbered) (n : ℕ) (text : List ℕ) (a : Answer)
    (old new : AnswerText) →
    IsReadSoFar pairs found (numbered_line n text ∷ rest) old →
    taken pairs (answer_of (length old.dag) (parts_of text)) ≡ Some a → IsPut n a old new →
    IsReadSoFar pairs found rest new
so_far-more pairs found rest n text a old new h said put =
    record {
      done = h.done ++ (n, a) ∷ [];
      is = text_more old new h.done n a h.is put;
      read =
          h.read
          ∙ ap (λ o. prefixed h.done
          (answered n (λ b. taken_from pairs (count_with (length old.dag) b) rest) o)) said
          ∙ one_more h.done n a (taken_from pairs (count_with (length old.dag) a) rest)
          ∙ ap (λ k. prefixed (h.done ++ (n, a) ∷ []) (taken_from pairs k rest))
          (count_more old new n a put);
    }

-- all lines are read
pub so_far-all :
    (pairs : Bool) (found : List Numbered) (t : AnswerText) → IsReadSoFar pairs found [] t →
    GivesText t (taken_from pairs 0 found)
so_far-all pairs found t h =
    subst (GivesText t) (sym h.read) (subst (IsTextOf t) (sym (append-nil h.done)) h.is)

-- a line says nothing
pub so_far-bad :
    (pairs : Bool) (found rest : List Numbered) (n : ℕ) (text : List ℕ) (t : AnswerText)
    (fault : DagFault) →
    IsReadSoFar pairs found (numbered_line n text ∷ rest) t →
    IsBadHere fault n (taken pairs (answer_of (length t.dag) (parts_of text))) →
    TellsBad fault (taken_from pairs 0 found)
so_far-bad pairs found rest n text t (BadLine m) h bad =
    h.read
    ∙ ap (λ o. prefixed h.done
    (answered n (λ b. taken_from pairs (count_with (length t.dag) b) rest) o)) bad.1
    ∙ ap Err (sym bad.0)
so_far-bad pairs found rest n text t NoMemory h bad = tt

-- a line defines one formula at most
few_more :
    (old new : AnswerText) (n : ℕ) (a : Answer) → IsPut n a old new →
    length new.dag ≤ length old.dag + 1
few_more old new n a put = by a (count_more old new n a put)
  where
    by :
        (a : Answer) → count_with (length old.dag) a ≡ length new.dag →
        length new.dag ≤ length old.dag + 1
    by (Defines f) e = omega arith
    by (Block f names) e = omega arith
    by (Separates x y f) e = omega arith
    by (Equivalent x y) e = omega arith

-- the text and the lines that are left after one line more
pub record IsAfterLine
    (pairs : Bool) (found left rest : List Numbered) (new : AnswerText) : Type 0 where
  pub read : IsReadSoFar pairs found rest new
  pub room : length new.dag + length rest ≤ 2 ^ 26

-- the answer after one more line is that of the lines so far
pub after_line :
    (pairs : Bool) (found left rest : List Numbered) (n : ℕ) (text : List ℕ) (a : Answer)
    (old new : AnswerText) (k : ℕ) →
    IsReadSoFar pairs found left old → length old.dag + length left ≤ 2 ^ 26 →
    left ≡ numbered_line n text ∷ rest → k ≡ length old.dag →
    taken pairs (answer_of k (parts_of text)) ≡ Some a → IsPut n a old new →
    IsAfterLine pairs found left rest new
after_line pairs found left rest n text a old new k h room first count said put =
    let long : length left ≡ suc (length rest) = ap length first in
    record {
      read =
          so_far-more pairs found rest n text a old new
          (subst (λ ls. IsReadSoFar pairs found ls old) first h)
          (subst (λ m. taken pairs (answer_of m (parts_of text)) ≡ Some a) count said) put;
      room = omega (arith, few_more old new n a put);
    }
