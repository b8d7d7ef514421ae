-- One turn of a loop over items.
use Rattle.std.proofs.Common.{◌≡◌, ℕ, ◌<◌, List, [], ◌∷◌, ◌++◌, length, Option, Some, None, refl, sym, ap, ◌∙◌, append_assoc, arith}
use Rattle.std.specs.Prelude.{option_and_then}
use Rattle.file_cut.specs.Reading.{Reads, Turn, another, end, wrong, made_of, in_parens, in_braces, behind, turned, after_item, items_at, tree_at, Gives}
use Rattle.file_cut.specs.Trees.{SpellsWithin}
use Rattle.file_cut.specs.declared.tree.Tree.{Tree}
use Rattle.file_cut.proofs.TreeLaws.{none-spelled}
use Rattle.std.specs.Prelude.{Result, Err}
use Rattle.file_cut.specs.declared.fault.CutFault.{CutFault}
use Rattle.file_cut.specs.declared.fault.CutFault.TheVariants.{Grammar, NoMemory}
use Rattle.file_cut.specs.declared.mark.Mark.{Mark}
use Rattle.file_cut.specs.declared.mark.Mark.TheVariants.{Comma, Close, CloseBrace}
use Rattle.file_cut.proofs.ItemLaws.{IsShorter, items_at-step}

-- what stands before items that stand behind others
behind-again : {A : Type 0} (done : List A) (x : A) (r : Option (List A × List Mark))
    → behind (done ++ x ∷ []) r ≡ behind done (made_of (λ xs. x ∷ xs) r)
behind-again done x None = refl
behind-again done x (Some (xs, rest)) = ap (λ ys. Some (ys, rest)) (append_assoc done (x ∷ []) xs)

module _ {A : Type 0} (turn : Mark → Turn) (item : Reads A) (shorter : IsShorter item)
    (whole left : List Mark) (done : List A)
    (kept : behind done (items_at turn item left) ≡ items_at turn item whole) where
  step : (r : Option (A × List Mark)) → item left ≡ r
      → items_at turn item whole ≡ behind done
      (option_and_then (λ p. after_item turn p.0 (items_at turn item) p.1) r)
  step r e = sym kept ∙ ap (behind done)
      (items_at-step turn item shorter left
      ∙ ap (option_and_then (λ p. after_item turn p.0 (items_at turn item) p.1)) e)

  -- where an item is not read there is no list
  pub turn-fails : item left ≡ None → items_at turn item whole ≡ None
  turn-fails e = step None e

  module _ (x : A) (rest : List Mark) (read : item left ≡ Some (x, rest)) where
    -- where no mark is left there is no list
    pub turn-stops : rest ≡ [] → items_at turn item whole ≡ None
    turn-stops e = step (Some (x, rest)) read
        ∙ ap (λ r. behind done (after_item turn x (items_at turn item) r)) e

    module _ (mark : Mark) (others : List Mark) (is : rest ≡ mark ∷ others) where
      turned_by : (u : Turn) → turn mark ≡ u
          → items_at turn item whole ≡ behind done (turned x (items_at turn item) others u)
      turned_by u e = step (Some (x, rest)) read
          ∙ ap (λ r. behind done (after_item turn x (items_at turn item) r)) is
          ∙ ap (λ v. behind done (turned x (items_at turn item) others v)) e

      -- where a wrong mark stands there is no list
      pub turn-errs : turn mark ≡ wrong → items_at turn item whole ≡ None
      turn-errs e = turned_by wrong e

      -- where the list ends the items are those that were read
      pub turn-closes : turn mark ≡ end → items_at turn item whole ≡ Some (done ++ x ∷ [], others)
      turn-closes e = turned_by end e

      -- where another item follows the list goes on
      pub turn-goes : turn mark ≡ another
          → behind (done ++ x ∷ []) (items_at turn item others) ≡ items_at turn item whole
      turn-goes e = behind-again done x (items_at turn item others) ∙ sym (turned_by another e)

      -- a turn leaves fewer marks
      pub turn-shorter : length others < length left
      turn-shorter = let less : length rest < length left = shorter left x rest read in
          omega (arith, ap length is)

-- neither a comma nor the bracket
pub wrong_in_parens : (m : Mark) → (m ≡ Comma → ⊥) → (m ≡ Close → ⊥) → in_parens m ≡ wrong
wrong_in_parens Comma a b = absurd (a refl)
wrong_in_parens Close a b = absurd (b refl)
wrong_in_parens _ a b = refl

-- what is neither a comma nor the end is wrong in braces
pub wrong_in_braces : (m : Mark) → (m ≡ Comma → ⊥) → (m ≡ CloseBrace → ⊥) → in_braces m ≡ wrong
wrong_in_braces Comma a b = absurd (a refl)
wrong_in_braces CloseBrace a b = absurd (b refl)
wrong_in_braces _ a b = refl

-- what failed inside fails outside, for the same reason
pub gives-err : {A B : Type 0} (e : CutFault) (r : Option (A × List Mark))
    (q : Option (B × List Mark)) → (r ≡ None → q ≡ None) → Gives {A = A} (Err e) r
    → Gives {A = B} (Err e) q
gives-err Grammar r q fails given = fails given
gives-err NoMemory r q fails given = tt

-- a fault of grammar says that nothing is spelled
pub err-spelled : (e : CutFault) (n : ℕ) (ts : List Mark) → Gives {A = Tree} (Err e) (tree_at n ts)
    → ◌≡◌ {A = Result Tree CutFault} (Err e) (Err Grammar) → (t : Tree) → SpellsWithin n ts t → ⊥
err-spelled Grammar n ts given is = none-spelled n ts given
err-spelled NoMemory n ts given is = cc
