-- Sets of labels and targets, as lines that are good.
use Rattle.std.proofs.Common.{◌≡◌, ℕ, ◌≤◌, true, List, [], ◌∷◌, ◌++◌, length, map, refl, arith}
use Rattle.std.specs.Prelude.{codes, Ok}
use Rattle.std.specs.List.{AllByRecursion, AllZip}
use Rattle.std.proofs.lemmas.List.{length-append, length-map}
use Rattle.file_cut.specs.Trees.{SpellsWithin, SpellsEntry}
use Rattle.file_cut.specs.declared.tree.Tree.{Tree}
use Rattle.file_cut.specs.declared.tree.Tree.TheVariants as tree
use Rattle.typing.specs.declared.value.Value.{Value}
use Rattle.typing.specs.Values.{parts}
use Rattle.typing.specs.Bounds.{are_any, sums_hold}
use Rattle.fitting.specs.declared.fitted.Fitted.{Fitted}
use Rattle.fitting.specs.declared.fitted.Fitted.TheVariants as fitted
use Rattle.fitting.specs.Fitting.{Fit, state_fit, label_fit, product_fit}
use Rattle.fitting.specs.Scaling.{scaled}
use Rattle.structure_writer.specs.Text.{in_parentheses, listed}
use Rattle.structure_writer.proofs.Marks.{IsPieceOf, IsTextOf, word-text, alone-piece, braces-text, tuple-text}
use Rattle.trial_texts.specs.declared.kind.TrialKind.TheVariants.{Lts}
use Rattle.trial_texts.specs.Structures.Structure.{moves}
use Rattle.trial_texts.specs.Text.{name_text, letter_text, move_text, structure_text}
use Rattle.trial_files.proofs.Names.{names_from}
use Rattle.trial_files.proofs.Accepts.{IsGood}
use Rattle.trial_files.proofs.Terms.{three_letters, term_of}
use Rattle.trial_files.proofs.Words.{label-reads, pair-reads, alone, Denote, set-reads, IsFine, state-fine, label-fine, tuple-fine, set-fine}
use Rattle.trial_files.proofs.Pieces.{letter-is, AreShort, listed-short}
use Rattle.trial_files.proofs.States.{pass_all, pass_two, state_reads, state_text, state_short, IsMove}

module _ (size : ℕ) (few : size ≤ 200000) where
  abbrev names : List (List ℕ)
  names = names_from 0 size

  abbrev states : Fit
  states = state_fit names

  -- ---- sets of labels and targets

  abbrev move_tree : ℕ × ℕ → Tree
  move_tree p = tree.Tuple (tree.Word (letter_text p.0) ∷ tree.Word (name_text p.1) ∷ [])

  abbrev move_fitted : ℕ × ℕ → Fitted
  move_fitted p = fitted.Tuple (fitted.Label p.0 ∷ fitted.State p.1 ∷ [])

  abbrev move_fit : Fit
  move_fit = product_fit (label_fit three_letters ∷ states ∷ [])

  move_piece : (p : ℕ × ℕ) → IsMove size p → IsTextOf 63 (move_text p) (move_tree p)
  move_piece p h =
      tuple-text 62 (letter_text p.0 ∷ name_text p.1 ∷ [])
      (tree.Word (letter_text p.0) ∷ tree.Word (name_text p.1) ∷ []) (omega arith)
      (word-text 62 (letter_text p.0) (letter-is p.0 h.0).0, (state_text size few 62 p.1 h.1, tt))

  move_reads : (p : ℕ × ℕ) → IsMove size p → move_fit (move_tree p) ≡ Ok (move_fitted p)
  move_reads p h =
      pair-reads (label_fit three_letters) states (tree.Word (letter_text p.0))
      (tree.Word (name_text p.1)) (fitted.Label p.0) (fitted.State p.1)
      (label-reads three_letters (letter_text p.0) p.0 (letter-is p.0 h.0).1)
      (state_reads size few p.1 h.1)

  move_pieces : (ps : List (ℕ × ℕ)) → AllByRecursion (IsMove size) ps
      → AllZip (IsPieceOf (SpellsEntry (SpellsWithin 63))) (map move_text ps)
      (map alone (map move_tree ps))
  move_pieces [] all = tt
  move_pieces (p ∷ ps) all = (
    alone-piece (SpellsWithin 63) (move_text p) (move_tree p) (move_piece p all.0),
    move_pieces ps all.1,
  )

  moves_read : (ps : List (ℕ × ℕ)) → AllByRecursion (IsMove size) ps
      → Denote move_fit (map move_tree ps) (map move_fitted ps)
  moves_read [] all = tt
  moves_read (p ∷ ps) all = (move_reads p all.0, moves_read ps all.1)

  moves_fine : (ps : List (ℕ × ℕ)) → AllByRecursion (IsFine 8) (map move_fitted ps)
  moves_fine [] = tt
  moves_fine (p ∷ ps) = (
    tuple-fine 8 (fitted.Label p.0 ∷ fitted.State p.1 ∷ [])
        (label-fine 8 p.0, (state-fine 8 p.1, tt)),
    moves_fine ps,
  )

  moves_short : (ps : List (ℕ × ℕ)) → AllByRecursion (IsMove size) ps → AreShort (map move_text ps)
  moves_short [] all = tt
  moves_short (p ∷ ps) all =
      let name = state_short size few p.1 all.0.1 in
      (short (name_text p.1) name, moves_short ps all.1)
    where
      short : (name : List ℕ) → length name ≤ 7
          → length (in_parentheses (listed (letter_text p.0 ∷ name ∷ []))) ≤ 12
      short name h = omega (
        arith,
        h,
        length-append ((codes ", " ++ name) ++ []) (codes ")"),
        length-append (codes ", " ++ name) [],
      )

  moves_pass : (l : ℕ) (v : Value) → sums_hold are_any l (term_of Lts) 0 v ≡ true
  moves_pass l v =
      pass_all (sums_hold are_any l (term_of Lts) 1)
      (λ w. pass_two (sums_hold are_any l (term_of Lts) 2) (sums_hold are_any l (term_of Lts) 3)
      (λ x. refl) (λ x. refl) (parts w)) (parts v)

  -- drawn moves are good
  pub moves-good : (ps : List (ℕ × ℕ)) → AllByRecursion (IsMove size) ps → length ps ≤ 3
      → IsGood (term_of Lts) names (structure_text (moves ps))
  moves-good ps all count =
      let us : List Tree = map move_tree ps in
      let xs : List Fitted = map move_fitted ps in
      let fine = set-fine 8 xs (moves_fine ps) in
      let texts : List (List ℕ) = map move_text ps in
      let short = listed-short texts (moves_short ps all) in
      record {
        tree = tree.Braces (map alone us);
        fitted = fitted.Set xs;
        piece = braces-text 63 texts (map alone us) (move_pieces ps all);
        short = omega (
          arith,
          short,
          length-map ps move_text,
          count,
          length-append (listed texts)
              (codes "}"),
        );
        read = set-reads move_fit us xs (moves_read ps all);
        over = fine.0;
        divides = fine.1;
        sums = λ l some d. moves_pass l (scaled l (term_of Lts) 0 (fitted.Set xs));
      }
