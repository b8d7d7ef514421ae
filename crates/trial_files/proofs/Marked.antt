-- A mark and what stands behind it, as lines that are good.
use Rattle.std.proofs.Common.{◌≡◌, ℕ, ◌-◌, ◌<◌, ◌≤◌, true, List, [], ◌∷◌, ◌++◌, length, map, Some, refl, ap, ◌∙◌, arith}
use Rattle.std.specs.Prelude.{codes, decimal, Ok, pos}
use Rattle.std.specs.List.{AllByRecursion, AllZip}
use Rattle.std.proofs.lemmas.List.{length-append, length-map}
use Rattle.file_cut.specs.Bytes.{IsName}
use Rattle.file_cut.specs.Trees.{SpellsWithin, SpellsEntry, entry}
use Rattle.file_cut.specs.declared.tree.Tree.{Tree}
use Rattle.file_cut.specs.declared.tree.Tree.TheVariants as tree
use Rattle.file_cut.specs.declared.tree.Tree.TheViews as trees
use Rattle.file_cut.specs.declared.tree.Entry.{Entry}
use Rattle.functor_terms.specs.declared.node.Node.TheVariants.{Distribution, Integers}
use Rattle.functor_terms.specs.declared.node.LabelSet.TheVariants.{Below}
use Rattle.weights.specs.Numerals.{numeral}
use Rattle.typing.specs.declared.value.Value.{Value}
use Rattle.typing.specs.Values.{parts, entries}
use Rattle.typing.specs.Bounds.{are_any, sums_hold}
use Rattle.fitting.specs.declared.fitted.Fitted.{Fitted}
use Rattle.fitting.specs.declared.fitted.Fitted.TheVariants as fitted
use Rattle.fitting.specs.declared.fitted.Weight.{Weight}
use Rattle.fitting.specs.declared.fitted.Weight.TheVariants as weight
use Rattle.typing.specs.declared.kind.TypeKind.TheVariants.{WrongShape}
use Rattle.fitting.specs.Levels.{entries_in as tree_entries_in}
use Rattle.fitting.specs.Fitting.{Fit, state_fit, label_fit, product_fit, needs, power_of, power_fit, weights_fit}
use Rattle.fitting.specs.Scaling.{scaled}
use Rattle.structure_writer.specs.Text.{in_braces, in_parentheses, listed}
use Rattle.structure_writer.proofs.Marks.{IsPieceOf, IsTextOf, word-text, paired-piece, braces-text, tuple-text}
use Rattle.trial_texts.specs.declared.kind.TrialKind.TheVariants.{Chain, Sums, Dfa}
use Rattle.trial_texts.specs.Structures.Structure.{chances, sums, ends}
use Rattle.trial_texts.specs.Text.{name_text, letter_text, eighths_text, weight_text, chance_text, sum_text, end_text, structure_text}
use Rattle.trial_files.proofs.Names.{names_from}
use Rattle.trial_files.proofs.Accepts.{IsGood}
use Rattle.trial_files.proofs.Terms.{two_letters, term_of}
use Rattle.trial_files.proofs.Words.{label-reads, pair-reads, weighted, DenotesWeight, weights-read, distribution-weighs, integers-weigh, IsFine, state-fine, label-fine, tuple-fine, IsFineEntry, weights-fine}
use Rattle.trial_files.proofs.Powers.{power-reads}
use Rattle.trial_files.proofs.ChanceSums.{chance-sums}
use Rattle.trial_files.proofs.Pieces.{end-is, mark-is, weight-is, AreEighths, AreShort, listed-short}
use Rattle.trial_files.proofs.States.{pass_all, pass_entries, pass_two, state_reads, state_text, state_short, IsSum}

module _ (size : ℕ) (few : size ≤ 200000) where
  abbrev names : List (List ℕ)
  names = names_from 0 size

  abbrev states : Fit
  states = state_fit names

  -- ---- a mark, and what stands behind it

  -- the text behind a mark, what it spells, and what that denotes at a fit
  record IsInner (g : Fit) (text : List ℕ) (u : Tree) (x : Fitted) : Type 0 where
    pub piece : IsTextOf 63 text u
    pub short : length text ≤ 44
    pub read : g u ≡ Ok x
    pub fine : IsFine 8 x

  abbrev marked_text : ℕ → List ℕ → List ℕ
  marked_text m text = in_parentheses (listed (decimal m ∷ text ∷ []))

  abbrev marked_tree : ℕ → Tree → Tree
  marked_tree m u = tree.Tuple (tree.Word (decimal m) ∷ u ∷ [])

  abbrev marked_fitted : ℕ → Fitted → Fitted
  marked_fitted m x = fitted.Tuple (fitted.Label m ∷ x ∷ [])

  marked_piece : (g : Fit) (m : ℕ) → m < 2 → (text : List ℕ) (u : Tree) (x : Fitted)
      → IsInner g text u x → IsTextOf 64 (marked_text m text) (marked_tree m u)
  marked_piece g m h text u x is =
      tuple-text 63 (decimal m ∷ text ∷ []) (tree.Word (decimal m) ∷ u ∷ []) (omega arith)
      (word-text 63 (decimal m) (mark-is m h).name, (is.piece, tt))

  marked_reads : (g : Fit) (m : ℕ) → m < 2 → (text : List ℕ) (u : Tree) (x : Fitted)
      → IsInner g text u x
      → product_fit (label_fit (Below 2) ∷ g ∷ []) (marked_tree m u) ≡ Ok (marked_fitted m x)
  marked_reads g m h text u x is =
      pair-reads (label_fit (Below 2)) g (tree.Word (decimal m)) u (fitted.Label m) x
      (label-reads (Below 2) (decimal m) m (mark-is m h).read) is.read

  marked_short : (g : Fit) (m : ℕ) → m < 2 → (text : List ℕ) (u : Tree) (x : Fitted)
      → IsInner g text u x → length (marked_text m text) ≤ 50
  marked_short g m h text u x is = by (decimal m) (mark-is m h).short
    where
      by : (mark : List ℕ) → length mark ≤ 1
          → length (in_parentheses (listed (mark ∷ text ∷ []))) ≤ 50
      by mark one =
          let inner : List ℕ = (codes ", " ++ text) ++ [] in
          omega (
            arith,
            one,
            is.short,
            length-append (mark ++ inner) (codes ")"),
            length-append mark inner,
            length-append (codes ", " ++ text) [],
          )

  marked_fine : (g : Fit) (m : ℕ) (text : List ℕ) (u : Tree) (x : Fitted) → IsInner g text u x
      → IsFine 8 (marked_fitted m x)
  marked_fine g m text u x is = tuple-fine 8 (fitted.Label m ∷ x ∷ [])
      (label-fine 8 m, (is.fine, tt))

  -- ---- a mark, and targets with weights

  abbrev sum_pair : ℕ × ℕ → Tree × List ℕ
  sum_pair p = (tree.Word (name_text p.0), weight_text p.1)

  sum_pieces : (ps : List (ℕ × ℕ)) → AllByRecursion (IsSum size) ps
      → AllZip (IsPieceOf (SpellsEntry (SpellsWithin 62))) (map sum_text ps)
      (map weighted (map sum_pair ps))
  sum_pieces [] all = tt
  sum_pieces (p ∷ ps) all = (
    paired-piece (SpellsWithin 62) (name_text p.0) (weight_text p.1) (tree.Word (name_text p.0))
        (tree.Word (weight_text p.1)) (state_text size few 62 p.0 all.0.0)
        (word-text 62 (weight_text p.1) (weight-is p.1 all.0.1).name),
    sum_pieces ps all.1,
  )

  abbrev sum_entries : (ps : List (ℕ × ℕ)) → AllByRecursion (IsSum size) ps
      → List (Fitted × Weight)
  sum_entries [] all = []
  sum_entries (p ∷ ps) all =
      (fitted.State p.0, weight.Fraction (weight-is p.1 all.0.1).fraction) ∷ sum_entries ps all.1

  sums_read : (ps : List (ℕ × ℕ)) (all : AllByRecursion (IsSum size) ps)
      → AllZip (DenotesWeight Integers states) (map sum_pair ps) (sum_entries ps all)
  sums_read [] all = tt
  sums_read (p ∷ ps) all =
      ((state_reads size few p.0 all.0.0, (weight-is p.1 all.0.1).read), sums_read ps all.1)

  sums_fine : (ps : List (ℕ × ℕ)) (all : AllByRecursion (IsSum size) ps)
      → AllByRecursion (IsFineEntry 8) (sum_entries ps all)
  sums_fine [] all = tt
  sums_fine (p ∷ ps) all =
      ((state-fine 8 p.0, refl, ((weight-is p.1 all.0.1).divides, tt)), sums_fine ps all.1)

  sums_short : (ps : List (ℕ × ℕ)) → AllByRecursion (IsSum size) ps → AreShort (map sum_text ps)
  sums_short [] all = tt
  sums_short (p ∷ ps) all = (
    short (name_text p.0) (weight_text p.1) (state_short size few p.0 all.0.0)
        (weight-is p.1 all.0.1).short,
    sums_short ps all.1,
  )
    where
      short : (name text : List ℕ) → length name ≤ 7 → length text ≤ 2
          → length (name ++ (codes ": " ++ text)) ≤ 12
      short name text h k = omega (arith, h, k, length-append name (codes ": " ++ text))

  abbrev sums_fit : Fit
  sums_fit = weights_fit Integers (states ∷ [])

  sums_inner : (ps : List (ℕ × ℕ)) (all : AllByRecursion (IsSum size) ps) → length ps ≤ 3
      → IsInner sums_fit (in_braces (listed (map sum_text ps)))
      (tree.Braces (map weighted (map sum_pair ps))) (fitted.Weights (sum_entries ps all))
  sums_inner ps all count =
      let texts : List (List ℕ) = map sum_text ps in
      record {
        piece = braces-text 62 texts (map weighted (map sum_pair ps)) (sum_pieces ps all);
        short =
            omega (
              arith,
              listed-short texts (sums_short ps all),
              length-map ps sum_text,
              count,
              length-append (listed texts) (codes "}"),
            );
        read =
            weights-read Integers integers-weigh states (map sum_pair ps) (sum_entries ps all)
            (sums_read ps all);
        fine = weights-fine 8 (sum_entries ps all) (sums_fine ps all);
      }

  sums_pass : (l : ℕ) (v : Value) → sums_hold are_any l (term_of Sums) 0 v ≡ true
  sums_pass l v =
      pass_two (sums_hold are_any l (term_of Sums) 1) (sums_hold are_any l (term_of Sums) 2)
      (λ x. refl)
      (λ x. pass_entries (sums_hold are_any l (term_of Sums) 3) (λ y. refl) (entries x)) (parts v)

  -- drawn sums are good
  pub sums-good : (m : ℕ) → m < 2 → (ps : List (ℕ × ℕ)) → AllByRecursion (IsSum size) ps
      → length ps ≤ 3 → IsGood (term_of Sums) names (structure_text (sums m ps))
  sums-good m h ps all count =
      let text : List ℕ = in_braces (listed (map sum_text ps)) in
      let u : Tree = tree.Braces (map weighted (map sum_pair ps)) in
      let x : Fitted = fitted.Weights (sum_entries ps all) in
      let is = sums_inner ps all count in
      record {
        tree = marked_tree m u;
        fitted = marked_fitted m x;
        piece = marked_piece sums_fit m h text u x is;
        short = marked_short sums_fit m h text u x is;
        read = marked_reads sums_fit m h text u x is;
        over = (marked_fine sums_fit m text u x is).0;
        divides = (marked_fine sums_fit m text u x is).1;
        sums = λ l some d. sums_pass l (scaled l (term_of Sums) 0 (marked_fitted m x));
      }

  -- ---- a mark, and a target by each of two letters

  abbrev end_entry : ℕ → ℕ → Entry
  end_entry label target = entry (tree.Word (letter_text label))
      (Some (tree.Word (name_text target)))

  end_piece : (n label target : ℕ) → label < 2 → target < size
      → IsPieceOf (SpellsEntry (SpellsWithin n)) (end_text label target) (end_entry label target)
  end_piece n label target h k =
      paired-piece (SpellsWithin n) (letter_text label) (name_text target)
      (tree.Word (letter_text label)) (tree.Word (name_text target))
      (word-text n (letter_text label) (end-is label h).0) (state_text size few n target k)

  abbrev ends_fit : Fit
  ends_fit = power_fit two_letters (states ∷ [])

  end_short : (label target : ℕ) → target < size → length (end_text label target) ≤ 12
  end_short label target h = by (name_text target) (state_short size few target h)
    where
      by : (name : List ℕ) → length name ≤ 7 → length (letter_text label ++ (codes ": " ++ name))
          ≤ 12
      by name k = omega (arith, k)

  ends_inner : (a b : ℕ) → a < size → b < size
      → IsInner ends_fit (in_braces (listed (end_text 0 a ∷ end_text 1 b ∷ [])))
      (tree.Braces (end_entry 0 a ∷ end_entry 1 b ∷ []))
      (fitted.Tuple (fitted.State a ∷ fitted.State b ∷ []))
  ends_inner a b ha hb =
      let texts : List (List ℕ) = end_text 0 a ∷ end_text 1 b ∷ [] in
      let es : List Entry = end_entry 0 a ∷ end_entry 1 b ∷ [] in
      record {
        piece =
            braces-text 62 texts es
            (end_piece 62 0 a (omega arith) ha, (end_piece 62 1 b (omega arith) hb, tt));
        short =
            omega (
              arith,
              listed-short texts (end_short 0 a ha, (end_short 1 b hb, tt)),
              length-append (listed texts) (codes "}"),
            );
        read =
            ap (λ o. needs o WrongShape (power_of two_letters states))
            (ap tree_entries_in (trees.outs-Braces es))
            ∙ power-reads states (letter_text 0) (letter_text 1) (tree.Word (name_text a))
            (tree.Word (name_text b)) (fitted.State a) (fitted.State b)
            (end-is 0 (omega arith)).1 (end-is 1 (omega arith)).1 (state_reads size few a ha)
            (state_reads size few b hb);
        fine =
            tuple-fine 8 (fitted.State a ∷ fitted.State b ∷ [])
            (state-fine 8 a, (state-fine 8 b, tt));
      }

  ends_pass : (l : ℕ) (v : Value) → sums_hold are_any l (term_of Dfa) 0 v ≡ true
  ends_pass l v =
      pass_two (sums_hold are_any l (term_of Dfa) 1) (sums_hold are_any l (term_of Dfa) 2)
      (λ x. refl) (λ x. pass_all (sums_hold are_any l (term_of Dfa) 3) (λ y. refl) (parts x))
      (parts v)

  -- a drawn pair of ends is good
  pub ends-good : (m a b : ℕ) → m < 2 → a < size → b < size
      → IsGood (term_of Dfa) names (structure_text (ends m a b))
  ends-good m a b h ha hb =
      let text : List ℕ = in_braces (listed (end_text 0 a ∷ end_text 1 b ∷ [])) in
      let u : Tree = tree.Braces (end_entry 0 a ∷ end_entry 1 b ∷ []) in
      let x : Fitted = fitted.Tuple (fitted.State a ∷ fitted.State b ∷ []) in
      let is = ends_inner a b ha hb in
      record {
        tree = marked_tree m u;
        fitted = marked_fitted m x;
        piece = marked_piece ends_fit m h text u x is;
        short = marked_short ends_fit m h text u x is;
        read = marked_reads ends_fit m h text u x is;
        over = (marked_fine ends_fit m text u x is).0;
        divides = (marked_fine ends_fit m text u x is).1;
        sums = λ l some d. ends_pass l (scaled l (term_of Dfa) 0 (marked_fitted m x));
      }

  -- ---- a mark, and a distribution on two targets

  abbrev chances_fit : Fit
  chances_fit = weights_fit Distribution (states ∷ [])

  abbrev chance_pairs : ℕ → ℕ → ℕ → List (Tree × List ℕ)
  chance_pairs k a b =
      (tree.Word (name_text a), eighths_text k)
      ∷ (tree.Word (name_text b), eighths_text (8 - k)) ∷ []

  abbrev chance_entries : (k : ℕ) → AreEighths k → ℕ → ℕ → List (Fitted × Weight)
  chance_entries k are a b =
      (fitted.State a, weight.Fraction (numeral (pos are.above) are.below))
      ∷ (fitted.State b, weight.Fraction (numeral (pos are.other) are.below)) ∷ []

  chance_piece : (n k target : ℕ) → IsName (eighths_text k) → target < size
      → IsPieceOf (SpellsEntry (SpellsWithin n)) (chance_text target k)
      (weighted (tree.Word (name_text target), eighths_text k))
  chance_piece n k target name h =
      paired-piece (SpellsWithin n) (name_text target) (eighths_text k)
      (tree.Word (name_text target)) (tree.Word (eighths_text k)) (state_text size few n target h)
      (word-text n (eighths_text k) name)

  chance_short : (target k : ℕ) → target < size → length (eighths_text k) ≤ 3
      → length (chance_text target k) ≤ 12
  chance_short target k h few_bytes =
      by (name_text target) (eighths_text k) (state_short size few target h) few_bytes
    where
      by : (name text : List ℕ) → length name ≤ 7 → length text ≤ 3
          → length (name ++ (codes ": " ++ text)) ≤ 12
      by name text h k = omega (arith, h, k, length-append name (codes ": " ++ text))

  chances_inner : (k a b : ℕ) (are : AreEighths k) → a < size → b < size
      → IsInner chances_fit
      (in_braces (listed (chance_text a k ∷ chance_text b (8 - k) ∷ [])))
      (tree.Braces (map weighted (chance_pairs k a b))) (fitted.Weights (chance_entries k are a b))
  chances_inner k a b are ha hb =
      let texts : List (List ℕ) = chance_text a k ∷ chance_text b (8 - k) ∷ [] in
      record {
        piece =
            braces-text 62 texts (map weighted (chance_pairs k a b)) (
              chance_piece 62 k a are.first_name ha,
              (chance_piece 62 (8 - k) b are.second_name hb, tt),
            );
        short =
            omega (
              arith,
              listed-short texts (
                chance_short a k ha are.first_short,
                (chance_short b (8 - k) hb are.second_short, tt),
              ),
              length-append (listed texts) (codes "}"),
            );
        read =
            weights-read Distribution distribution-weighs states (chance_pairs k a b)
            (chance_entries k are a b) (
              (state_reads size few a ha, are.first_read),
              ((state_reads size few b hb, are.second_read), tt),
            );
        fine =
            weights-fine 8 (chance_entries k are a b) (
              (state-fine 8 a, refl, (are.divides, tt)),
              ((state-fine 8 b, refl, (are.divides, tt)), tt),
            );
      }

  -- a drawn step of a chain is good
  pub chances-good : (m k a b : ℕ) → m < 2 → AreEighths k → a < size → b < size
      → IsGood (term_of Chain) names (structure_text (chances m a b k))
  chances-good m k a b h are ha hb =
      let text : List ℕ = in_braces (listed (chance_text a k ∷ chance_text b (8 - k) ∷ [])) in
      let u : Tree = tree.Braces (map weighted (chance_pairs k a b)) in
      let x : Fitted = fitted.Weights (chance_entries k are a b) in
      let is = chances_inner k a b are ha hb in
      record {
        tree = marked_tree m u;
        fitted = marked_fitted m x;
        piece = marked_piece chances_fit m h text u x is;
        short = marked_short chances_fit m h text u x is;
        read = marked_reads chances_fit m h text u x is;
        over = (marked_fine chances_fit m text u x is).0;
        divides = (marked_fine chances_fit m text u x is).1;
        sums = chance-sums m a b are.above are.other are.below are.one;
      }
