-- What trees denote, put together from what their parts denote, and what is known of fitted trees.
use Rattle.std.proofs.Common.{◌≡◌, ℕ, Bool, true, false, ◌||◌, List, [], ◌∷◌, length, map, Some, None, refl, ap, ◌∙◌}
use Rattle.std.specs.Prelude.{◌==◌, Ok, is_some, is_none}
use Rattle.std.specs.Int.{◌∣◌}
use Rattle.std.specs.List.{list_all, list_any, AllByRecursion, AllZip}
use Rattle.std.proofs.lemmas.Bool.{and_from}
use Rattle.file_cut.specs.Trees.{entry}
use Rattle.file_cut.specs.declared.tree.Tree.{Tree}
use Rattle.file_cut.specs.declared.tree.Tree.TheVariants as tree
use Rattle.file_cut.specs.declared.tree.Tree.TheViews as trees
use Rattle.file_cut.specs.declared.tree.Entry.{Entry}
use Rattle.functor_terms.specs.declared.node.Node.{Node}
use Rattle.functor_terms.specs.declared.node.Node.TheVariants.{Distribution, Integers}
use Rattle.functor_terms.specs.declared.node.LabelSet.{LabelSet}
use Rattle.functor_terms.specs.Terms.{label_number}
use Rattle.functor_terms.specs.Words.{place_of}
use Rattle.weights.specs.Numerals.{reading_of}
use Rattle.typing.specs.declared.kind.TypeKind.TheVariants.{UnknownState, NotALabel, WrongShape, WrongCount}
use Rattle.fitting.specs.declared.fitted.Fitted.{Fitted, Fitted-F}
use Rattle.fitting.specs.declared.fitted.Fitted.TheVariants as fitted
use Rattle.fitting.specs.declared.fitted.Fitted.TheViews as shown
use Rattle.fitting.specs.declared.fitted.Weight.{Weight}
use Rattle.fitting.specs.Levels.{parts_in, entries_in, held, weight_tree}
use Rattle.fitting.specs.Fitting.{Fit, needs, demands, found, made, each, places, state_fit, label_fit, product_fit, is_alone, set_of, set_fit, weighed, weight_fit, has_weight, entry_fit, weights_of, weights_fit}
use Rattle.fitting.specs.Scaling.{over_bound, is_over, denominator_of}
use Rattle.structure_writer.specs.Spelled.{DividesAll}
use Rattle.structure_writer.proofs.Written.{alone_held, alone_weight, paired_held, paired_weight, word_word, divides_of, all_divide, entries_divide, EntryDivides}
use Rattle.fitting.proofs.FitSound.{over_out}

-- ---- words

-- a word of a state is read as it
pub state-reads : (names : List (List ℕ)) (w : List ℕ) (i : ℕ) → place_of w names ≡ Some i
    → state_fit names (tree.Word w) ≡ Ok (fitted.State i)
state-reads names w i e =
    ap (λ o. needs o WrongShape
    (λ w. needs (place_of w names) UnknownState (λ i. Ok (fitted.State i)))) (word_word w)
    ∙ ap (λ o. needs o UnknownState (λ i. Ok (fitted.State i))) e

-- a word of a label is read as it
pub label-reads : (labels : LabelSet) (w : List ℕ) (k : ℕ) → label_number labels w ≡ Some k
    → label_fit labels (tree.Word w) ≡ Ok (fitted.Label k)
label-reads labels w k e =
    ap (λ o. needs o WrongShape
    (λ w. needs (label_number labels w) NotALabel (λ k. Ok (fitted.Label k)))) (word_word w)
    ∙ ap (λ o. needs o NotALabel (λ k. Ok (fitted.Label k))) e

-- ---- pairs

-- a pair is read part by part
pub pair-reads : (f g : Fit) (u w : Tree) (x y : Fitted) → f u ≡ Ok x → g w ≡ Ok y
    → product_fit (f ∷ g ∷ []) (tree.Tuple (u ∷ w ∷ [])) ≡ Ok (fitted.Tuple (x ∷ y ∷ []))
pair-reads f g u w x y first second =
    ap (λ o. needs o WrongShape
    (λ us. demands (length us == 2) WrongCount (made fitted.Tuple (places (f ∷ g ∷ []) 0 us))))
    (ap parts_in (trees.outs-Tuple (u ∷ w ∷ [])))
    ∙ (λ i. made fitted.Tuple (found (first i) (λ v. made (λ vs. v ∷ vs)
    (found (second i) (λ v. made (λ vs. v ∷ vs) (Ok []))))))

-- ---- sets

-- an element without a weight
abbrev pub alone : Tree → Entry
alone u = entry u None

-- the trees denote these in turn
abbrev pub Denote : Fit → List Tree → List Fitted → Type 0
Denote f us xs = AllZip (λ u x. f u ≡ Ok x) us xs

all_alone : (us : List Tree) → list_all is_alone (map alone us) ≡ true
all_alone [] = refl
all_alone (u ∷ us) =
    and_from (is_alone (alone u)) (list_all is_alone (map alone us)) (ap is_none (alone_weight u))
    (all_alone us)

each_alone : (f : Fit) (us : List Tree) (xs : List Fitted) → Denote f us xs
    → each (λ e. f (held e)) (map alone us) ≡ Ok xs
each_alone f [] [] all = refl
each_alone f [] (x ∷ xs) all = absurd all
each_alone f (u ∷ us) [] all = absurd all
each_alone f (u ∷ us) (x ∷ xs) all =
    (λ i. found ((ap f (alone_held u) ∙ all.0) i)
    (λ y. made (λ ys. y ∷ ys) (each_alone f us xs all.1 i)))

-- a set is read member by member
pub set-reads : (f : Fit) (us : List Tree) (xs : List Fitted) → Denote f us xs
    → set_fit (f ∷ []) (tree.Braces (map alone us)) ≡ Ok (fitted.Set xs)
set-reads f us xs all =
    ap (λ o. needs o WrongShape (set_of f)) (ap entries_in (trees.outs-Braces (map alone us)))
    ∙ (λ i. demands (all_alone us i) WrongShape (made fitted.Set (each_alone f us xs all i)))

-- ---- weights

-- a tree, and the word of its weight
abbrev pub weighted : Tree × List ℕ → Entry
weighted p = entry p.0 (Some (tree.Word p.1))

-- the tree and the word denote these
abbrev pub DenotesWeight : Node → Fit → Tree × List ℕ → Fitted × Weight → Type 0
DenotesWeight m f p x = (f p.0 ≡ Ok x.0) × (weighed m (reading_of p.1) ≡ Ok x.1)

weight_reads : (m : Node) (w : List ℕ) (c : Weight) → weighed m (reading_of w) ≡ Ok c
    → weight_fit m (Some (tree.Word w)) ≡ Ok c
weight_reads m w c e =
    ap (λ o. needs o WrongShape (λ w. weighed m (reading_of w))) (word_word w) ∙ e

each_weighted : (m : Node) (f : Fit) (ps : List (Tree × List ℕ)) (xs : List (Fitted × Weight))
    → AllZip (DenotesWeight m f) ps xs → each (entry_fit m f) (map weighted ps) ≡ Ok xs
each_weighted m f [] [] all = refl
each_weighted m f [] (x ∷ xs) all = absurd all
each_weighted m f (p ∷ ps) [] all = absurd all
each_weighted m f (p ∷ ps) (x ∷ xs) all =
    let u : Tree = tree.Word p.1 in
    let one : entry_fit m f (weighted p) ≡ Ok x =
    (λ i. found ((ap f (paired_held p.0 u) ∙ all.0.0) i)
    (λ v. made (λ w. (v, w)) ((ap (weight_fit m) (paired_weight p.0 u)
    ∙ weight_reads m p.1 x.1 all.0.1) i))) in
    (λ i. found (one i) (λ y. made (λ ys. y ∷ ys) (each_weighted m f ps xs all.1 i)))

-- each entry has a weight, at distributions and at integers
all_weighted : (m : Node) → ((e : Entry) (u : Tree) → weight_tree e ≡ Some u
    → has_weight m e ≡ true)
    → (ps : List (Tree × List ℕ)) → list_all (has_weight m) (map weighted ps) ≡ true
all_weighted m h [] = refl
all_weighted m h (p ∷ ps) =
    let u : Tree = tree.Word p.1 in
    and_from (has_weight m (weighted p)) (list_all (has_weight m) (map weighted ps))
    (h (weighted p) u (paired_weight p.0 u)) (all_weighted m h ps)

-- weights are read entry by entry
pub weights-read : (m : Node)
    → ((e : Entry) (u : Tree) → weight_tree e ≡ Some u → has_weight m e ≡ true) → (f : Fit)
    (ps : List (Tree × List ℕ)) (xs : List (Fitted × Weight)) → AllZip (DenotesWeight m f) ps xs
    → weights_fit m (f ∷ []) (tree.Braces (map weighted ps)) ≡ Ok (fitted.Weights xs)
weights-read m h f ps xs all =
    ap (λ o. needs o WrongShape (weights_of m f))
    (ap entries_in (trees.outs-Braces (map weighted ps)))
    ∙ (λ i. demands (all_weighted m h ps i) WrongShape
    (made fitted.Weights (each_weighted m f ps xs all i)))

-- an element of a distribution has a weight
pub distribution-weighs : (e : Entry) (u : Tree) → weight_tree e ≡ Some u
    → has_weight Distribution e ≡ true
distribution-weighs e u h = ap is_some h

-- an element of whole weights has a weight
pub integers-weigh : (e : Entry) (u : Tree) → weight_tree e ≡ Some u → has_weight Integers e ≡ true
integers-weigh e u h = ap is_some h

-- ---- bounds

-- no bound is passed, and each denominator divides l
abbrev pub IsFine : ℕ → Fitted → Type 0
IsFine l f = (over_bound f ≡ false) × DividesAll l f

-- a state is within all bounds
pub state-fine : (l i : ℕ) → IsFine l (fitted.State i)
state-fine l i = (
  over_out (fitted.State i) (Fitted-F.State i) (shown.outs-State i),
  divides_of l (fitted.State i) (Fitted-F.State i) (shown.outs-State i) tt,
)

-- a label is within all bounds
pub label-fine : (l k : ℕ) → IsFine l (fitted.Label k)
label-fine l k = (
  over_out (fitted.Label k) (Fitted-F.Label k) (shown.outs-Label k),
  divides_of l (fitted.Label k) (Fitted-F.Label k) (shown.outs-Label k) tt,
)

none_over : (l : ℕ) (fs : List Fitted) → AllByRecursion (IsFine l) fs
    → list_any (λ b. b) (map over_bound fs) ≡ false
none_over l [] all = refl
none_over l (f ∷ fs) all = (λ i. all.0.0 i || none_over l fs all.1 i)

all_dividing : (l : ℕ) (fs : List Fitted) → AllByRecursion (IsFine l) fs
    → AllByRecursion (DividesAll l) fs
all_dividing l [] all = tt
all_dividing l (f ∷ fs) all = (all.0.1, all_dividing l fs all.1)

-- a tuple is within the bounds where its parts are
pub tuple-fine : (l : ℕ) (fs : List Fitted) → AllByRecursion (IsFine l) fs
    → IsFine l (fitted.Tuple fs)
tuple-fine l fs all = (
  over_out (fitted.Tuple fs) (Fitted-F.Tuple fs) (shown.outs-Tuple fs) ∙ none_over l fs all,
  divides_of l (fitted.Tuple fs) (Fitted-F.Tuple fs) (shown.outs-Tuple fs)
      (all_divide l fs (all_dividing l fs all)),
)

-- a set is within the bounds where its members are
pub set-fine : (l : ℕ) (fs : List Fitted) → AllByRecursion (IsFine l) fs → IsFine l (fitted.Set fs)
set-fine l fs all = (
  over_out (fitted.Set fs) (Fitted-F.Set fs) (shown.outs-Set fs) ∙ none_over l fs all,
  divides_of l (fitted.Set fs) (Fitted-F.Set fs) (shown.outs-Set fs)
      (all_divide l fs (all_dividing l fs all)),
)

-- the same of an entry and its weight
abbrev pub IsFineEntry : ℕ → Fitted × Weight → Type 0
IsFineEntry l e = IsFine l e.0 × (is_over e.1 ≡ false) × AllByRecursion (λ q. q ∣ l)
    (denominator_of e.1)

none_over_entries : (l : ℕ) (es : List (Fitted × Weight)) → AllByRecursion (IsFineEntry l) es
    → list_any (λ (e : Bool × Weight). e.0 || is_over e.1)
    (map (λ (e : Fitted × Weight). (over_bound e.0, e.1)) es) ≡ false
none_over_entries l [] all = refl
none_over_entries l (e ∷ es) all =
    (λ i. (all.0.0.0 i || all.0.1 i) || none_over_entries l es all.1 i)

entries_dividing : (l : ℕ) (es : List (Fitted × Weight)) → AllByRecursion (IsFineEntry l) es
    → AllByRecursion (EntryDivides l) es
entries_dividing l [] all = tt
entries_dividing l (e ∷ es) all = ((all.0.0.1, all.0.2), entries_dividing l es all.1)

-- weights are within the bounds where their entries are
pub weights-fine : (l : ℕ) (es : List (Fitted × Weight)) → AllByRecursion (IsFineEntry l) es
    → IsFine l (fitted.Weights es)
weights-fine l es all = (
  over_out (fitted.Weights es) (Fitted-F.Weights es) (shown.outs-Weights es)
      ∙ none_over_entries l es all,
  divides_of l (fitted.Weights es) (Fitted-F.Weights es) (shown.outs-Weights es)
      (entries_divide l es (entries_dividing l es all)),
)
