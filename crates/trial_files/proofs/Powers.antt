-- What braces with an entry for each of two letters denote.
use Rattle.std.proofs.Common.{◌≡◌, ℕ, true, ◌&&◌, List, [], ◌∷◌, Some, None, refl, ap, ◌∙◌}
use Rattle.std.specs.Prelude.{Ok, is_some, slice_set}
use Rattle.file_cut.specs.Trees.{entry}
use Rattle.file_cut.specs.declared.tree.Tree.{Tree}
use Rattle.file_cut.specs.declared.tree.Tree.TheVariants as tree
use Rattle.file_cut.specs.declared.tree.Entry.{Entry}
use Rattle.functor_terms.specs.Terms.{label_number}
use Rattle.functor_terms.specs.declared.node.LabelSet.{LabelSet}
use Rattle.typing.specs.declared.kind.TypeKind.TheVariants.{WrongShape, NotALabel, RepeatedKey, MissingKey}
use Rattle.fitting.specs.declared.fitted.Fitted.{Fitted}
use Rattle.fitting.specs.declared.fitted.Fitted.TheVariants as fitted
use Rattle.fitting.specs.Levels.{word, key, weight_tree}
use Rattle.fitting.specs.Fitting.{Fit, needs, demands, found, is_free, Slots, filled, all_held, power_of}
use Rattle.structure_writer.proofs.Written.{paired_held, paired_weight, word_word}
use Rattle.trial_files.proofs.Terms.{two_letters}

abbrev keyed : List ℕ → Tree → Entry
keyed w u = entry (tree.Word w) (Some u)

key_is : (w : List ℕ) (u : Tree) → key (keyed w u) ≡ Some w
key_is w u = ap word (paired_held (tree.Word w) u) ∙ word_word w

tree_is : (w : List ℕ) (u : Tree) → weight_tree (keyed w u) ≡ Some u
tree_is w u = paired_weight (tree.Word w) u

-- an entry fills the slot of its label
filled_first : (labels : LabelSet) (f : Fit) (slots : Slots) (w : List ℕ) (k : ℕ) (u : Tree)
    (v : Fitted) (es : List Entry) → label_number labels w ≡ Some k → is_free slots k ≡ true
    → f u ≡ Ok v
    → filled labels f slots (keyed w u ∷ es) ≡ filled labels f (slice_set slots k (Some v)) es
filled_first labels f slots w k u v es named free read =
    ap (λ o. needs o WrongShape (λ name. needs (weight_tree (keyed w u)) WrongShape (λ u.
    needs (label_number labels name) NotALabel (λ k. demands (is_free slots k) RepeatedKey
    (found (f u) (λ v. filled labels f (slice_set slots k (Some v)) es)))))) (key_is w u)
    ∙ ap (λ o. needs o WrongShape (λ u.
    needs (label_number labels w) NotALabel (λ k. demands (is_free slots k) RepeatedKey
    (found (f u) (λ v. filled labels f (slice_set slots k (Some v)) es))))) (tree_is w u)
    ∙ ap (λ o. needs o NotALabel (λ k. demands (is_free slots k) RepeatedKey
    (found (f u) (λ v. filled labels f (slice_set slots k (Some v)) es)))) named
    ∙ ap (λ b. demands b RepeatedKey
    (found (f u) (λ v. filled labels f (slice_set slots k (Some v)) es))) free
    ∙ ap (λ r. found r (λ v. filled labels f (slice_set slots k (Some v)) es)) read

-- a power of two letters is read from its two entries
pub power-reads : (f : Fit) (a b : List ℕ) (u w : Tree) (x y : Fitted)
    → label_number two_letters a ≡ Some 0 → label_number two_letters b ≡ Some 1
    → f u ≡ Ok x → f w ≡ Ok y
    → power_of two_letters f (entry (tree.Word a) (Some u) ∷ entry (tree.Word b) (Some w) ∷ [])
    ≡ Ok (fitted.Tuple (x ∷ y ∷ []))
power-reads f a b u w x y first second read_first read_second =
    (λ i. demands ((is_some (key_is a u i) && is_some (tree_is a u i))
    && ((is_some (key_is b w i) && is_some (tree_is b w i)) && true)) WrongShape
    (found (slots i) (λ slots. needs (all_held slots) MissingKey (λ vs. Ok (fitted.Tuple vs)))))
  where
    slots : filled two_letters f (None ∷ None ∷ []) (keyed a u ∷ keyed b w ∷ [])
        ≡ Ok (Some x ∷ Some y ∷ [])
    slots =
        filled_first two_letters f (None ∷ None ∷ []) a 0 u x (keyed b w ∷ []) first refl read_first
        ∙ filled_first two_letters f (Some x ∷ None ∷ []) b 1 w y [] second refl read_second
