-- What the texts of parts, elements and entries spell, where each of them is written.
use Rattle.std.proofs.Common.{◌≡◌, ℕ, suc, ◌+◌, ◌≤◌, true, ◌&&◌, List, [], ◌∷◌, ◌++◌, length, map, Some, None, refl, sym, ap, ◌∙◌, subst, arith, append_assoc, append-nil}
use Rattle.std.specs.Prelude.{Ok, ℤ, is_some, is_none, replicate, slice_set}
use Rattle.std.specs.Option.{option_map_or}
use Rattle.std.specs.List.{list_all, AllByRecursion, AllZip}
use Rattle.std.proofs.lemmas.Bool.{and_from}
use Rattle.file_cut.specs.Trees.{SpellsEntry, SpellsWithin, entry}
use Rattle.file_cut.specs.declared.tree.Tree.{Tree}
use Rattle.file_cut.specs.declared.tree.Tree.TheVariants as tree
use Rattle.file_cut.specs.declared.tree.Entry.{Entry}
use Rattle.functor_terms.specs.declared.node.Node.{Node}
use Rattle.functor_terms.specs.declared.node.Node.TheVariants.{State, Constant, Naturals, Product, Sum, Power, Powerset, Bag, Distribution, Integers, Rationals}
use Rattle.functor_terms.specs.declared.node.LabelSet.{LabelSet}
use Rattle.functor_terms.specs.Terms.{AreLabels, label_count, label_number}
use Rattle.typing.specs.declared.kind.TypeKind.TheVariants.{NotALabel, WrongShape, RepeatedKey, NotANumber}
use Rattle.typing.specs.declared.value.Value.{Value}
use Rattle.fitting.specs.declared.fitted.Fitted.{Fitted}
use Rattle.fitting.specs.declared.fitted.Weight.{Weight}
use Rattle.fitting.specs.declared.fitted.Weight.TheVariants as weight
use Rattle.fitting.specs.Levels.{word, held, key, weight_tree}
use Rattle.fitting.specs.Fitting.{Fit, needs, demands, found, made, each, is_keyed, is_free, Slots, filled, all_held, is_alone, has_weight, weighed}
use Rattle.fitting.specs.Scaling.{Scale, scaled_entries}
use Rattle.structure_writer.specs.Text.{Write, label_word, weight_text, keyed_texts, entry_texts}
use Rattle.structure_writer.specs.Spelled.{fraction_spelled, free_weight, free_entry, DividesAll}
use Rattle.structure_writer.proofs.Marks.{IsPieceOf, IsTextOf, word-text, paired-piece, alone-piece}
use Rattle.structure_writer.proofs.Labels.{label-is}
use Rattle.structure_writer.proofs.Numbers.{IsWeightText}
use Rattle.structure_writer.proofs.Written.{alone_held, alone_weight, paired_held, paired_weight, word_word, EntryDivides, IsWritten}

-- l is the common denominator
module _ (l n : ℕ) (w : Write) (g : Fit) (s : Scale) where
  abbrev Written : Value → Type 0
  Written = IsWritten l n w g s

  -- the text of a written value spells its tree
  own_piece : (v : Value) (h : Written v) → IsTextOf n (w v) h.tree
  own_piece v h = subst (λ (text : List ℕ). IsTextOf n text h.tree) (sym h.is) h.piece

  -- ---- sets

  -- what the elements of a set spell
  pub record AreMembers (vs : List Value) : Type 0 where
    pub entries : List Entry
    pub fitted : List Fitted
    pub pieces : AllZip (IsPieceOf (SpellsEntry (SpellsWithin n))) (map w vs) entries
    pub alone : list_all is_alone entries ≡ true
    pub read : each (λ e. g (held e)) entries ≡ Ok fitted
    pub back : map s fitted ≡ vs
    pub divides : AllByRecursion (DividesAll l) fitted

  -- members that are written, one by one, are written together
  pub members : (vs : List Value) → AllByRecursion Written vs → AreMembers vs
  members [] all = record {
    entries = [];
    fitted = [];
    pieces = tt;
    alone = refl;
    read = refl;
    back = refl;
    divides = tt;
  }
  members (v ∷ vs) all =
      let h = all.0 in
      let rest = members vs all.1 in
      let e : Entry = entry h.tree None in
      let first : is_alone e ≡ true = ap is_none (alone_weight h.tree) in
      record {
        entries = e ∷ rest.entries;
        fitted = h.fitted ∷ rest.fitted;
        pieces = (alone-piece (SpellsWithin n) (w v) h.tree (own_piece v h), rest.pieces);
        alone = and_from (is_alone e) (list_all is_alone rest.entries) first rest.alone;
        read =
            (λ i. found ((ap g (alone_held h.tree) ∙ h.read) i)
            (λ y. made (λ ys. y ∷ ys) (rest.read i)));
        back = (λ i. h.back i ∷ rest.back i);
        divides = (h.divides, rest.divides);
      }

  -- ---- weights

  -- what the entries of a weight list spell
  pub record AreEntries (m : Node) (es : List (Value × ℤ)) : Type 0 where
    pub entries : List Entry
    pub fitted : List (Fitted × Weight)
    pub pieces : AllZip (IsPieceOf (SpellsEntry (SpellsWithin n))) (entry_texts l m w es) entries
    pub weighed : list_all (has_weight m) entries ≡ true
    pub read : each (free_entry m g) entries ≡ Ok fitted
    pub back : scaled_entries l m s fitted ≡ es
    pub divides : AllByRecursion (EntryDivides l) fitted

  weighs : (m : Node) (e : Entry) (u : Tree) → weight_tree e ≡ Some u → has_weight m e ≡ true
  weighs State e u h = ap is_some h
  weighs (Constant labels) e u h = ap is_some h
  weighs Naturals e u h = ap is_some h
  weighs Product e u h = ap is_some h
  weighs Sum e u h = ap is_some h
  weighs (Power labels) e u h = ap is_some h
  weighs Powerset e u h = ap is_some h
  weighs Bag e u h = refl
  weighs Distribution e u h = ap is_some h
  weighs Integers e u h = ap is_some h
  weighs Rationals e u h = ap is_some h

  -- a weight is read as its fraction
  weight_read : (m : Node) (z : ℤ) (h : IsWeightText l m z)
      → free_weight m (Some (tree.Word (weight_text l m z))) ≡ Ok (weight.Fraction h.fraction)
  weight_read m z h =
      ap (λ o. needs o WrongShape
      (λ w. needs (fraction_spelled w) NotANumber (λ n. weighed m (Ok n))))
      (word_word (weight_text l m z))
      ∙ ap (λ o. needs o NotANumber (λ n. weighed m (Ok n))) h.spelled ∙ h.passes

  -- entries of which the values are written, and the weights are texts of weights
  abbrev pub IsEntry : Node → Value × ℤ → Type 0
  IsEntry m e = Written e.0 × IsWeightText l m e.1

  -- entries that are written, one by one, are written together
  pub entries-of : (m : Node) (es : List (Value × ℤ)) → AllByRecursion (IsEntry m) es
      → AreEntries m es
  entries-of m [] all = record {
    entries = [];
    fitted = [];
    pieces = tt;
    weighed = refl;
    read = refl;
    back = refl;
    divides = tt;
  }
  entries-of m (v ∷ es) all =
      let h = all.0.0 in
      let k = all.0.1 in
      let rest = entries-of m es all.1 in
      let u : Tree = tree.Word (weight_text l m v.1) in
      let e : Entry = entry h.tree (Some u) in
      let second = paired_weight h.tree u in
      record {
        entries = e ∷ rest.entries;
        fitted = (h.fitted, weight.Fraction k.fraction) ∷ rest.fitted;
        pieces = (
          paired-piece (SpellsWithin n) (w v.0) (weight_text l m v.1) h.tree u
              (own_piece v.0 h) (word-text n (weight_text l m v.1) k.name),
          rest.pieces,
        );
        weighed =
            and_from (has_weight m e) (list_all (has_weight m) rest.entries)
            (weighs m e u second) rest.weighed;
        read =
            (λ i. found
            (found ((ap g (paired_held h.tree u) ∙ h.read) i)
            (λ f. made (λ w. (f, w)) ((ap (free_weight m) second ∙ weight_read m v.1 k) i)))
            (λ y. made (λ ys. y ∷ ys) (rest.read i)));
        back = (λ i. (h.back i, k.back i) ∷ rest.back i);
        divides = ((h.divides, (k.divides, tt)), rest.divides);
      }

  -- ---- powers

  -- what the parts of a power from label k on spell
  pub record ArePowers (labels : LabelSet) (k : ℕ) (vs : List Value) : Type 0 where
    pub entries : List Entry
    pub fitted : List Fitted
    pub pieces :
        AllZip (IsPieceOf (SpellsEntry (SpellsWithin n))) (keyed_texts labels w k vs) entries
    pub keyed : list_all is_keyed entries ≡ true
    pub read :
        (done : List Fitted) → length done ≡ k →
        filled labels g (map (λ f. Some f) done ++ replicate (length vs) None) entries
        ≡ Ok (map (λ f. Some f) (done ++ fitted))
    pub back : map s fitted ≡ vs
    pub divides : AllByRecursion (DividesAll l) fitted

  abbrev slots_of : List Fitted → Slots
  slots_of fs = map (λ f. Some f) fs

  -- the slot behind those that are filled is free, and takes a value
  free_slot : (done : List Fitted) (rest : Slots)
      → is_free (slots_of done ++ None ∷ rest) (length done) ≡ true
  free_slot [] rest = refl
  free_slot (f ∷ done) rest = free_slot done rest

  set_slot : (done : List Fitted) (f : Fitted) (rest : Slots)
      → slice_set (slots_of done ++ None ∷ rest) (length done) (Some f)
      ≡ slots_of (done ++ f ∷ []) ++ rest
  set_slot [] f rest = refl
  set_slot (x ∷ done) f rest = ap (λ xs. Some x ∷ xs) (set_slot done f rest)

  length-push : (done : List Fitted) (f : Fitted) → length (done ++ f ∷ []) ≡ length done + 1
  length-push [] f = refl
  length-push (x ∷ done) f =
      let rest = length-push done f in
      let e : suc (length done + 1) ≡ suc (length done) + 1 = omega arith in ap suc rest ∙ e

  -- parts that are written, one by one, are written together behind their labels
  pub powers : (labels : LabelSet) → AreLabels labels → (k : ℕ) (vs : List Value)
      → k + length vs ≤ label_count labels → AllByRecursion Written vs → ArePowers labels k vs
  powers labels good k [] few all = record {
    entries = [];
    fitted = [];
    pieces = tt;
    keyed = refl;
    read = λ done long. ap (λ xs. Ok xs) (append-nil (slots_of done)
        ∙ ap slots_of (sym (append-nil done)));
    back = refl;
    divides = tt;
  }
  powers labels good k (v ∷ vs) few all =
      let h = all.0 in
      let rest = powers labels good (k + 1) vs (omega (arith, few)) all.1 in
      let name = label-is labels good k (omega (arith, few)) in
      let word_of : List ℕ = label_word labels k in
      let e : Entry = entry (tree.Word word_of) (Some h.tree) in
      let keys : key e ≡ Some word_of =
      ap word (paired_held (tree.Word word_of) h.tree) ∙ word_word word_of in
      let second = paired_weight (tree.Word word_of) h.tree in
      record {
        entries = e ∷ rest.entries;
        fitted = h.fitted ∷ rest.fitted;
        pieces = (
          paired-piece (SpellsWithin n) word_of (w v) (tree.Word word_of) h.tree
              (word-text n word_of name.0) (own_piece v h),
          rest.pieces,
        );
        keyed =
            and_from (is_keyed e) (list_all is_keyed rest.entries)
            (λ i. is_some (keys i) && is_some (second i)) rest.keyed;
        read = λ done long.
            let before : Slots = slots_of done ++ None ∷ replicate (length vs) None in
            let free : is_free before k ≡ true =
            ap (is_free before) (sym long) ∙ free_slot done (replicate (length vs) None) in
            let set : slice_set before k (Some h.fitted)
            ≡ slots_of (done ++ h.fitted ∷ []) ++ replicate (length vs) None =
            ap (λ j. slice_set before j (Some h.fitted)) (sym long)
            ∙ set_slot done h.fitted (replicate (length vs) None) in
            (λ i. needs (keys i) WrongShape (λ w. needs (second i) WrongShape (λ u.
            needs (label_number labels w) NotALabel (λ k. demands (is_free before k) RepeatedKey
            (found (g u) (λ v. filled labels g (slice_set before k (Some v)) rest.entries))))))
            ∙ (λ i. needs (name.1 i) NotALabel (λ k. demands (is_free before k) RepeatedKey
            (found (h.read i) (λ v. filled labels g (slice_set before k (Some v)) rest.entries))))
            ∙ (λ i. demands (free i) RepeatedKey (filled labels g (set i) rest.entries))
            ∙ rest.read (done ++ h.fitted ∷ []) (length-push done h.fitted ∙ ap (λ j. j + 1) long)
            ∙ ap (λ fs. Ok (slots_of fs)) (append_assoc done (h.fitted ∷ []) rest.fitted);
        back = (λ i. h.back i ∷ rest.back i);
        divides = (h.divides, rest.divides);
      }

-- what filled slots hold
pub all-held : (fs : List Fitted) → all_held (map (λ f. Some f) fs) ≡ Some fs
all-held [] = refl
all-held (f ∷ fs) = ap (λ o. option_map_or (λ vs. Some (f ∷ vs)) o None) (all-held fs)
