-- The first line of a canonical text: it ends no line before its end, and is not skipped.
use Rattle.std.proofs.Common.{◌≡◌, ℕ, zero, suc, ◌<◌, ◌≤◌, Bool, true, false, List, [], ◌∷◌, ◌++◌, length, map, refl, sym, ap, ◌∙◌, subst, arith}
use Rattle.std.specs.Prelude.{◌==◌, codes, decimal, nat_le, if◌then◌else◌, IsTrue}
use Rattle.std.specs.Char.{is_ascii_digit}
use Rattle.std.specs.List.{list_all, AllByRecursion, flat_map, join_by}
use Rattle.std.proofs.lemmas.Bool.{and_parts, and_from}
use Rattle.std.proofs.lemmas.Bool.Decides.{nat_tests}
use Rattle.file_cut.specs.Bytes.{IsName, is_blank, number_sign}
use Rattle.file_cut.specs.Lines.{is_skipped}
use Rattle.functor_terms.specs.declared.node.LabelSet.{LabelSet}
use Rattle.functor_terms.specs.declared.node.LabelSet.TheVariants.{Listed, Below}
use Rattle.functor_terms.specs.declared.node.Node.{Node}
use Rattle.functor_terms.specs.declared.node.Node.TheVariants.{State, Constant, Naturals, Product, Sum, Power, Powerset, Bag, Distribution, Integers, Rationals}
use Rattle.functor_terms.specs.Terms.{Nodes, Part, IsPart, IsTerm, HasLabels, AreLabels, takes, over, placed}
use Rattle.functor_terms.specs.Text.{Shown, shown, prefix_level, power_level, product_level, enclosed, within, label_text, only, node_text, shown_over, shown_at, text_of_term}
use Rattle.functor_terms.proofs.TermLaws.{IsBlock, part-block}
use Rattle.functor_terms.proofs.PartFolds.{fold-over}
use Rattle.structure_writer.proofs.Marks.{is_plain, word-plain, both-plain}
use Rattle.structure_writer.proofs.Numbers.{decimal-is, digit-bytes}

-- the text has a first byte that is no blank and no number sign, and ends no line
pub record IsClean (text : List ℕ) : Type 0 where
  pub first : ℕ
  pub rest : List ℕ
  pub is : text ≡ first ∷ rest
  pub no_blank : is_blank first ≡ false
  pub no_sign : (first == number_sign) ≡ false
  pub plain : list_all is_plain text ≡ true

-- a line that begins so is not skipped
pub clean-unskipped : (text more : List ℕ) → IsClean text → is_skipped (text ++ more) ≡ false
clean-unskipped text more c =
    ap (λ (t : List ℕ). is_skipped (t ++ more)) c.is
    ∙ (λ i. if c.no_blank i then is_skipped (c.rest ++ more) else c.no_sign i)

clean_append : (a b : List ℕ) → IsClean a → list_all is_plain b ≡ true → IsClean (a ++ b)
clean_append a b c h = record {
  first = c.first;
  rest = c.rest ++ b;
  is = ap (λ (t : List ℕ). t ++ b) c.is;
  no_blank = c.no_blank;
  no_sign = c.no_sign;
  plain = both-plain a b c.plain h;
}

-- behind a byte of this kind all plain text is clean
clean_first : (b : ℕ) (rest : List ℕ) → is_blank b ≡ false → (b == number_sign) ≡ false
    → is_plain b ≡ true → list_all is_plain rest ≡ true → IsClean (b ∷ rest)
clean_first b rest blank sign own h = record {
  first = b;
  rest = rest;
  is = refl;
  no_blank = blank;
  no_sign = sign;
  plain = and_from (is_plain b) (list_all is_plain rest) own h;
}

-- ---- lists

later_plain : {X : Type 0} (f : X → List ℕ) (separator : List ℕ)
    → list_all is_plain separator ≡ true → (xs : List X)
    → AllByRecursion (λ x. list_all is_plain (f x) ≡ true) xs
    → list_all is_plain (flat_map (λ x. separator ++ f x) xs) ≡ true
later_plain f separator h [] all = refl
later_plain f separator h (x ∷ xs) all =
    both-plain (separator ++ f x) (flat_map (λ x. separator ++ f x) xs)
    (both-plain separator (f x) h all.0) (later_plain f separator h xs all.1)

joined_plain : {X : Type 0} (f : X → List ℕ) (separator : List ℕ)
    → list_all is_plain separator ≡ true → (xs : List X)
    → AllByRecursion (λ x. list_all is_plain (f x) ≡ true) xs
    → list_all is_plain (join_by f separator xs) ≡ true
joined_plain f separator h [] all = refl
joined_plain f separator h (x ∷ xs) all =
    both-plain (f x) (flat_map (λ x. separator ++ f x) xs) all.0
    (later_plain f separator h xs all.1)

-- ---- labels

digit_clean : (d : ℕ) → is_ascii_digit d ≡ true
    → (is_blank d ≡ false) × ((d == number_sign) ≡ false)
digit_clean d h = (grind (arith, nat_tests), grind (arith, nat_tests))

digits_clean : (ds : List ℕ) → 0 < length ds → list_all is_ascii_digit ds ≡ true → IsClean ds
digits_clean [] some h = absurd (omega (arith, some))
digits_clean (d ∷ ds) some h =
    let p = and_parts (is_ascii_digit d) (list_all is_ascii_digit ds) h in
    let q = digit_clean d p.0 in
    record {
      first = d;
      rest = ds;
      is = refl;
      no_blank = q.0;
      no_sign = q.1;
      plain = word-plain (d ∷ ds) (digit-bytes (d ∷ ds) h);
    }

words_plain : (words : List (List ℕ)) → AllByRecursion IsName words
    → AllByRecursion (λ w. list_all is_plain w ≡ true) words
words_plain [] all = tt
words_plain (w ∷ words) all = (word-plain w all.0.0.1, words_plain words all.1)

labels_clean : (labels : LabelSet) → AreLabels labels → IsClean (label_text labels)
labels_clean (Below n) are =
    let few : n ≤ 65536 = are.1 in
    let is = decimal-is n (omega (arith, few)) in
    digits_clean (decimal n) is.some is.digits
labels_clean (Listed words) are =
    let inside = joined_plain (λ word. word) (codes ",") refl words
    (words_plain words are.0.each) in
    clean_first 123 (join_by (λ word. word) (codes ",") words ++ codes "}") refl refl refl
    (both-plain (join_by (λ word. word) (codes ",") words) (codes "}") inside refl)

-- ---- nodes

-- the text of a child is clean
abbrev IsNeat : Shown → Type 0
IsNeat s = IsClean s.text

enclosed_clean : (text : List ℕ) → IsClean text → IsClean (enclosed text)
enclosed_clean text c =
    clean_first 40 (text ++ codes ")") refl refl refl (both-plain text (codes ")") c.plain refl)

within_clean : (level : ℕ) (s : Shown) → IsNeat s → IsClean (within level s)
within_clean level s c = by (nat_le s.level level)
  where
    by : (b : Bool) → IsClean (if b then s.text else enclosed s.text)
    by true = c
    by false = enclosed_clean s.text c

each_plain : (level : ℕ) (xs : List Shown) → AllByRecursion IsNeat xs
    → AllByRecursion (λ s. list_all is_plain (within level s) ≡ true) xs
each_plain level [] all = tt
each_plain level (x ∷ xs) all =
    ((within_clean level x all.0).plain, each_plain level xs all.1)

none_at_two : IsTrue (nat_le 2 0) → ⊥
none_at_two h = let e : nat_le 2 0 ≡ false = refl in cc

chain_clean : (level : ℕ) (separator : List ℕ) → list_all is_plain separator ≡ true
    → (xs : List Shown) → IsTrue (nat_le 2 (length xs)) → AllByRecursion IsNeat xs
    → IsClean (join_by (within level) separator xs)
chain_clean level separator h [] arity all = absurd (none_at_two arity)
chain_clean level separator h (x ∷ xs) arity all =
    clean_append (within level x) (flat_map (λ s. separator ++ within level s) xs)
    (within_clean level x all.0)
    (later_plain (within level) separator h xs (each_plain level xs all.1))

none_at_one : IsTrue (0 == 1) → ⊥
none_at_one h = let e : (0 == 1) ≡ false = refl in cc

-- a letter, and the one child as it stands
behind_clean : (b : ℕ) (own : is_plain b ≡ true) → is_blank b ≡ false → (b == number_sign) ≡ false
    → (xs : List Shown) → IsTrue (length xs == 1) → AllByRecursion IsNeat xs
    → IsClean (b ∷ 32 ∷ within prefix_level (only xs))
behind_clean b own blank sign [] arity all = absurd (none_at_one arity)
behind_clean b own blank sign (x ∷ xs) arity all =
    clean_first b (32 ∷ within prefix_level x) blank sign own
    (within_clean prefix_level x all.0).plain

weights_clean : (b : ℕ) (own : is_plain b ≡ true) → is_blank b ≡ false → (b == number_sign) ≡ false
    → (xs : List Shown) → IsTrue (length xs == 1) → AllByRecursion IsNeat xs
    → IsClean (b ∷ 94 ∷ enclosed (only xs).text)
weights_clean b own blank sign [] arity all = absurd (none_at_one arity)
weights_clean b own blank sign (x ∷ xs) arity all =
    clean_first b (94 ∷ enclosed x.text) blank sign own (enclosed_clean x.text all.0).plain

power_clean : (labels : LabelSet) → AreLabels labels → (xs : List Shown)
    → IsTrue (length xs == 1) → AllByRecursion IsNeat xs
    → IsClean (within power_level (only xs) ++ codes "^" ++ label_text labels)
power_clean labels are [] arity all = absurd (none_at_one arity)
power_clean labels are (x ∷ xs) arity all =
    clean_append (within power_level x ++ codes "^") (label_text labels)
    (clean_append (within power_level x) (codes "^") (within_clean power_level x all.0) refl)
    (labels_clean labels are).plain

node_clean : (m : Node) (xs : List Shown) → IsTrue (takes m (length xs)) → HasLabels m
    → AllByRecursion IsNeat xs → IsClean (node_text m xs)
node_clean State xs arity labels all = clean_first 88 [] refl refl refl refl
node_clean (Constant ls) xs arity labels all = labels_clean ls labels
node_clean Naturals xs arity labels all = clean_first 78 [] refl refl refl refl
node_clean Product xs arity labels all = chain_clean power_level (codes " x ") refl xs arity all
node_clean Sum xs arity labels all = chain_clean product_level (codes " + ") refl xs arity all
node_clean (Power ls) xs arity labels all = power_clean ls labels xs arity all
node_clean Powerset xs arity labels all = behind_clean 80 refl refl refl xs arity all
node_clean Bag xs arity labels all = behind_clean 66 refl refl refl xs arity all
node_clean Distribution xs arity labels all = behind_clean 68 refl refl refl xs arity all
node_clean Integers xs arity labels all = weights_clean 90 refl refl refl xs arity all
node_clean Rationals xs arity labels all = weights_clean 81 refl refl refl xs arity all

-- ---- terms

-- how a part is shown
abbrev shown_part : Part → Shown
shown_part part = shown_at (placed 0 part.0) 0

blocks : (n : ℕ) (parts : List Part) → AllByRecursion (IsPart n) parts
    → AllByRecursion IsBlock parts
blocks n [] all = tt
blocks n (x ∷ xs) all = (part-block n x all.0, blocks n xs all.1)

shown_node : (n : ℕ) (node : Node) (parts : List Part) → AllByRecursion (IsPart n) parts
    → shown_part (over node parts) ≡ shown_over node (map shown_part parts)
unfolding shown_at
shown_node n node parts all =
    fold-over (shown prefix_level []) shown_over node parts (blocks n parts all)

map_count : (parts : List Part) → length (map shown_part parts) ≡ length parts
map_count [] = refl
map_count (x ∷ xs) = ap suc (map_count xs)

each_clean : (n : ℕ) → ((x : Part) → IsPart n x → IsNeat (shown_part x)) → (parts : List Part)
    → AllByRecursion (IsPart n) parts → AllByRecursion IsNeat (map shown_part parts)
each_clean n h [] all = tt
each_clean n h (x ∷ xs) all = (h x all.0, each_clean n h xs all.1)

part_clean : (n : ℕ) (x : Part) → IsPart n x → IsNeat (shown_part x)
unfolding IsPart
part_clean zero x is = absurd is
part_clean (suc n) x (node, parts, arity, labels, each, made) =
    subst (λ (y : Part). IsNeat (shown_part y)) (sym made)
    (subst IsNeat (sym (shown_node n node parts each))
    (node_clean node (map shown_part parts)
    (subst (λ k. IsTrue (takes node k)) (sym (map_count parts)) arity) labels
    (each_clean n (part_clean n) parts each)))

-- the text of a term is clean
pub term-clean : (t : Nodes) → IsTerm t → IsClean (text_of_term t)
term-clean t is =
    subst (λ (u : Nodes). IsClean (text_of_term u)) (sym is.numbered)
    (part_clean 32 is.part is.within.built)
