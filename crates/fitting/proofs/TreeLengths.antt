-- The trees that stand in a tree have shorter texts, and a tree has no more entries than its text
-- has tokens.
use Rattle.std.proofs.Common.{◌≡◌, ℕ, zero, suc, ◌+◌, ◌≤◌, List, [], ◌∷◌, ◌++◌, length, Some, sym, ap, ◌∙◌, subst, arith, length-append, ⊎_elim}
use Rattle.std.specs.List.{AllByRecursion}
use Rattle.std.proofs.lemmas.List.{length-map}
use Rattle.std.proofs.lemmas.Option.{none-some, same_Some}
use Rattle.file_cut.specs.Tokens.{marks, tokens_from}
use Rattle.file_cut.proofs.TokenLaws.{tokens_few}
use Rattle.file_cut.specs.Trees.{SpellsEach, SpellsEntry, SpellsOpen, SpellsWord, SpellsWithin, alone, paired, same, tuple, inj, empty, braces}
use Rattle.file_cut.specs.declared.mark.Mark.{Mark}
use Rattle.file_cut.specs.declared.mark.Mark.TheVariants.{Open, Close, OpenBrace, CloseBrace, Comma, Colon}
use Rattle.file_cut.specs.declared.tree.Tree.{Tree, out-Tree}
use Rattle.file_cut.specs.declared.tree.Tree.TheViews as shown
use Rattle.file_cut.specs.declared.tree.Entry.{Entry, out-Entry, out-roll-Entry}
use Rattle.fitting.specs.Levels.{parts, parts_in, branch, branch_in, entries, entries_in, held, weight_tree}

-- a line has no more tokens than bytes
pub marks-few : (line : List ℕ) → length (marks line) ≤ length line
marks-few line =
    let same : length (marks line) ≡ length (tokens_from 0 line) = rw length-map in
    omega (arith, same, tokens_few 0 line)

-- n bounds the number of tokens
module _ (n : ℕ) where
  -- the tree is spelled by at most n tokens
  pub record IsInside (u : Tree) : Type 0 where
    pub depth : ℕ
    pub tokens : List Mark
    pub few : length tokens ≤ n
    pub spelled : SpellsWithin depth tokens u

  -- and so are the trees of an entry
  pub record IsEntryInside (e : Entry) : Type 0 where
    pub first : IsInside (held e)
    pub second : (w : Tree) → weight_tree e ≡ Some w → IsInside w

  -- lists with commas between them: each is inside, and there are no more than tokens, and one
  module _ {A : Type 0} (Spells : List Mark → A → Type 0) (P : A → Type 0)
      (good : (ts : List Mark) (x : A) → length ts ≤ n → Spells ts x → P x) where
    front-few : (front rest ts : List Mark) → ts ≡ front ++ Comma ∷ rest
        → length front + suc (length rest) ≡ length ts
    front-few front rest ts e = sym (ap length e ∙ length-append front (Comma ∷ rest))

    each-inside : (ts : List Mark) (xs : List A) → length ts ≤ n → SpellsEach Spells ts xs
        → AllByRecursion P xs
    each-inside ts [] few s = absurd s
    each-inside ts (x ∷ []) few s = (good ts x few s, tt)
    each-inside ts (x ∷ y ∷ xs) few (front, rest, e, first, others) =
        let sum = front-few front rest ts e in (
          good front x (omega (arith, sum, few)) first,
          each-inside rest (y ∷ xs) (omega (arith, sum, few)) others,
        )

    each-few : (ts : List Mark) (xs : List A) → SpellsEach Spells ts xs → length xs ≤ length ts + 1
    each-few ts [] s = absurd s
    each-few ts (x ∷ []) s = omega arith
    each-few ts (x ∷ y ∷ xs) (front, rest, e, first, others) =
        let sum = front-few front rest ts e in
        let more = each-few rest (y ∷ xs) others in
        omega (arith, sum, more)

  inside : (k : ℕ) (ts : List Mark) (u : Tree) → length ts ≤ n → SpellsWithin k ts u → IsInside u
  inside k ts u few s = record { depth = k; tokens = ts; few = few; spelled = s }

  -- an entry of braces
  entry_inside : (k : ℕ) (ts : List Mark) (e : Entry) → length ts ≤ n
      → SpellsEntry (SpellsWithin k) ts e → IsEntryInside e
  entry_inside k ts e few (alone first s is) =
      let out = ap out-Entry is ∙ out-roll-Entry _ in record {
        first = subst IsInside (sym (ap (λ r. r.first) out)) (inside k ts first few s);
        second = λ w h. absurd (none-some w (sym (ap (λ r. r.second) out) ∙ h));
      }
  entry_inside k ts e few (paired front back first second split s t is) =
      let out = ap out-Entry is ∙ out-roll-Entry _ in
      let sum : length front + suc (length back) ≡ length ts =
      sym (ap length split ∙ length-append front (Colon ∷ back)) in
      record {
        first =
            subst IsInside (sym (ap (λ r. r.first) out))
            (inside k front first (omega (arith, sum, few)) s);
        second = λ w h.
            subst IsInside (same_Some second w (sym (ap (λ r. r.second) out) ∙ h))
            (inside k back second (omega (arith, sum, few)) t);
      }

  -- brackets around tokens
  bracket-few : (left right : Mark) (inner ts : List Mark) → ts ≡ left ∷ inner ++ right ∷ []
      → length inner + 2 ≡ length ts
  bracket-few left right inner ts e =
      let sum = length-append inner (right ∷ []) in
      let all : length ts ≡ suc (length (inner ++ right ∷ [])) = ap length e in
      omega (arith, sum, all)

  -- what stands in a tree: its parts, the tree behind `inj`, or its entries
  pub record IsOpened (u : Tree) : Type 0 where
    pub of_parts : (us : List Tree) → parts u ≡ Some us → AllByRecursion IsInside us
    pub of_branch : (b : List ℕ × Tree) → branch u ≡ Some b → IsInside b.1
    pub of_entries :
        (es : List Entry) → entries u ≡ Some es
        → AllByRecursion IsEntryInside es × (length es ≤ n)

  word_opened : (ts : List Mark) (u : Tree) → SpellsWord ts u → IsOpened u
  word_opened ts u (word, spelled, is) =
      let out = ap out-Tree is ∙ shown.outs-Word word in record {
        of_parts = λ us h. absurd (none-some us (sym (ap parts_in out) ∙ h));
        of_branch = λ b h. absurd (none-some b (sym (ap branch_in out) ∙ h));
        of_entries = λ es h. absurd (none-some es (sym (ap entries_in out) ∙ h));
      }

  opened : (k : ℕ) (ts : List Mark) (u : Tree) → length ts ≤ n → SpellsWithin k ts u → IsOpened u
  unfolding SpellsWithin
  opened zero ts u few s = word_opened ts u s
  opened (suc k) ts u few s = ⊎_elim (word_opened ts u) (by (opened k)) s
    where
      by :
          ((ts : List Mark) (u : Tree) → length ts ≤ n → SpellsWithin k ts u → IsOpened u)
          → SpellsOpen (SpellsWithin k) ts u → IsOpened u
      by again (same inner e s) =
          let sum = bracket-few Open Close inner ts e in again inner u (omega (arith, sum, few)) s
      by again (tuple inner us e two each is) =
          let sum = bracket-few Open Close inner ts e in
          let out = ap out-Tree is ∙ shown.outs-Tuple us in record {
            of_parts = λ vs h.
                subst (λ (ws : List Tree). AllByRecursion IsInside ws)
                (same_Some us vs (sym (ap parts_in out) ∙ h))
                (each-inside (SpellsWithin k) IsInside (inside k) inner us
                (omega (arith, sum, few)) each);
            of_branch = λ b h. absurd (none-some b (sym (ap branch_in out) ∙ h));
            of_entries = λ es h. absurd (none-some es (sym (ap entries_in out) ∙ h));
          }
      by again (inj index inner v e digits s is) =
          let out = ap out-Tree is ∙ shown.outs-Inj index v in
          let all : length ts ≡ suc (suc (length inner)) = ap length e in record {
            of_parts = λ us h. absurd (none-some us (sym (ap parts_in out) ∙ h));
            of_branch = λ b h.
                subst (λ (c : List ℕ × Tree). IsInside c.1)
                (same_Some (index, v) b (sym (ap branch_in out) ∙ h))
                (inside k inner v (omega (arith, all, few)) s);
            of_entries = λ es h. absurd (none-some es (sym (ap entries_in out) ∙ h));
          }
      by again (empty e is) =
          let out = ap out-Tree is ∙ shown.outs-Braces [] in record {
            of_parts = λ us h. absurd (none-some us (sym (ap parts_in out) ∙ h));
            of_branch = λ b h. absurd (none-some b (sym (ap branch_in out) ∙ h));
            of_entries = λ es h.
                subst (λ (fs : List Entry). AllByRecursion IsEntryInside fs × (length fs ≤ n))
                (same_Some [] es (sym (ap entries_in out) ∙ h)) (tt, omega arith);
          }
      by again (braces inner es e each is) =
          let sum = bracket-few OpenBrace CloseBrace inner ts e in
          let out = ap out-Tree is ∙ shown.outs-Braces es in
          let count = each-few (SpellsEntry (SpellsWithin k)) IsEntryInside
          (entry_inside k) inner es each in
          record {
            of_parts = λ us h. absurd (none-some us (sym (ap parts_in out) ∙ h));
            of_branch = λ b h. absurd (none-some b (sym (ap branch_in out) ∙ h));
            of_entries = λ fs h.
                subst (λ (gs : List Entry). AllByRecursion IsEntryInside gs × (length gs ≤ n))
                (same_Some es fs (sym (ap entries_in out) ∙ h)) (
                  each-inside (SpellsEntry (SpellsWithin k)) IsEntryInside (entry_inside k) inner es
                      (omega (arith, sum, few)) each,
                  omega (arith, sum, few, count),
                );
          }

  -- so of each tree that is inside
  pub inside-opened : (u : Tree) → IsInside u → IsOpened u
  inside-opened u w = opened w.depth w.tokens u w.few w.spelled
