-- The trees that stand in a tree have texts that do not overlap.
use Rattle.std.proofs.Common.{◌≡◌, ℕ, zero, suc, ◌+◌, ◌≤◌, List, [], ◌∷◌, ◌++◌, length, Some, sym, ap, ◌∙◌, subst, arith, length-append, ⊎_elim}
use Rattle.std.proofs.lemmas.Option.{none-some, same_Some}
use Rattle.file_cut.specs.Trees.{SpellsEach, SpellsEntry, SpellsOpen, SpellsWord, SpellsWithin, alone, paired, same, tuple, inj, empty, braces}
use Rattle.file_cut.specs.declared.mark.Mark.{Mark}
use Rattle.file_cut.specs.declared.mark.Mark.TheVariants.{Open, Close, OpenBrace, CloseBrace, Comma, Colon}
use Rattle.file_cut.specs.declared.tree.Tree.{Tree, out-Tree}
use Rattle.file_cut.specs.declared.tree.Tree.TheViews as shown
use Rattle.file_cut.specs.declared.tree.Entry.{Entry, out-Entry, out-roll-Entry}
use Rattle.fitting.specs.Levels.{parts, parts_in, branch, branch_in, entries, entries_in, held, weight_tree}

-- the tree is spelled by at most n tokens
pub record IsInside (n : ℕ) (u : Tree) : Type 0 where
  pub depth : ℕ
  pub tokens : List Mark
  pub few : length tokens ≤ n
  pub spelled : SpellsWithin depth tokens u

-- and so is each tree of an entry
pub record IsEntryInside (n : ℕ) (e : Entry) : Type 0 where
  pub first : IsInside n (held e)
  pub second : (w : Tree) → weight_tree e ≡ Some w → IsInside n w

-- each of some elements has its share of n
abbrev pub HaveShares : {A : Type 0} → (ℕ → A → Type 0) → ℕ → List A → Type 0
HaveShares P n [] = Unit {0}
HaveShares P n (x ∷ xs) =
    (k : ℕ) × (rest : ℕ) × (k + rest ≤ n) × P k x × HaveShares P rest xs

-- lists with commas between them share their tokens
module _ {A : Type 0} (Spells : List Mark → A → Type 0) (P : ℕ → A → Type 0)
    (good : (ts : List Mark) (x : A) → Spells ts x → P (length ts) x) where
  each_share : (ts : List Mark) (xs : List A) → SpellsEach Spells ts xs →
      HaveShares P (length ts) xs
  each_share ts [] s = absurd s
  each_share ts (x ∷ []) s = (length ts, 0, omega arith, good ts x s, tt)
  each_share ts (x ∷ y ∷ xs) (front, rest, e, first, more) =
      let sum : length front + suc (length rest) ≡ length ts =
      sym (ap length e ∙ length-append front (Comma ∷ rest)) in (
        length front,
        length rest,
        omega (arith, sum),
        good front x first,
        each_share rest (y ∷ xs) more,
      )

inside : (k : ℕ) (ts : List Mark) (u : Tree) → SpellsWithin k ts u → IsInside (length ts) u
inside k ts u s = record { depth = k; tokens = ts; few = omega arith; spelled = s }

-- what is inside few tokens is inside more
more_inside : (m n : ℕ) (u : Tree) → m ≤ n → IsInside m u → IsInside n u
more_inside m n u h w = record {
  depth = w.depth;
  tokens = w.tokens;
  few = (let few = w.few in omega (arith, few, h));
  spelled = w.spelled;
}

-- an entry of braces
entry_inside : (k : ℕ) (ts : List Mark) (e : Entry) → SpellsEntry (SpellsWithin k) ts e →
    IsEntryInside (length ts) e
entry_inside k ts e (alone first s is) =
    let out = ap out-Entry is ∙ out-roll-Entry _ in record {
      first = subst (IsInside (length ts)) (sym (ap (λ r. r.first) out)) (inside k ts first s);
      second = λ w h. absurd (none-some w (sym (ap (λ r. r.second) out) ∙ h));
    }
entry_inside k ts e (paired front back first second split s t is) =
    let out = ap out-Entry is ∙ out-roll-Entry _ in
    let sum : length front + suc (length back) ≡ length ts =
    sym (ap length split ∙ length-append front (Colon ∷ back)) in
    record {
      first =
          subst (IsInside (length ts)) (sym (ap (λ r. r.first) out))
          (more_inside (length front) (length ts) first (omega (arith, sum))
          (inside k front first s));
      second = λ w h.
          subst (IsInside (length ts)) (same_Some second w (sym (ap (λ r. r.second) out) ∙ h))
          (more_inside (length back) (length ts) second (omega (arith, sum))
          (inside k back second t));
    }

-- brackets around tokens
bracket_sum : (left right : Mark) (inner ts : List Mark) → ts ≡ left ∷ inner ++ right ∷ [] →
    length inner + 2 ≡ length ts
bracket_sum left right inner ts e =
    let sum = length-append inner (right ∷ []) in
    let all : length ts ≡ suc (length (inner ++ right ∷ [])) = ap length e in
    omega (arith, sum, all)

-- what stands in a tree of n tokens: it has a token of its own, and the rest is shared by its
-- parts, the tree behind `inj`, or its entries
pub record IsOpened (n : ℕ) (u : Tree) : Type 0 where
  pub some : 1 ≤ n
  pub of_parts :
      (us : List Tree) → parts u ≡ Some us → (k : ℕ) × (1 + k ≤ n) × HaveShares IsInside k us
  pub of_branch :
      (b : List ℕ × Tree) → branch u ≡ Some b → (k : ℕ) × (1 + k ≤ n) × IsInside k b.1
  pub of_entries :
      (es : List Entry) → entries u ≡ Some es →
      (k : ℕ) × (1 + k ≤ n) × HaveShares IsEntryInside k es

-- what is opened with few tokens is so with more
more_opened : (m n : ℕ) (u : Tree) → m ≤ n → IsOpened m u → IsOpened n u
more_opened m n u h o = record {
  some = (let some = o.some in omega (arith, some, h));
  of_parts = λ us e. let w = o.of_parts us e in
      (w.0, (let b = w.1 in omega (arith, b, h)), w.2);
  of_branch = λ b e. let w = o.of_branch b e in
      (w.0, (let b = w.1 in omega (arith, b, h)), w.2);
  of_entries = λ es e. let w = o.of_entries es e in
      (w.0, (let b = w.1 in omega (arith, b, h)), w.2);
}

word_opened : (ts : List Mark) (u : Tree) → SpellsWord ts u → IsOpened (length ts) u
word_opened ts u (word, spelled, is) =
    let out = ap out-Tree is ∙ shown.outs-Word word in
    let one : length ts ≡ 1 = ap length spelled in record {
      some = omega (arith, one);
      of_parts = λ us h. absurd (none-some us (sym (ap parts_in out) ∙ h));
      of_branch = λ b h. absurd (none-some b (sym (ap branch_in out) ∙ h));
      of_entries = λ es h. absurd (none-some es (sym (ap entries_in out) ∙ h));
    }

opened : (k : ℕ) (ts : List Mark) (u : Tree) → SpellsWithin k ts u → IsOpened (length ts) u
unfolding SpellsWithin
opened zero ts u s = word_opened ts u s
opened (suc k) ts u s = ⊎_elim (word_opened ts u) (by (opened k)) s
  where
    by :
        ((ts : List Mark) (u : Tree) → SpellsWithin k ts u → IsOpened (length ts) u) →
        SpellsOpen (SpellsWithin k) ts u → IsOpened (length ts) u
    by again (same inner e s) =
        let sum = bracket_sum Open Close inner ts e in
        more_opened (length inner) (length ts) u (omega (arith, sum)) (again inner u s)
    by again (tuple inner us e two each is) =
        let sum = bracket_sum Open Close inner ts e in
        let out = ap out-Tree is ∙ shown.outs-Tuple us in record {
          some = omega (arith, sum);
          of_parts = λ vs h.
              subst (λ (ws : List Tree). (k : ℕ) × (1 + k ≤ length ts) × HaveShares IsInside k ws)
              (same_Some us vs (sym (ap parts_in out) ∙ h)) (
                length inner,
                omega (arith, sum),
                each_share (SpellsWithin k) IsInside (inside k) inner us each,
              );
          of_branch = λ b h. absurd (none-some b (sym (ap branch_in out) ∙ h));
          of_entries = λ es h. absurd (none-some es (sym (ap entries_in out) ∙ h));
        }
    by again (inj index inner v e digits s is) =
        let out = ap out-Tree is ∙ shown.outs-Inj index v in
        let all : length ts ≡ suc (suc (length inner)) = ap length e in record {
          some = omega (arith, all);
          of_parts = λ us h. absurd (none-some us (sym (ap parts_in out) ∙ h));
          of_branch = λ b h.
              subst (λ (c : List ℕ × Tree). (k : ℕ) × (1 + k ≤ length ts) × IsInside k c.1)
              (same_Some (index, v) b (sym (ap branch_in out) ∙ h))
              (length inner, omega (arith, all), inside k inner v s);
          of_entries = λ es h. absurd (none-some es (sym (ap entries_in out) ∙ h));
        }
    by again (empty e is) =
        let out = ap out-Tree is ∙ shown.outs-Braces [] in
        let all : length ts ≡ 2 = ap length e in record {
          some = omega (arith, all);
          of_parts = λ us h. absurd (none-some us (sym (ap parts_in out) ∙ h));
          of_branch = λ b h. absurd (none-some b (sym (ap branch_in out) ∙ h));
          of_entries = λ es h.
              subst
              (λ (fs : List Entry). (k : ℕ) × (1 + k ≤ length ts) × HaveShares IsEntryInside k fs)
              (same_Some [] es (sym (ap entries_in out) ∙ h)) (0, omega (arith, all), tt);
        }
    by again (braces inner es e each is) =
        let sum = bracket_sum OpenBrace CloseBrace inner ts e in
        let out = ap out-Tree is ∙ shown.outs-Braces es in record {
          some = omega (arith, sum);
          of_parts = λ us h. absurd (none-some us (sym (ap parts_in out) ∙ h));
          of_branch = λ b h. absurd (none-some b (sym (ap branch_in out) ∙ h));
          of_entries = λ fs h.
              subst
              (λ (gs : List Entry). (k : ℕ) × (1 + k ≤ length ts) × HaveShares IsEntryInside k gs)
              (same_Some es fs (sym (ap entries_in out) ∙ h)) (
                length inner,
                omega (arith, sum),
                each_share (SpellsEntry (SpellsWithin k)) IsEntryInside (entry_inside k) inner es
                    each,
              );
        }

-- so of each tree that is inside
pub inside_opened : (n : ℕ) (u : Tree) → IsInside n u → IsOpened n u
inside_opened n u w =
    more_opened (length w.tokens) n u w.few (opened w.depth w.tokens u w.spelled)
