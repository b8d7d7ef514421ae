-- Whole lines are read exactly where they are spelled, and no line spells two terms.
use Rattle.std.proofs.Common.{◌≡◌, ℕ, zero, suc, ◌+◌, ◌<◌, ◌≤◌, max, List, [], ◌∷◌, ◌++◌, length, Option, Some, None, refl, sym, ap, ◌∙◌, subst, append_assoc, append-nil, arith, inl, inr}
use Rattle.std.specs.Prelude.{option_and_then}
use Rattle.std.specs.Option.{option_map_or}
use Rattle.functor_terms.specs.declared.node.LabelSet.{LabelSet}
use Rattle.functor_terms.specs.declared.node.Node.{Node}
use Rattle.functor_terms.specs.declared.node.Node.TheVariants.{Constant, Product, Sum}
use Rattle.functor_terms.specs.declared.sign.Sign.{Sign}
use Rattle.functor_terms.specs.declared.sign.Sign.TheVariants.{Plus, Times, Caret, Open, Close}
use Rattle.functor_terms.specs.Terms.{Nodes, Part, over, placed, depth_limit}
use Rattle.functor_terms.specs.Signs.{is_plus, is_times, is_open, is_close, signs}
use Rattle.functor_terms.specs.Grammar.{prefix_of, weights_of, letter_of, powers, SpellsLabels, SpellsExponents, SpellsBase, SpellsPrefix, SpellsPower, SpellsProduct, SpellsSum, SpellsInside, SpellsTerm, OneTerm, open_limit}
use Rattle.functor_terms.specs.Grammar.SpellsLabels.{below, listed}
use Rattle.functor_terms.specs.Grammar.SpellsBase.{weights, letter, constant, group}
use Rattle.functor_terms.specs.Reading.{Reads, behind_sign, ended, made_over, powers_from, group_at, constant_at, atom_at, weighed, behind_power, base_at, over_read, prefix_at, power_at, product_at, sum_at, inside_at, whole, part_at}
use Rattle.functor_terms.proofs.SignTests.{plus_test, times_test, close_test}
use Rattle.functor_terms.proofs.PartLaws.{IsOwnPart, own-depth, prefix-part, power-part, product-part, inside-part}
use Rattle.functor_terms.proofs.ItemLaws.{Found, IsSound, IsComplete, and_then_of, ended_at}
use Rattle.functor_terms.proofs.LabelLaws.{labels-complete}
use Rattle.functor_terms.proofs.GrammarLaws.{IsBounded, Bounded, Within, AfterBase, AfterPower, AfterProduct, AfterSum, made_of, made_at, bounded-child, child-shallower, base-none, base-no_prefix, powers-sound, powers-depth, powers-size, powers-complete, chain-sound, chain-complete, base-sound}

-- What is read is spelled.
module _ (inside : ℕ → Reads Part) (Inside : List Sign → Part → Type 0)
    (sound : (d : ℕ) → IsSound (inside d) (Bounded Inside)) where
  -- weights or an atom, with no prefix
  bare : (t : Sign) (ts : List Sign) (x : Part) (rest : List Sign)
      → Found (Bounded (SpellsBase Inside)) (t ∷ ts) x rest
      → Found (Bounded (SpellsPrefix Inside)) (t ∷ ts) x rest
  bare t ts x rest found = by found.front found.split found.spelled
    where
      by : (front : List Sign) → t ∷ ts ≡ front ++ rest → Bounded (SpellsBase Inside) front x
          → Found (Bounded (SpellsPrefix Inside)) (t ∷ ts) x rest
      by [] split spelled = absurd (base-none Inside x spelled.0)
      by (u ∷ others) split spelled = record {
        front = u ∷ others;
        split = split;
        spelled =
            (inl spelled.0, spelled.1);
      }

  prefix-sound : (d : ℕ) → IsSound (prefix_at inside d) (Bounded (SpellsPrefix Inside))
  unfolding prefix_at
  prefix-sound zero [] x rest e = cc
  prefix-sound (suc d) [] x rest e = cc
  prefix-sound zero (t ∷ ts) x rest e = by (prefix_of t) e
    where
      by : (r : Option Node) → option_map_or {T = Node} {U = Option (Part × List Sign)}
          (λ node. None) r (base_at (inside zero) (t ∷ ts)) ≡ Some (x, rest)
          → Found (Bounded (SpellsPrefix Inside)) (t ∷ ts) x rest
      by None e = bare t ts x rest (base-sound (inside zero) Inside (sound zero) (t ∷ ts) x rest e)
      by (Some node) e = cc
  prefix-sound (suc d) (t ∷ ts) x rest e = by (prefix-sound d) (prefix_of t) refl e
    where
      by : IsSound (prefix_at inside d) (Bounded (SpellsPrefix Inside)) → (r : Option Node)
          → prefix_of t ≡ r → option_map_or (λ node. over_read node (prefix_at inside d ts)) r
          (base_at (inside (suc d)) (t ∷ ts)) ≡ Some (x, rest)
          → Found (Bounded (SpellsPrefix Inside)) (t ∷ ts) x rest
      by inner None is e = bare t ts x rest (base-sound (inside (suc d)) Inside (sound (suc d))
          (t ∷ ts) x rest e)
      by inner (Some node) is e =
          let (child, behind, read, makes) = and_then_of (λ child. made_over node (child ∷ []))
          (prefix_at inside d ts) x rest e in
          let (made, same, small) = made_of node (child ∷ []) behind x rest makes in
          let found = inner ts child behind read in
          record {
            front = t ∷ found.front;
            split = ap (λ l. t ∷ l) (found.split ∙ ap (λ l. found.front ++ l) same);
            spelled = (
              inr (node, child, is, found.spelled.0, sym made),
              subst IsBounded made small,
            );
          }

  power-sound : (d : ℕ) → IsSound (power_at inside d) (Bounded (SpellsPower Inside))
  unfolding power_at
  power-sound d ts x rest e =
      let (base, behind, read, raises) = and_then_of (powers_from depth_limit)
      (prefix_at inside d ts) x rest e in
      let found = prefix-sound d ts base behind read in
      let raised = powers-sound depth_limit base behind x rest found.spelled.1 raises in
      record {
        front = found.front ++ raised.front;
        split = found.split ∙ ap (λ l. found.front ++ l) raised.split
            ∙ sym (append_assoc found.front raised.front rest);
        spelled = (
          (
            found.front,
            raised.front,
            base,
            raised.exponents,
            refl,
            found.spelled.0,
            raised.spelled,
            raised.made,
          ),
          raised.bounded,
        );
      }

  product-sound : (d : ℕ) → IsSound (product_at inside d) (Bounded (SpellsProduct Inside))
  unfolding product_at
  product-sound d ts x rest e = chain-sound Product is_times Times times_test (power_at inside d)
      (SpellsPower Inside) (power-sound d) ts x rest e

  pub sum-sound : (d : ℕ) → IsSound (sum_at inside d) (Bounded (SpellsSum Inside))
  unfolding sum_at
  sum-sound d ts x rest e = chain-sound Sum is_plus Plus plus_test (product_at inside d)
      (SpellsProduct Inside) (product-sound d) ts x rest e

-- weights stand only behind their letter and `^(`
weighed_none : (inside : Reads Part) (r : Option Node) (atom : Option (Part × List Sign))
    → weighed inside r None atom ≡ atom
weighed_none inside None atom = refl
weighed_none inside (Some node) atom = refl

atom_letter : (inside : Reads Part) (t : Sign) (node : Node) (rest : List Sign)
    → letter_of t ≡ Some node → atom_at inside (t ∷ rest) ≡ made_over node [] rest
atom_letter inside Open node rest e = cc
atom_letter inside t node rest e = ap (λ r. option_map_or (λ n. made_over n [] rest) r
    (constant_at (t ∷ rest))) e

-- no caret, no power
no_power : (ts : List Sign) → AfterPower ts → AfterBase ts
no_power ts none = ap (option_and_then (behind_sign is_open)) none

-- What is spelled is read.
module _ (inside : ℕ → Reads Part) (Inside : List Sign → Part → Type 0)
    (own : (ts : List Sign) (x : Part) → Inside ts x → IsOwnPart x)
    (complete : (d : ℕ) → IsComplete (inside d) (Within d Inside) AfterSum) where
  group-complete : (d : ℕ) (inner : List Sign) (x : Part) (rest : List Sign)
      → Within d Inside inner x → group_at (inside d) (inner ++ Close ∷ rest) ≡ Some (x, rest)
  group-complete d inner x rest spelled =
      ap (option_and_then (λ p. ended is_close p.0 p.1))
      (complete d inner x (Close ∷ rest) spelled ((refl, refl), refl))
      ∙ ended_at is_close Close close_test x rest

  constant-complete : (front : List Sign) (labels : LabelSet) (x : Part) (rest : List Sign)
      → SpellsLabels front labels → x ≡ over (Constant labels) [] → IsBounded x
      → constant_at (front ++ rest) ≡ Some (x, rest)
  constant-complete front labels x rest spelled made bounded =
      ap (option_and_then (λ p. made_over (Constant p.0) [] p.1))
      (labels-complete front labels rest spelled tt)
      ∙ made_at (Constant labels) [] x rest made bounded

  labels-base : (d : ℕ) (front : List Sign) (labels : LabelSet) (rest : List Sign)
      → SpellsLabels front labels → base_at (inside d) (front ++ rest) ≡ constant_at (front ++ rest)
  labels-base d front labels rest (below digits is made are) =
      ap (λ l. base_at (inside d) (l ++ rest)) is ∙ sym (ap (λ l. constant_at (l ++ rest)) is)
  labels-base d front labels rest (listed inner words is each made are) =
      ap (λ l. base_at (inside d) (l ++ rest)) is ∙ sym (ap (λ l. constant_at (l ++ rest)) is)

  base-complete : (d : ℕ) → IsComplete (base_at (inside d)) (Within d (SpellsBase Inside)) AfterBase
  base-complete d front x rest (
    weights t node inner child is stands spelled made,
    budget,
    bounded,
  ) follows =
      let regrouped : front ++ rest ≡ t ∷ Caret ∷ Open ∷ (inner ++ Close ∷ rest) =
      ap (λ l. l ++ rest) is ∙ ap (λ l. t ∷ Caret ∷ Open ∷ l)
      (append_assoc inner (Close ∷ []) rest) in
      let depth : x.1 ≡ max child.1 0 + 1 = ap (λ (p : Part). p.1) made in
      ap (base_at (inside d)) regrouped
      ∙ ap (λ r. weighed (inside d) r (Some (inner ++ Close ∷ rest))
      (atom_at (inside d) (t ∷ Caret ∷ Open ∷ (inner ++ Close ∷ rest)))) stands
      ∙ ap (over_read node) (group-complete d inner child rest
      (spelled, omega (arith, depth, budget), bounded-child node child x made bounded))
      ∙ made_at node (child ∷ []) x rest made bounded
  base-complete d front x rest (letter t node is stands made, budget, bounded) follows =
      ap (λ l. base_at (inside d) (l ++ rest)) is
      ∙ ap (λ s. weighed (inside d) (weights_of t) s (atom_at (inside d) (t ∷ rest))) follows
      ∙ weighed_none (inside d) (weights_of t) (atom_at (inside d) (t ∷ rest))
      ∙ atom_letter (inside d) t node rest stands
      ∙ made_at node [] x rest made bounded
  base-complete d front x rest (constant labels spelled made, budget, bounded) follows =
      labels-base d front labels rest spelled
      ∙ constant-complete front labels x rest spelled made bounded
  base-complete d front x rest (group inner is spelled, budget, bounded) follows =
      ap (λ l. base_at (inside d) (l ++ rest)) is
      ∙ ap (group_at (inside d)) (append_assoc inner (Close ∷ []) rest)
      ∙ group-complete d inner x rest (spelled, budget, bounded)

  prefix-complete : (d : ℕ) → IsComplete (prefix_at inside d)
      (Within d (SpellsPrefix Inside)) AfterBase
  unfolding prefix_at
  prefix-complete d [] x rest (spelled, budget, bounded) follows = absurd spelled
  prefix-complete zero (t ∷ ts) x rest (inl spelled, budget, bounded) follows =
      ap (λ r. option_map_or {T = Node} {U = Option (Part × List Sign)} (λ node. None) r
      (base_at (inside zero) (t ∷ (ts ++ rest)))) (base-no_prefix Inside t ts x spelled)
      ∙ base-complete zero (t ∷ ts) x rest (spelled, budget, bounded) follows
  prefix-complete (suc d) (t ∷ ts) x rest (inl spelled, budget, bounded) follows =
      ap (λ r. option_map_or (λ node. over_read node (prefix_at inside d (ts ++ rest))) r
      (base_at (inside (suc d)) (t ∷ (ts ++ rest)))) (base-no_prefix Inside t ts x spelled)
      ∙ base-complete (suc d) (t ∷ ts) x rest (spelled, budget, bounded) follows
  prefix-complete zero (t ∷ ts) x rest (
    inr (node, child, is, spelled, made),
    budget,
    bounded,
  ) follows =
      let depth : x.1 ≡ max child.1 0 + 1 = ap (λ (p : Part). p.1) made in
      absurd (omega (arith, depth, budget))
  prefix-complete (suc d) (t ∷ ts) x rest (
    inr (node, child, is, spelled, made),
    budget,
    bounded,
  ) follows =
      ap (λ r. option_map_or (λ node. over_read node (prefix_at inside d (ts ++ rest))) r
      (base_at (inside (suc d)) (t ∷ (ts ++ rest)))) is
      ∙ ap (over_read node) (prefix-complete d ts child rest (
        spelled,
        child-shallower d node child x made budget,
        bounded-child node child x made bounded,
      ) follows)
      ∙ made_at node (child ∷ []) x rest made bounded

  -- what follows a base, as exponents or as what follows them
  exponents-follow : (ts : List Sign) (exponents : List LabelSet) (rest : List Sign)
      → SpellsExponents ts exponents → AfterPower rest → AfterBase (ts ++ rest)
  exponents-follow ts [] rest spelled follows = ap (λ l. behind_power (l ++ rest)) spelled
      ∙ no_power rest follows
  exponents-follow ts (labels ∷ others) rest (
    front,
    behind,
    split,
    below digits is made are,
    spelled,
  ) follows =
      ap (λ l. behind_power (l ++ rest)) (split ∙ ap (λ l. Caret ∷ l ++ behind) is)
  exponents-follow ts (labels ∷ others) rest (
    front,
    behind,
    split,
    listed inner words is each made are,
    spelled,
  ) follows =
      ap (λ l. behind_power (l ++ rest)) (split ∙ ap (λ l. Caret ∷ l ++ behind) is)

  power-complete : (d : ℕ) → IsComplete (power_at inside d)
      (Within d (SpellsPower Inside)) AfterPower
  unfolding power_at
  power-complete d ts x rest (
    (front, behind, base, exponents, split, spelled, raises, made),
    budget,
    bounded,
  ) follows =
      let regrouped : ts ++ rest ≡ front ++ (behind ++ rest) = ap (λ l. l ++ rest) split
      ∙ append_assoc front behind rest in
      let depth : x.1 ≡ base.1 + length exponents = ap (λ (p : Part). p.1) made
      ∙ powers-depth base exponents in
      let size : length x.0 ≡ length (powers base exponents).0 =
      ap (λ (p : Part). length p.0) made in
      let smaller = powers-size base exponents in
      let some = own-depth base (prefix-part Inside own front base spelled) in
      let low : x.1 ≤ 32 = bounded.0 in
      let less : length x.0 ≤ 256 = bounded.1 in
      let shallow : base.1 ≤ 32 = omega (arith, depth, low) in
      let few : length base.0 ≤ 256 = omega (arith, less, size, smaller) in
      let count : length exponents < 32 = omega (arith, depth, low, some) in
      ap (option_and_then (λ p. powers_from depth_limit p.0 p.1))
      (ap (prefix_at inside d) regrouped ∙ prefix-complete d front base (behind ++ rest)
      (spelled, omega (arith, depth, budget), (shallow, few))
      (exponents-follow behind exponents rest raises follows))
      ∙ powers-complete depth_limit base behind exponents rest raises
      (subst IsBounded made bounded) follows count
      ∙ ap (λ (p : Part). Some (p, rest)) (sym made)

  product-complete : (d : ℕ) → IsComplete (product_at inside d)
      (Within d (SpellsProduct Inside)) AfterProduct
  unfolding product_at
  product-complete d ts x rest spelled follows =
      chain-complete Product is_times Times times_test (power_at inside d) (SpellsPower Inside)
      (power-part Inside own) AfterPower (λ rest. refl) d
      (power-complete d) ts x rest spelled follows.0 follows.1

  pub sum-complete : (d : ℕ) → IsComplete (sum_at inside d) (Within d (SpellsSum Inside)) AfterSum
  unfolding sum_at
  sum-complete d ts x rest spelled follows =
      chain-complete Sum is_plus Plus plus_test (product_at inside d) (SpellsProduct Inside)
      (product-part Inside own) AfterProduct (λ rest. (refl, refl)) d
      (product-complete d) ts x rest spelled follows.0 follows.1

inside-sound : (n d : ℕ) → IsSound (inside_at n d) (Bounded (SpellsInside n))
unfolding inside_at SpellsInside
inside-sound zero d ts x rest e = cc
inside-sound (suc n) d ts x rest e = sum-sound (inside_at n) (SpellsInside n)
    (inside-sound n) d ts x rest e

inside-complete : (n d : ℕ) → IsComplete (inside_at n d) (Within d (SpellsInside n)) AfterSum
unfolding inside_at SpellsInside
inside-complete zero d front x rest spelled follows = absurd spelled.0
inside-complete (suc n) d front x rest spelled follows =
    sum-complete (inside_at n) (SpellsInside n) (inside-part n)
    (inside-complete n) d front x rest spelled follows

-- a part that was read of all tokens
whole_of : (r : Option (Part × List Sign)) (x : Part) → whole r ≡ Some x → r ≡ Some (x, [])
whole_of None x e = cc
whole_of (Some (part, [])) x e = let same : part ≡ x = cc in ap (λ (p : Part). Some (p, [])) same
whole_of (Some (part, t ∷ ts)) x e = cc

part-sound : (ts : List Sign) (x : Part) → part_at ts ≡ Some x
    → Bounded (SpellsSum (SpellsInside open_limit)) ts x
unfolding part_at
part-sound ts x e =
    let found = sum-sound (inside_at open_limit) (SpellsInside open_limit)
    (inside-sound open_limit) depth_limit ts x [] (whole_of
    (sum_at (inside_at open_limit) depth_limit ts) x e) in
    subst (λ l. Bounded (SpellsSum (SpellsInside open_limit)) l x)
    (sym (found.split ∙ append-nil found.front)) found.spelled

part-complete : (ts : List Sign) (x : Part) → Bounded (SpellsSum (SpellsInside open_limit)) ts x
    → part_at ts ≡ Some x
unfolding part_at
part-complete ts x (spelled, bounded) =
    ap (λ l. whole (sum_at (inside_at open_limit) depth_limit l)) (sym (append-nil ts))
    ∙ ap whole (sum-complete (inside_at open_limit) (SpellsInside open_limit)
    (inside-part open_limit) (inside-complete open_limit) depth_limit ts x []
    (spelled, bounded.0, bounded) ((refl, refl), refl))

-- the term of a part that was read is spelled
pub term-spelled : (text : List ℕ) (x : Part) → part_at (signs text) ≡ Some x
    → SpellsTerm text (placed 0 x.0)
term-spelled text x e =
    let (spelled, bounded) = part-sound (signs text) x e in
    record { part = x; spelled = spelled; shallow = bounded.0; few = bounded.1; numbered = refl }

-- where no part is read, no term is spelled
pub none-spelled : (text : List ℕ) → part_at (signs text) ≡ None → (t : Nodes) → SpellsTerm text t
    → ⊥
none-spelled text e t spelled = let read = part-complete (signs text) spelled.part
    (spelled.spelled, (spelled.shallow, spelled.few)) in cc

-- no text spells two terms
pub one_term : OneTerm
one_term text t u a b =
    let read = part-complete (signs text) a.part (a.spelled, (a.shallow, a.few)) in
    let again = part-complete (signs text) b.part (b.spelled, (b.shallow, b.few)) in
    let same : a.part ≡ b.part = cc in
    a.numbered ∙ ap (λ (x : Part). placed 0 x.0) same ∙ sym b.numbered
