-- Terms are read exactly where they are spelled.
use Rattle.std.proofs.Common.{◌≡◌, ℕ, zero, suc, ◌+◌, ◌<◌, ◌≤◌, max, List, [], ◌∷◌, ◌++◌, length, Option, Some, None, Bool, true, false, cond, refl, sym, ap, ◌∙◌, subst, append_assoc, arith, length-append, inl, inr}
use Rattle.std.specs.Prelude.{option_and_then, nat_lt}
use Rattle.std.specs.Option.{option_map_or}
use Rattle.std.proofs.lemmas.Bool.Decides.{nat_tests}
use Rattle.std.proofs.lemmas.Option.{some_pair_parts}
use Rattle.std.proofs.lemmas.Bool.{and_parts, and_from}
use Rattle.functor_terms.specs.declared.node.LabelSet.{LabelSet}
use Rattle.functor_terms.specs.declared.node.Node.{Node}
use Rattle.functor_terms.specs.declared.node.Node.TheVariants.{Constant, Power}
use Rattle.functor_terms.specs.declared.sign.Sign.{Sign}
use Rattle.functor_terms.specs.declared.sign.Sign.TheVariants.{Caret, Open, Close, OpenBrace, Digits}
use Rattle.functor_terms.specs.Terms.{Part, over, nodes_of, deepest, node_limit, depth_limit}
use Rattle.functor_terms.specs.Signs.{is_plus, is_times, is_caret, is_open, is_close}
use Rattle.functor_terms.specs.Grammar.{prefix_of, weights_of, letter_of, powers, SpellsEach, SpellsLabels, SpellsExponents, SpellsBase, SpellsChain}
use Rattle.functor_terms.specs.Grammar.SpellsLabels.{below, listed}
use Rattle.functor_terms.specs.Grammar.SpellsBase.{weights, letter, constant, group}
use Rattle.functor_terms.specs.Reading.{Reads, behind_sign, ended, are_small, made_over, items_from, labels_at, raised, powers_from, chain_over, is_few, chain_at, group_at, weights_at, constant_at, atom_at, weighed, behind_power, base_at}
use Rattle.functor_terms.proofs.OverLaws.{nodes-append}
use Rattle.functor_terms.proofs.SignTests.{IsTestOf, caret_test, open_test, close_test, behind_is, weights-no_prefix, letter-no_prefix}
use Rattle.functor_terms.proofs.PartLaws.{IsOwnPart, each-few}
use Rattle.functor_terms.proofs.ItemLaws.{Found, found_as, IsSound, IsComplete, and_then_of, ended_of, FoundItems, items-sound, Join, items-complete}
use Rattle.functor_terms.proofs.LabelLaws.{labels-sound, labels-complete}

-- a part within the bounds of terms
abbrev pub IsBounded : Part → Type 0
IsBounded part = (part.1 ≤ depth_limit) × (length part.0 ≤ node_limit)

-- the tokens spell a part within the bounds
abbrev pub Bounded : (List Sign → Part → Type 0) → List Sign → Part → Type 0
Bounded Spells ts part = Spells ts part × IsBounded part

-- and one of a depth of at most d
abbrev pub Within : ℕ → (List Sign → Part → Type 0) → List Sign → Part → Type 0
Within d Spells ts part = Spells ts part × (part.1 ≤ d) × IsBounded part

-- what may follow weights or an atom, a power, a product, a sum
abbrev pub AfterBase : List Sign → Type 0
AfterBase ts = behind_power ts ≡ None

-- what may follow a power
abbrev pub AfterPower : List Sign → Type 0
AfterPower ts = behind_sign is_caret ts ≡ None

-- what may follow a product
abbrev pub AfterProduct : List Sign → Type 0
AfterProduct ts = AfterPower ts × (behind_sign is_times ts ≡ None)

-- what may follow a sum
abbrev pub AfterSum : List Sign → Type 0
AfterSum ts = AfterProduct ts × (behind_sign is_plus ts ≡ None)

-- a node over small parts is within the bounds
pub small-bounded : (node : Node) (parts : List Part) → are_small parts ≡ true
    → IsBounded (over node parts)
small-bounded node parts e =
    let (few, shallow) = and_parts (nat_lt (length (nodes_of parts)) node_limit)
    (nat_lt (deepest parts) depth_limit) e in
    let less : length (nodes_of parts) < 256 = grind (arith, nat_tests) in
    let low : deepest parts < 32 = grind (arith, nat_tests) in
    (omega (arith, low), omega (arith, less))

bounded-small : (node : Node) (parts : List Part) → IsBounded (over node parts)
    → are_small parts ≡ true
bounded-small node parts (shallow, few) =
    let less : length (nodes_of parts) < 256 = omega (arith, few) in
    let low : deepest parts < 32 = omega (arith, shallow) in
    and_from (nat_lt (length (nodes_of parts)) node_limit) (nat_lt (deepest parts) depth_limit)
    (grind (arith, nat_tests)) (grind (arith, nat_tests))

-- what is made is the node over its parts, within the bounds
pub made_of : (node : Node) (parts : List Part) (ts : List Sign) (y : Part) (rest : List Sign)
    → made_over node parts ts ≡ Some (y, rest) → (over node parts ≡ y) × (ts ≡ rest) × IsBounded
    (over node parts)
made_of node parts ts y rest e = by (are_small parts) refl e
  where
    by : (b : Bool) → are_small parts ≡ b → cond {A = Option (Part × List Sign)} b
        (Some (over node parts, ts)) None ≡ Some (y, rest)
        → (over node parts ≡ y) × (ts ≡ rest) × IsBounded (over node parts)
    by true is e = let (here, there) = some_pair_parts (over node parts) y ts rest e in
        (here, there, small-bounded node parts is)
    by false is e = cc

-- a node over parts within the bounds is made
pub made_at : (node : Node) (parts : List Part) (x : Part) (rest : List Sign) → x ≡ over node parts
    → IsBounded x → made_over node parts rest ≡ Some (x, rest)
made_at node parts x rest made bounded =
    ap (λ b. cond {A = Option (Part × List Sign)} b (Some (over node parts, rest)) None)
    (bounded-small node parts (subst IsBounded made bounded))
    ∙ ap (λ (p : Part). Some (p, rest)) (sym made)

-- the parts of a node within the bounds are within them
pub bounded-child : (node : Node) (child x : Part) → x ≡ over node (child ∷ []) → IsBounded x
    → IsBounded child
bounded-child node child x made (shallow, few) =
    let depth : x.1 ≡ max child.1 0 + 1 = ap (λ (p : Part). p.1) made in
    let size : length x.0 ≡ suc (length (child.0 ++ [])) = ap (λ (p : Part). length p.0) made in (
      let low : x.1 ≤ 32 = shallow in let goal : child.1 ≤ 32 = omega (arith, low, depth) in goal,
      let less : length x.0 ≤ 256 = few in let goal : length child.0 ≤ 256 =
          omega (arith, less, size, length-append child.0 []) in goal,
    )

-- a child is one level less deep
pub child-shallower : (d : ℕ) (node : Node) (child x : Part) → x ≡ over node (child ∷ [])
    → x.1 ≤ suc d → child.1 ≤ d
child-shallower d node child x made fits = let depth : x.1 ≡ max child.1 0 + 1 =
    ap (λ (p : Part). p.1) made in omega (arith, depth, fits)

-- No token is weights or an atom.
labels-none : (labels : LabelSet) → SpellsLabels [] labels → ⊥
labels-none labels (below digits is made are) = cc
labels-none labels (listed inner words is each made are) = cc

-- no sign spells no base
pub base-none : (Inside : List Sign → Part → Type 0) (x : Part) → SpellsBase Inside [] x → ⊥
base-none Inside x (weights t node inner child is stands spelled made) = cc
base-none Inside x (letter t node is stands made) = cc
base-none Inside x (constant labels spelled made) = labels-none labels spelled
base-none Inside x (group inner is spelled) = cc

first_same : {A : Type 0} (x y : A) (xs ys : List A) → x ∷ xs ≡ y ∷ ys → y ≡ x
first_same x y xs ys e = cc

labels-no_prefix : (t : Sign) (ts : List Sign) (labels : LabelSet) → SpellsLabels (t ∷ ts) labels
    → prefix_of t ≡ None
labels-no_prefix t ts labels (below digits is made are) =
    ap prefix_of (sym (first_same t (Digits digits) ts [] is))
labels-no_prefix t ts labels (listed inner words is each made are) =
    ap prefix_of (sym (first_same t OpenBrace ts _ is))

-- neither begins with a prefix
pub base-no_prefix : (Inside : List Sign → Part → Type 0) (t : Sign) (ts : List Sign) (x : Part)
    → SpellsBase Inside (t ∷ ts) x → prefix_of t ≡ None
base-no_prefix Inside t ts x (weights u node inner child is stands spelled made) =
    ap prefix_of (sym (first_same t u ts _ is)) ∙ weights-no_prefix u node stands
base-no_prefix Inside t ts x (letter u node is stands made) =
    ap prefix_of (sym (first_same t u ts [] is)) ∙ letter-no_prefix u node stands
base-no_prefix Inside t ts x (constant labels spelled made) = labels-no_prefix t ts labels spelled
base-no_prefix Inside t ts x (group inner is spelled) = ap prefix_of
    (sym (first_same t Open ts _ is))

-- what stands behind `^(`
pub power_behind : (ts inner : List Sign) → behind_power ts ≡ Some inner → ts ≡ Caret ∷ Open ∷ inner
power_behind ts inner e = by (behind_sign is_caret ts) refl e
  where
    by : (r : Option (List Sign)) → behind_sign is_caret ts ≡ r
        → option_and_then (behind_sign is_open) r ≡ Some inner → ts ≡ Caret ∷ Open ∷ inner
    by None is e = cc
    by (Some s) is e = behind_is is_caret Caret caret_test ts s is
        ∙ ap (λ l. Caret ∷ l) (behind_is is_open Open open_test s inner e)

-- Exponents.
pub record FoundPowers (base : Part) (ts : List Sign) (x : Part) (rest : List Sign) : Type 0 where
  pub exponents : List LabelSet
  pub front : List Sign
  pub split : ts ≡ front ++ rest
  pub spelled : SpellsExponents front exponents
  pub made : x ≡ powers base exponents
  pub bounded : IsBounded x

-- exponents that are read are spelled
pub powers-sound : (n : ℕ) (base : Part) (ts : List Sign) (x : Part) (rest : List Sign)
    → IsBounded base → powers_from n base ts ≡ Some (x, rest) → FoundPowers base ts x rest
unfolding powers_from
powers-sound zero base ts x rest bounded e = cc
powers-sound (suc n) base ts x rest bounded e = by (powers-sound n) (behind_sign is_caret ts) refl e
  where
    by : ((base : Part) (ts : List Sign) (x : Part) (rest : List Sign) → IsBounded base
        → powers_from n base ts ≡ Some (x, rest) → FoundPowers base ts x rest)
        → (r : Option (List Sign)) → behind_sign is_caret ts ≡ r
        → option_map_or {T = List Sign} {U = Option (Part × List Sign)}
        (λ behind. option_and_then (λ p. powers_from n p.0 p.1) (raised base behind)) r
        (Some (base, ts)) ≡ Some (x, rest) → FoundPowers base ts x rest
    by others None is e =
        let (here, there) = some_pair_parts base x ts rest e in
        record {
          exponents = [];
          front = [];
          split = there;
          spelled = refl;
          made =
              sym here;
          bounded = subst IsBounded here bounded;
        }
    by others (Some behind) is e =
        let (part, after, raises, read) = and_then_of (powers_from n)
        (raised base behind) x rest e in
        let (labels, mid, labelled, makes) = and_then_of
        (λ labels. made_over (Power labels) (base ∷ [])) (labels_at behind) part after raises in
        let (made, same, small) = made_of (Power labels) (base ∷ []) mid part after makes in
        let here = labels-sound behind labels mid labelled in
        let found = others part after x rest (subst IsBounded made small) read in
        record {
          exponents = labels ∷ found.exponents;
          front = Caret ∷ here.front ++ found.front;
          split = behind_is is_caret Caret caret_test ts behind is
              ∙ ap (λ l. Caret ∷ l) (here.split ∙ ap (λ l. here.front ++ l) (same ∙ found.split)
              ∙ sym (append_assoc here.front found.front rest));
          spelled = (here.front, found.front, refl, here.spelled, found.spelled);
          made = found.made ∙ ap (λ p. powers p found.exponents) (sym made);
          bounded = found.bounded;
        }

-- a power is deeper than its base by the number of its exponents
pub powers-depth : (base : Part) (exponents : List LabelSet)
    → (powers base exponents).1 ≡ base.1 + length exponents
powers-depth base [] = omega arith
powers-depth base (labels ∷ others) = omega (
  arith,
  powers-depth
      (over (Power labels) (base ∷ [])) others,
)

-- exponents add nodes and take none away
pub powers-size : (base : Part) (exponents : List LabelSet)
    → length base.0 ≤ length (powers base exponents).0
powers-size base [] = omega arith
powers-size base (labels ∷ others) =
    omega (arith, powers-size (over (Power labels) (base ∷ [])) others, length-append base.0 [])

-- exponents that are spelled are read
pub powers-complete : (n : ℕ) (base : Part) (front : List Sign) (exponents : List LabelSet)
    (rest : List Sign) → SpellsExponents front exponents → IsBounded (powers base exponents)
    → AfterPower rest → length exponents < n → powers_from n base (front ++ rest) ≡ Some
    (powers base exponents, rest)
unfolding powers_from
powers-complete zero base front exponents rest spelled bounded follows fits =
    absurd (omega (arith, fits))
powers-complete (suc n) base front [] rest spelled bounded follows fits =
    ap (λ l. powers_from (suc n) base (l ++ rest)) spelled
    ∙ ap (λ r. option_map_or {T = List Sign} {U = Option (Part × List Sign)}
    (λ behind. option_and_then (λ p. powers_from n p.0 p.1) (raised base behind)) r
    (Some (base, rest))) follows
powers-complete (suc n) base front (labels ∷ others) rest
    (ahead, behind, split, here, spelled) bounded follows fits =
    let regrouped : front ++ rest ≡ Caret ∷ (ahead ++ (behind ++ rest)) = ap (λ l. l ++ rest) split
    ∙ ap (λ l. Caret ∷ l) (append_assoc ahead behind rest) in
    let part : Part = over (Power labels) (base ∷ []) in
    let depth = powers-depth (over (Power labels) (base ∷ [])) others in
    let size = powers-size (over (Power labels) (base ∷ [])) others in
    let small : IsBounded (over (Power labels) (base ∷ [])) = (
      let low : (powers base (labels ∷ others)).1 ≤ 32 = bounded.0 in
          let goal : (over (Power labels) (base ∷ [])).1 ≤ 32 = omega (arith, low, depth) in goal,
      let few : length (powers base (labels ∷ others)).0 ≤ 256 = bounded.1 in
          let goal : length (over (Power labels) (base ∷ [])).0 ≤ 256 = omega (arith, few, size) in
          goal,
    ) in
    ap (powers_from (suc n) base) regrouped
    ∙ ap (λ r. option_and_then (λ p. powers_from n p.0 p.1)
    (option_and_then (λ p. made_over (Power p.0) (base ∷ []) p.1) r))
    (labels-complete ahead labels (behind ++ rest) here tt)
    ∙ ap (option_and_then (λ p. powers_from n p.0 p.1)) (made_at (Power labels) (base ∷ [])
    (over (Power labels) (base ∷ [])) (behind ++ rest) refl small)
    ∙ powers-complete n (over (Power labels)
    (base ∷ [])) behind others rest spelled bounded follows (omega (arith, fits))

-- Chains.
pub each-weaker : {A : Type 0} (between : Sign) (R S : List Sign → A → Type 0)
    → ((ts : List Sign) (x : A) → R ts x → S ts x) → (ts : List Sign) (xs : List A)
    → SpellsEach between R ts xs → SpellsEach between S ts xs
each-weaker between R S h ts [] each = each
each-weaker between R S h ts (x ∷ []) each = h ts x each
each-weaker between R S h ts (x ∷ y ∷ xs) (front, behind, split, first, others) =
    (front, behind, split, h front x first, each-weaker between R S h behind (y ∷ xs) others)

-- each part of a chain is within the bounds of the chain
each-within : (between : Sign) (Spells : List Sign → Part → Type 0) (d : ℕ) (ts : List Sign)
    (parts : List Part) → deepest parts ≤ d → deepest parts ≤ 32 → length (nodes_of parts) ≤ 256
    → SpellsEach between Spells ts parts → SpellsEach between (Within d Spells) ts parts
each-within between Spells d ts [] budget shallow few each = each
each-within between Spells d ts (x ∷ []) budget shallow few each = (
  each,
  omega (arith, budget),
  (
    let low : x.1 ≤ 32 = omega (arith, shallow) in
        low,
    let less : length x.0 ≤ 256 = omega (arith, few, length-append x.0 []) in less,
  ),
)
each-within between Spells d ts (x ∷ y ∷ xs) budget shallow few
    (front, behind, split, first, others) =
    let sizes = length-append x.0 (nodes_of (y ∷ xs)) in (
      front,
      behind,
      split,
      (
        first,
        omega (arith, budget),
        (
          let low : x.1 ≤ 32 =
              omega (arith, shallow) in low,
          let less : length x.0 ≤ 256 = omega (arith, few, sizes) in
              less,
        ),
      ),
      each-within between Spells d behind (y ∷ xs) (omega (arith, budget)) (omega (arith, shallow))
          (omega (arith, few, sizes)) others,
    )

module _ (node : Node) (goes_on : Sign → Bool) (between : Sign) (test : IsTestOf goes_on between)
    (item : Reads Part) (Spells : List Sign → Part → Type 0) where
  chain-found : (ts : List Sign) (items : List Part) (behind : List Sign) (x : Part)
      (rest : List Sign) → FoundItems item goes_on between test is_few (Bounded Spells)
      (λ _. Unit {0}) node_limit [] ts items behind → chain_over node items behind ≡ Some
      (x, rest) → Found (Bounded (SpellsChain between node Spells)) ts x rest
  chain-found ts items behind x rest found e = by items found.items_are e
    where
      chained : (parts : List Part) → parts ≡ found.more → 2 ≤ length parts
          → made_over node parts behind ≡ Some (x, rest)
          → Found (Bounded (SpellsChain between node Spells)) ts x rest
      chained parts are two e =
          let (made, same, small) = made_of node parts behind x rest e in
          let each = each-weaker between (Bounded Spells) Spells
          (λ ts x h. h.0) found.front found.more found.each in
          record {
            front = found.front;
            split = found.split ∙ ap (λ l. found.front ++ l) same;
            spelled = (
              inr (
                parts,
                two,
                subst
                    (λ (l : List Part). SpellsEach between Spells found.front l) (sym are) each,
                sym made,
              ),
              subst IsBounded made small,
            );
          }

      by : (parts : List Part) → parts ≡ found.more → chain_over node parts behind ≡ Some (x, rest)
          → Found (Bounded (SpellsChain between node Spells)) ts x rest
      by [] are e = absurd (subst (λ (l : List Part). SpellsEach between
          (Bounded Spells) found.front l) (sym are) found.each)
      by (part ∷ []) are e =
          let each : Bounded Spells found.front part = subst
          (λ (l : List Part). SpellsEach between (Bounded Spells) found.front l)
          (sym are) found.each in
          found_as (Bounded (SpellsChain between node Spells)) ts part x behind rest e
          (record { front = found.front; split = found.split; spelled = (inl each.0, each.1) })
      by (part ∷ other ∷ parts) are e = chained (part ∷ other ∷ parts) are (omega arith) e

  -- a chain that is read is spelled
  pub chain-sound : IsSound item (Bounded Spells) → IsSound (chain_at node goes_on item)
      (Bounded (SpellsChain between node Spells))
  chain-sound sound ts x rest e =
      let (items, behind, read, over_them) = and_then_of (chain_over node)
      (items_from item goes_on is_few node_limit [] ts) x rest e in
      let found = items-sound item goes_on between test is_few (Bounded Spells) sound
      (λ _. Unit {0}) (λ before x ts kept joined spelled. tt) node_limit [] ts items behind tt
      read in
      chain-found ts items behind x rest found over_them

  few-join : (before more : List Part) → length (nodes_of (before ++ more)) ≤ 256
      → Join item goes_on between test is_few before more
  few-join before [] few = tt
  few-join before (x ∷ xs) few =
      let regrouped : before ++ x ∷ xs ≡ (before ++ x ∷ []) ++ xs =
      sym (append_assoc before (x ∷ []) xs) in
      let all : length (nodes_of ((before ++ x ∷ []) ++ xs)) ≤ 256 =
      subst (λ (l : List Part). length (nodes_of l) ≤ 256) regrouped few in
      let split = ap length (nodes-append (before ++ x ∷ []) xs) in
      let here : length (nodes_of (before ++ x ∷ [])) ≤ 256 =
      omega (arith, all, split, length-append (nodes_of (before ++ x ∷ [])) (nodes_of xs)) in
      (grind (arith, nat_tests), few-join (before ++ x ∷ []) xs all)

  two-over : (parts : List Part) (ts : List Sign) → 2 ≤ length parts
      → chain_over node parts ts ≡ made_over node parts ts
  two-over [] ts two = absurd (omega (arith, two))
  two-over (x ∷ []) ts two = absurd (omega (arith, two))
  two-over (x ∷ y ∷ parts) ts two = refl

  module _ (own : (ts : List Sign) (x : Part) → Spells ts x → IsOwnPart x)
      (MayFollow : List Sign → Type 0) (between_follows : (rest : List Sign)
      → MayFollow (between ∷ rest)) where
    -- a chain that is spelled is read
    pub chain-complete : (d : ℕ) → IsComplete item (Within d Spells) MayFollow
        → (front : List Sign) (x : Part) (rest : List Sign)
        → Within d (SpellsChain between node Spells) front x → MayFollow rest
        → behind_sign goes_on rest ≡ None → chain_at node goes_on item (front ++ rest)
        ≡ Some (x, rest)
    chain-complete d complete front x rest (inl spelled, budget, bounded) follows ends =
        let few : length (x.0 ++ []) ≤ 256 = let less : length x.0 ≤ 256 = bounded.1 in
        omega (arith, less, length-append x.0 []) in
        ap (option_and_then (λ p. chain_over node p.0 p.1))
        (items-complete item goes_on between test is_few
        (Within d Spells) MayFollow complete between_follows node_limit [] front (x ∷ []) rest
        (spelled, budget, bounded) (few-join [] (x ∷ []) few) follows ends (omega arith))
    chain-complete d complete front x rest (
      inr (parts, two, each, made),
      budget,
      bounded,
    ) follows ends =
        let depth : x.1 ≡ deepest parts + 1 = ap (λ (p : Part). p.1) made in
        let size : length x.0 ≡ suc (length (nodes_of parts)) =
        ap (λ (p : Part). length p.0) made in
        let low : x.1 ≤ 32 = bounded.0 in
        let less : length x.0 ≤ 256 = bounded.1 in
        let few : length (nodes_of parts) ≤ 256 = omega (arith, less, size) in
        let count = each-few between Spells own front parts each in
        let fits : length parts ≤ 256 = omega (arith, count, few) in
        ap (option_and_then (λ p. chain_over node p.0 p.1))
        (items-complete item goes_on between test is_few
        (Within d Spells) MayFollow complete between_follows node_limit [] front parts rest
        (each-within between Spells d front parts (omega (arith, depth, budget))
        (omega (arith, depth, low)) few each) (few-join [] parts few) follows ends fits)
        ∙ two-over parts rest two ∙ made_at node parts x rest made bounded

-- Groups, weights and atoms.
module _ (inside : Reads Part) (Inside : List Sign → Part → Type 0) where
  module _ (sound : IsSound inside (Bounded Inside)) where
    pub group-sound : (ts : List Sign) (x : Part) (rest : List Sign)
        → group_at inside ts ≡ Some (x, rest) → (inner : List Sign) × (ts ≡ inner ++ Close ∷ rest)
        × Inside inner x × IsBounded x
    group-sound ts x rest e =
        let (part, behind, read, closed) = and_then_of (ended is_close) (inside ts) x rest e in
        let (same, ends) = ended_of is_close Close close_test part x behind rest closed in
        let found = sound ts part behind read in (
          found.front,
          found.split ∙ ap (λ l. found.front ++ l) ends,
          subst
              (Inside found.front) same found.spelled.0,
          subst IsBounded same found.spelled.1,
        )

    weights-sound : (t : Sign) (node : Node) (ts : List Sign) (x : Part) (rest : List Sign)
        → weights_of t ≡ Some node → weights_at inside node ts ≡ Some (x, rest)
        → Found (Bounded (SpellsBase Inside)) (t ∷ Caret ∷ Open ∷ ts) x rest
    weights-sound t node ts x rest stands e =
        let (child, behind, read, makes) = and_then_of (λ child. made_over node (child ∷ []))
        (group_at inside ts) x rest e in
        let (inner, split, spelled, within) = group-sound ts child behind read in
        let (made, same, small) = made_of node (child ∷ []) behind x rest makes in
        record {
          front = t ∷ Caret ∷ Open ∷ inner ++ Close ∷ [];
          split = ap (λ l. t ∷ Caret ∷ Open ∷ l) (split ∙ ap (λ l. inner ++ Close ∷ l) same
              ∙ sym (append_assoc inner (Close ∷ []) rest));
          spelled = (
            weights t node inner child refl stands spelled (sym made),
            subst IsBounded made small,
          );
        }

    constant-sound : (ts : List Sign) (x : Part) (rest : List Sign)
        → constant_at ts ≡ Some (x, rest) → Found (Bounded (SpellsBase Inside)) ts x rest
    constant-sound ts x rest e =
        let (labels, behind, read, makes) = and_then_of (λ labels. made_over (Constant labels) [])
        (labels_at ts) x rest e in
        let (made, same, small) = made_of (Constant labels) [] behind x rest makes in
        let found = labels-sound ts labels behind read in
        record {
          front = found.front;
          split = found.split ∙ ap (λ l. found.front ++ l) same;
          spelled = (constant labels found.spelled (sym made), subst IsBounded made small);
        }

    letter-sound : (t : Sign) (ts : List Sign) (x : Part) (rest : List Sign)
        → option_map_or (λ node. made_over node [] ts) (letter_of t) (constant_at (t ∷ ts)) ≡ Some
        (x, rest) → Found (Bounded (SpellsBase Inside)) (t ∷ ts) x rest
    letter-sound t ts x rest e = by (letter_of t) refl e
      where
        by : (r : Option Node) → letter_of t ≡ r → option_map_or (λ node. made_over node [] ts) r
            (constant_at (t ∷ ts)) ≡ Some (x, rest) → Found (Bounded (SpellsBase Inside))
            (t ∷ ts) x rest
        by None is e = constant-sound (t ∷ ts) x rest e
        by (Some node) is e =
            let (made, same, small) = made_of node [] ts x rest e in
            record {
              front = t ∷ [];
              split = ap (λ l. t ∷ l) same;
              spelled = (letter t node refl is (sym made), subst IsBounded made small);
            }

    atom-sound : (ts : List Sign) (x : Part) (rest : List Sign)
        → atom_at inside ts ≡ Some (x, rest) → Found (Bounded (SpellsBase Inside)) ts x rest
    atom-sound [] x rest e = cc
    atom-sound (Open ∷ ts) x rest e =
        let (inner, split, spelled, within) = group-sound ts x rest e in
        record {
          front = Open ∷ inner ++ Close ∷ [];
          split = ap (λ l. Open ∷ l) (split ∙ sym (append_assoc inner (Close ∷ []) rest));
          spelled = (group inner refl spelled, within);
        }
    atom-sound (t ∷ ts) x rest e = letter-sound t ts x rest e

    -- a base that is read is spelled
    pub base-sound : IsSound (base_at inside) (Bounded (SpellsBase Inside))
    base-sound [] x rest e = cc
    base-sound (t ∷ ts) x rest e = by (weights_of t) (behind_power ts) refl refl e
      where
        by : (r : Option Node) (s : Option (List Sign)) → weights_of t ≡ r → behind_power ts ≡ s
            → weighed inside r s (atom_at inside (t ∷ ts)) ≡ Some (x, rest)
            → Found (Bounded (SpellsBase Inside)) (t ∷ ts) x rest
        by (Some node) (Some inner) is behind e =
            subst (λ l. Found (Bounded (SpellsBase Inside)) (t ∷ l) x rest)
            (sym (power_behind ts inner behind)) (weights-sound t node inner x rest is e)
        by (Some node) None is behind e = atom-sound (t ∷ ts) x rest e
        by None s is behind e = atom-sound (t ∷ ts) x rest e
