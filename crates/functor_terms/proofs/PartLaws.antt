-- What is spelled is a part: nodes over as many parts as they take, with labels where they need
-- them.
use Rattle.std.proofs.Common.{◌≡◌, ℕ, zero, suc, ◌+◌, ◌<◌, ◌≤◌, List, [], ◌∷◌, length, refl, sym, subst, arith, length-append, inl, inr}
use Rattle.std.specs.Prelude.{IsTrue}
use Rattle.std.specs.List.{AllByRecursion}
use Rattle.std.proofs.lemmas.Bool.Decides.{nat_tests}
use Rattle.functor_terms.specs.declared.node.LabelSet.{LabelSet}
use Rattle.functor_terms.specs.declared.node.Node.{Node}
use Rattle.functor_terms.specs.declared.node.Node.TheVariants.{Constant, Product, Sum, Power}
use Rattle.functor_terms.specs.declared.sign.Sign.{Sign}
use Rattle.functor_terms.specs.declared.sign.Sign.TheVariants.{Plus, Times}
use Rattle.functor_terms.specs.Terms.{Nodes, Part, IsPart, IsTerm, HasLabels, AreLabels, takes, over, deepest, nodes_of, depth_limit}
use Rattle.functor_terms.specs.Grammar.{SpellsEach, SpellsLabels, SpellsExponents, SpellsBase, SpellsPrefix, SpellsPower, SpellsProduct, SpellsSum, SpellsInside, SpellsTerm, powers, open_limit}
use Rattle.functor_terms.specs.Grammar.SpellsLabels.{below, listed}
use Rattle.functor_terms.specs.Grammar.SpellsBase.{weights, letter, constant, group}
use Rattle.functor_terms.proofs.SignTests.{prefix-takes, weights-takes, letter-takes}
use Rattle.functor_terms.proofs.TermLaws.{over-part, each-deeper, part-block, part-deeper}

-- a part of its own depth
abbrev pub IsOwnPart : Part → Type 0
IsOwnPart part = IsPart part.1 part

-- the node over such parts is one
pub over-own : (node : Node) (parts : List Part) → IsTrue (takes node (length parts))
    → HasLabels node → AllByRecursion IsOwnPart parts → IsOwnPart (over node parts)
over-own node parts arity labels each =
    let deeper : suc (deepest parts) ≡ deepest parts + 1 = omega arith in
    subst (λ n. IsPart n (over node parts)) deeper (over-part
    (deepest parts) node parts arity labels (each-deeper parts (deepest parts)
    (omega arith) each))

-- it has a depth and a node
pub own-depth : (part : Part) → IsOwnPart part → 0 < part.1
unfolding IsPart
own-depth part is = by part.1 is
  where
    by : (n : ℕ) → IsPart n part → 0 < n
    by zero is = absurd is
    by (suc n) is = omega arith

pub own-nodes : (part : Part) → IsOwnPart part → 0 < length part.0
own-nodes part is = (part-block part.1 part is).0

-- the labels of a constant or an exponent are labels
pub labels-are : (ts : List Sign) (labels : LabelSet) → SpellsLabels ts labels → AreLabels labels
labels-are ts labels (below digits is made are) = are
labels-are ts labels (listed inner words is each made are) = are

exponents-part : (ts : List Sign) (base : Part) (exponents : List LabelSet)
    → SpellsExponents ts exponents → IsOwnPart base → IsOwnPart (powers base exponents)
exponents-part ts base [] spelled is = is
exponents-part ts base (labels ∷ others) (front, rest, split, here, behind) is =
    exponents-part rest (over (Power labels) (base ∷ [])) others behind
    (over-own (Power labels) (base ∷ []) refl (labels-are front labels here) (is, tt))

-- a chain has two or more parts, and so many the node takes
chain-takes : (n : ℕ) → 2 ≤ n → IsTrue (takes Sum n) × IsTrue (takes Product n)
chain-takes n two = (grind (arith, nat_tests), grind (arith, nat_tests))

-- so are the parts of a chain
pub each-part : (between : Sign) (Spells : List Sign → Part → Type 0)
    → ((ts : List Sign) (x : Part) → Spells ts x → IsOwnPart x)
    → (ts : List Sign) (parts : List Part) → SpellsEach between Spells ts parts
    → AllByRecursion IsOwnPart parts
each-part between Spells own ts [] each = absurd each
each-part between Spells own ts (x ∷ []) each = (own ts x each, tt)
each-part between Spells own ts (x ∷ y ∷ xs) (front, behind, split, first, others) =
    (own front x first, each-part between Spells own behind (y ∷ xs) others)

-- a chain has no more parts than nodes
pub each-few : (between : Sign) (Spells : List Sign → Part → Type 0)
    → ((ts : List Sign) (x : Part) → Spells ts x → IsOwnPart x)
    → (ts : List Sign) (parts : List Part) → SpellsEach between Spells ts parts
    → length parts ≤ length (nodes_of parts)
each-few between Spells own ts [] each = absurd each
each-few between Spells own ts (x ∷ []) each = let some = own-nodes x (own ts x each) in
    omega (arith, length-append x.0 [], some)
each-few between Spells own ts (x ∷ y ∷ xs) (front, behind, split, first, others) =
    let some = own-nodes x (own front x first) in
    let below = each-few between Spells own behind (y ∷ xs) others in
    omega (arith, length-append x.0 (nodes_of (y ∷ xs)), some, below)

module _ (Inside : List Sign → Part → Type 0) (is_part : (ts : List Sign) (x : Part) → Inside ts x
    → IsOwnPart x) where
  pub base-part : (ts : List Sign) (x : Part) → SpellsBase Inside ts x → IsOwnPart x
  base-part ts x (weights t node inner child is stands spelled made) =
      let (arity, labels) = weights-takes t node stands in
      subst IsOwnPart (sym made) (over-own node (child ∷ []) arity labels
      (is_part inner child spelled, tt))
  base-part ts x (letter t node is stands made) =
      let (arity, labels) = letter-takes t node stands in
      subst IsOwnPart (sym made) (over-own node [] arity labels tt)
  base-part ts x (constant labels spelled made) = subst IsOwnPart (sym made)
      (over-own (Constant labels) [] refl (labels-are ts labels spelled) tt)
  base-part ts x (group inner is spelled) = is_part inner x spelled

  -- what stands behind prefixes is a part of its own
  pub prefix-part : (ts : List Sign) (x : Part) → SpellsPrefix Inside ts x → IsOwnPart x
  prefix-part [] x spelled = absurd spelled
  prefix-part (t ∷ ts) x (inl spelled) = base-part (t ∷ ts) x spelled
  prefix-part (t ∷ ts) x (inr (node, child, stands, spelled, made)) =
      let (arity, labels) = prefix-takes t node stands in
      subst IsOwnPart (sym made) (over-own node (child ∷ []) arity labels
      (prefix-part ts child spelled, tt))

  -- a power is a part of its own
  pub power-part : (ts : List Sign) (x : Part) → SpellsPower Inside ts x → IsOwnPart x
  power-part ts x (front, rest, base, exponents, split, spelled, behind, made) =
      subst IsOwnPart (sym made) (exponents-part rest base exponents behind
      (prefix-part front base spelled))

  -- a product is a part of its own
  pub product-part : (ts : List Sign) (x : Part) → SpellsProduct Inside ts x → IsOwnPart x
  product-part ts x (inl spelled) = power-part ts x spelled
  product-part ts x (inr (parts, two, each, made)) =
      subst IsOwnPart (sym made) (over-own Product parts (chain-takes (length parts) two).1 tt
      (each-part Times (SpellsPower Inside) power-part ts parts each))

  pub sum-part : (ts : List Sign) (x : Part) → SpellsSum Inside ts x → IsOwnPart x
  sum-part ts x (inl spelled) = product-part ts x spelled
  sum-part ts x (inr (parts, two, each, made)) =
      subst IsOwnPart (sym made) (over-own Sum parts (chain-takes (length parts) two).0 tt
      (each-part Plus (SpellsProduct Inside) product-part ts parts each))

-- what stands inside parentheses is a part of its own
pub inside-part : (n : ℕ) (ts : List Sign) (x : Part) → SpellsInside n ts x → IsOwnPart x
unfolding SpellsInside
inside-part zero ts x spelled = absurd spelled
inside-part (suc n) ts x spelled = sum-part (SpellsInside n) (inside-part n) ts x spelled

-- what a text spells is a term
pub spells_a_term : (text : List ℕ) (t : Nodes) → SpellsTerm text t → IsTerm t
spells_a_term text t spelled = record {
  part = spelled.part;
  within = record {
    built = part-deeper spelled.part.1 depth_limit spelled.shallow spelled.part
        (sum-part (SpellsInside open_limit)
        (inside-part open_limit) _ spelled.part spelled.spelled);
    few = spelled.few;
  };
  numbered = spelled.numbered;
}
