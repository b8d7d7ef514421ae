-- What is spelled with n parentheses open at most is spelled with more.
use Rattle.std.proofs.Common.{◌≡◌, ℕ, zero, suc, ◌+◌, List, [], ◌∷◌, ◌++◌, refl, sym, ap, ◌∙◌, subst, arith, append-nil, append_assoc, inl, inr}
use Rattle.functor_terms.specs.declared.node.LabelSet.{LabelSet}
use Rattle.functor_terms.specs.declared.node.Node.{Node}
use Rattle.functor_terms.specs.declared.node.Node.TheVariants.{Power}
use Rattle.functor_terms.specs.declared.sign.Sign.{Sign}
use Rattle.functor_terms.specs.declared.sign.Sign.TheVariants.{Plus, Times, Caret}
use Rattle.functor_terms.specs.Terms.{Part, over}
use Rattle.functor_terms.specs.Grammar.{SpellsLabels, SpellsExponents, powers, SpellsBase, SpellsPrefix, SpellsPower, SpellsChain, SpellsProduct, SpellsSum, SpellsInside}
use Rattle.functor_terms.specs.Grammar.SpellsBase.{weights, letter, constant, group}
use Rattle.functor_terms.proofs.GrammarLaws.{each-weaker}

chain-more : (between : Sign) (node : Node) (R S : List Sign → Part → Type 0)
    → ((ts : List Sign) (x : Part) → R ts x → S ts x) → (ts : List Sign) (x : Part)
    → SpellsChain between node R ts x → SpellsChain between node S ts x
chain-more between node R S more ts x (inl spelled) = inl (more ts x spelled)
chain-more between node R S more ts x (inr (parts, two, each, made)) =
    inr (parts, two, each-weaker between R S more ts parts each, made)

module _ (R S : List Sign → Part → Type 0) (more : (ts : List Sign) (x : Part) → R ts x
    → S ts x) where
  base-more : (ts : List Sign) (x : Part) → SpellsBase R ts x → SpellsBase S ts x
  base-more ts x (weights t node inner child is stands spelled made) =
      weights t node inner child is stands (more inner child spelled) made
  base-more ts x (letter t node is stands made) = letter t node is stands made
  base-more ts x (constant labels spelled made) = constant labels spelled made
  base-more ts x (group inner is spelled) = group inner is (more inner x spelled)

  prefix-more : (ts : List Sign) (x : Part) → SpellsPrefix R ts x → SpellsPrefix S ts x
  prefix-more [] x spelled = spelled
  prefix-more (t ∷ ts) x (inl spelled) = inl (base-more (t ∷ ts) x spelled)
  prefix-more (t ∷ ts) x (inr (node, child, is, spelled, made)) =
      inr (node, child, is, prefix-more ts child spelled, made)

  power-more : (ts : List Sign) (x : Part) → SpellsPower R ts x → SpellsPower S ts x
  power-more ts x (front, rest, base, exponents, split, spelled, raised, made) =
      (front, rest, base, exponents, split, prefix-more front base spelled, raised, made)

  product-more : (ts : List Sign) (x : Part) → SpellsProduct R ts x → SpellsProduct S ts x
  product-more ts x spelled = chain-more Times _ (SpellsPower R)
      (SpellsPower S) power-more ts x spelled

  sum-more : (ts : List Sign) (x : Part) → SpellsSum R ts x → SpellsSum S ts x
  sum-more ts x spelled = chain-more Plus _ (SpellsProduct R)
      (SpellsProduct S) product-more ts x spelled

-- one parenthesis more may open
pub inside-more : (n : ℕ) (ts : List Sign) (x : Part) → SpellsInside n ts x
    → SpellsInside (suc n) ts x
unfolding SpellsInside
inside-more zero ts x spelled = absurd spelled
inside-more (suc n) ts x spelled = sum-more (SpellsInside n) (SpellsInside (suc n))
    (inside-more n) ts x spelled

-- The forms by how loosely they bind: prefixes, powers, products, sums.
abbrev pub SpellsLevel : (List Sign → Part → Type 0) → ℕ → List Sign → Part → Type 0
SpellsLevel Inside zero = SpellsPrefix Inside
SpellsLevel Inside (suc zero) = SpellsPower Inside
SpellsLevel Inside (suc (suc zero)) = SpellsProduct Inside
SpellsLevel Inside (suc (suc (suc n))) = SpellsSum Inside

-- a level over a stronger relation is one over a weaker
pub level-more : (R S : List Sign → Part → Type 0) → ((ts : List Sign) (x : Part) → R ts x
    → S ts x) → (level : ℕ) (ts : List Sign) (x : Part) → SpellsLevel R level ts x
    → SpellsLevel S level ts x
level-more R S more zero ts x spelled = prefix-more R S more ts x spelled
level-more R S more (suc zero) ts x spelled = power-more R S more ts x spelled
level-more R S more (suc (suc zero)) ts x spelled = product-more R S more ts x spelled
level-more R S more (suc (suc (suc n))) ts x spelled = sum-more R S more ts x spelled

-- each is one of the next
prefix-power : (Inside : List Sign → Part → Type 0) (ts : List Sign) (x : Part)
    → SpellsPrefix Inside ts x → SpellsPower Inside ts x
prefix-power Inside ts x spelled = (ts, [], x, [], sym (append-nil ts), spelled, refl, refl)

level-next : (Inside : List Sign → Part → Type 0) (level : ℕ) (ts : List Sign) (x : Part)
    → SpellsLevel Inside level ts x → SpellsLevel Inside (suc level) ts x
level-next Inside zero ts x spelled = prefix-power Inside ts x spelled
level-next Inside (suc zero) ts x spelled = inl spelled
level-next Inside (suc (suc zero)) ts x spelled = inl spelled
level-next Inside (suc (suc (suc n))) ts x spelled = spelled

level-by : (Inside : List Sign → Part → Type 0) (more level : ℕ) (ts : List Sign) (x : Part)
    → SpellsLevel Inside level ts x → SpellsLevel Inside (more + level) ts x
level-by Inside zero level ts x spelled = let same : level ≡ 0 + level = omega arith in
    subst (λ l. SpellsLevel Inside l ts x) same spelled
level-by Inside (suc more) level ts x spelled =
    let same : suc (more + level) ≡ suc more + level = omega arith in
    subst (λ l. SpellsLevel Inside l ts x) same (level-next Inside (more + level) ts x
    (level-by Inside more level ts x spelled))

-- and one of any that binds more loosely
pub level-up : (Inside : List Sign → Part → Type 0) (low high more : ℕ) → more + low ≡ high
    → (ts : List Sign) (x : Part) → SpellsLevel Inside low ts x → SpellsLevel Inside high ts x
level-up Inside low high more sums ts x spelled = subst (λ l. SpellsLevel Inside l ts x) sums
    (level-by Inside more low ts x spelled)

-- One exponent more.
exponents-push : (ts back : List Sign) (exponents : List LabelSet) (labels : LabelSet)
    → SpellsExponents ts exponents → SpellsLabels back labels
    → SpellsExponents (ts ++ Caret ∷ back) (exponents ++ labels ∷ [])
exponents-push ts back [] labels spelled here = (
  back,
  [],
  ap (λ l. l ++ Caret ∷ back) spelled
      ∙ ap (λ l. Caret ∷ l) (sym (append-nil back)),
  here,
  refl,
)
exponents-push ts back (first ∷ others) labels (front, rest, split, spelled, behind) here = (
  front,
  rest ++ Caret ∷ back,
  ap (λ l. l ++ Caret ∷ back) split
      ∙ ap (λ l. Caret ∷ l) (append_assoc front rest (Caret ∷ back)),
  spelled,
  exponents-push rest back others labels behind here,
)

powers-push : (base : Part) (exponents : List LabelSet) (labels : LabelSet)
    → powers base (exponents ++ labels ∷ []) ≡ over (Power labels) (powers base exponents ∷ [])
powers-push base [] labels = refl
powers-push base (first ∷ others) labels = powers-push (over (Power first)
    (base ∷ [])) others labels

-- a power and one exponent more is a power
pub power-push : (Inside : List Sign → Part → Type 0) (ts back : List Sign) (x : Part)
    (labels : LabelSet) → SpellsPower Inside ts x → SpellsLabels back labels
    → SpellsPower Inside (ts ++ Caret ∷ back) (over (Power labels) (x ∷ []))
power-push Inside ts back x labels (
  front,
  rest,
  base,
  exponents,
  split,
  spelled,
  raised,
  made,
) here = (
  front,
  rest ++ Caret ∷ back,
  base,
  exponents ++ labels ∷ [],
  ap (λ l. l ++ Caret ∷ back) split ∙ append_assoc front rest (Caret ∷ back),
  spelled,
  exponents-push rest back exponents labels raised here,
  ap (λ (p : Part). over (Power labels) (p ∷ [])) made ∙ sym (powers-push base exponents labels),
)
