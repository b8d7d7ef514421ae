-- Each node of a term has as many children as it takes, and its labels are labels.
--
-- node_known     == the node with a number does, past the end too
use Rattle.std.proofs.Common.{◌≡◌, ◌+◌, ℕ, zero, suc, true, List, [], ◌∷◌, ◌++◌, length, refl, sym, ap, ◌∙◌, subst}
use Rattle.std.specs.List.{AllByRecursion}
use Rattle.std.proofs.lemmas.List.{length-map}
use Rattle.functor_terms.specs.declared.node.Node.{Node}
use Rattle.functor_terms.specs.Terms.{Nodes, Part, IsPart, IsTerm, HasLabels, takes, nodes_of, over, placed, node_at, children_at, depth_limit}
use Rattle.structures.proofs.Arities.{starts-length}

-- a node with so many children, and with labels
abbrev pub IsKnown : Node → ℕ → Type 0
IsKnown m k = (takes m k ≡ true) × HasLabels m

abbrev AreKnown : Nodes → Type 0
AreKnown nodes = AllByRecursion (λ b. IsKnown b.node (length b.children)) nodes

known-append : (xs ys : Nodes) → AreKnown xs → AreKnown ys → AreKnown (xs ++ ys)
known-append [] ys a b = b
known-append (x ∷ xs) ys a b = (a.0, known-append xs ys a.1 b)

known-parts :
    (parts : List Part) → AllByRecursion (λ part. AreKnown part.0) parts → AreKnown (nodes_of parts)
known-parts [] all = tt
known-parts (x ∷ xs) all = known-append x.0 (nodes_of xs) all.0 (known-parts xs all.1)

known-over :
    (node : Node) (parts : List Part) → IsKnown node (length parts) →
    AllByRecursion (λ part. AreKnown part.0) parts → AreKnown (over node parts).0
known-over node parts h all =
    ((ap (takes node) (starts-length 1 parts) ∙ h.0, h.1), known-parts parts all)

part-known : (n : ℕ) (part : Part) → IsPart n part → AreKnown part.0
unfolding IsPart
part-known zero part is = absurd is
part-known (suc n) part (node, parts, arity, labels, each, made) =
    subst (λ (p : Part). AreKnown p.0) (sym made)
    (known-over node parts (arity, labels) (all (part-known n) parts each))
  where
    all :
        ((x : Part) → IsPart n x → AreKnown x.0) → (xs : List Part) →
        AllByRecursion (IsPart n) xs → AllByRecursion (λ part. AreKnown part.0) xs
    all f [] each = tt
    all f (x ∷ xs) each = (f x each.0, all f xs each.1)

placed-known :
    (k : ℕ) (nodes : Nodes) → AreKnown nodes → (p : ℕ) →
    IsKnown (node_at (placed k nodes) p) (length (children_at (placed k nodes) p))
placed-known k [] h p = (refl, tt)
placed-known k (b ∷ nodes) h zero =
    (ap (takes b.node) (length-map b.children (λ child. k + child)) ∙ h.0.0, h.0.1)
placed-known k (b ∷ nodes) h (suc p) = placed-known (k + 1) nodes h.1 p

pub node_known :
    (t : Nodes) → IsTerm t → (p : ℕ) → IsKnown (node_at t p) (length (children_at t p))
node_known t is p =
    subst (λ (u : Nodes). IsKnown (node_at u p) (length (children_at u p))) (sym is.numbered)
    (placed-known 0 is.part.0 (part-known depth_limit is.part is.within.built) p)
