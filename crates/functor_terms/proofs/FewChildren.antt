-- A node of a term has fewer children than the term has nodes.
use Rattle.std.proofs.Common.{◌≡◌, ℕ, zero, suc, ◌+◌, ◌<◌, ◌≤◌, List, [], ◌∷◌, ◌++◌, length, map, sym, ap, ◌∙◌, subst, arith, length-append}
use Rattle.std.proofs.lemmas.List.{length-map}
use Rattle.std.specs.List.{AllByRecursion}
use Rattle.functor_terms.specs.declared.node.Node.{Node}
use Rattle.functor_terms.specs.Terms.{Nodes, Part, IsPart, IsTerm, starts, nodes_of, over, placed, children_at, depth_limit}
use Rattle.functor_terms.proofs.TermLaws.{placed-length, term-some}

-- each node has no more children than nodes stand behind it
abbrev AreFew : Nodes → Type 0
AreFew [] = Unit {0}
AreFew (b ∷ nodes) = (length b.children ≤ length nodes) × AreFew nodes

few-append : (xs ys : Nodes) → AreFew xs → AreFew ys → AreFew (xs ++ ys)
few-append [] ys a b = b
few-append (x ∷ xs) ys a b = (
  let w = a.0 in omega (arith, length-append xs ys),
  few-append xs ys a.1 b,
)

abbrev IsFew : Part → Type 0
IsFew part = (0 < length part.0) × AreFew part.0

few-parts : (parts : List Part) → AllByRecursion IsFew parts → AreFew (nodes_of parts)
few-parts [] all = tt
few-parts (x ∷ xs) all = few-append x.0 (nodes_of xs) all.0.1 (few-parts xs all.1)

starts-few : (n : ℕ) (parts : List Part) → AllByRecursion IsFew parts
    → length (starts n parts) ≤ length (nodes_of parts)
starts-few n [] all = omega arith
starts-few n (x ∷ xs) all = let some = all.0.0 in let rest = starts-few (n + length x.0) xs all.1 in
    omega (arith, length-append x.0 (nodes_of xs))

over-few : (node : Node) (parts : List Part) → AllByRecursion IsFew parts → IsFew (over node parts)
over-few node parts all = (omega arith, (starts-few 1 parts all, few-parts parts all))

part-few : (n : ℕ) (part : Part) → IsPart n part → IsFew part
unfolding IsPart
part-few zero part is = absurd is
part-few (suc n) part (node, parts, takes, labels, each, made) =
    subst IsFew (sym made) (over-few node parts (by (part-few n) parts each))
  where
    by : ((x : Part) → IsPart n x → IsFew x) → (xs : List Part) → AllByRecursion (IsPart n) xs
        → AllByRecursion IsFew xs
    by f [] all = tt
    by f (x ∷ xs) all = (f x all.0, by f xs all.1)

placed-few : (k : ℕ) (nodes : Nodes) → AreFew nodes → (p : ℕ)
    → length (children_at (placed k nodes) p) ≤ length nodes
placed-few k [] few p = omega arith
placed-few k (b ∷ nodes) few zero =
    let e : length (map (λ child. k + child) b.children) ≡ length b.children = rw length-map in
    let w = few.0 in omega (arith, e)
placed-few k (b ∷ nodes) few (suc p) = let w = placed-few (k + 1) nodes few.1 p in omega arith

-- at most 256 children
pub children-few : (t : Nodes) → IsTerm t → (p : ℕ) → length (children_at t p) ≤ 256
children-few t is p =
    let few : AreFew is.part.0 = (part-few depth_limit is.part is.within.built).1 in
    let w : length (children_at (placed 0 is.part.0) p) ≤ length is.part.0 =
    placed-few 0 is.part.0 few p in
    let e : length (children_at t p) ≡ length (children_at (placed 0 is.part.0) p) =
    ap (λ (u : Nodes). length (children_at u p)) is.numbered in
    let size : length t ≡ length is.part.0 = ap length is.numbered ∙ placed-length 0 is.part.0 in
    let all = (term-some t is).1 in
    omega arith
