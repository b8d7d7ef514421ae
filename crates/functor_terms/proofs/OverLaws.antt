-- A node over parts that are added one by one.
use Rattle.std.proofs.Common.{◌≡◌, ℕ, ◌+◌, ◌<◌, ◌≤◌, max, ◌⊎◌, inl, inr, subst, List, [], ◌∷◌, ◌++◌, length, take, drop, get_or, take-append-drop, refl, sym, ap, ◌∙◌, arith, append_assoc, append-nil, length-append}
use Rattle.std.specs.List.{AllByRecursion}
use Rattle.std.proofs.lemmas.List.{take_more}
use Rattle.functor_terms.specs.declared.node.Node.{Node}
use Rattle.functor_terms.specs.Terms.{Nodes, Part, branch, over, starts, nodes_of, deepest, IsWithin, IsSmall, node_limit, depth_limit}
use Rattle.functor_terms.proofs.NamesLemmas.{all-push}

starts-push : (n : ℕ) (xs : List Part) (x : Part)
    → starts n (xs ++ x ∷ []) ≡ starts n xs ++ (n + length (nodes_of xs)) ∷ []
starts-push n [] x = let e : n ≡ n + 0 = omega arith in ap (λ m. m ∷ []) e
starts-push n (y ∷ ys) x =
    let e : n + length y.0 + length (nodes_of ys) ≡ n + length (y.0 ++ nodes_of ys) =
    omega (arith, length-append y.0 (nodes_of ys)) in
    ap (λ l. n ∷ l) (starts-push (n + length y.0) ys x
    ∙ ap (λ m. starts (n + length y.0) ys ++ m ∷ []) e)

deepest-push : (xs : List Part) (x : Part) → deepest (xs ++ x ∷ []) ≡ max (deepest xs) x.1
deepest-push [] x = omega arith
deepest-push (y ∷ ys) x = let rest = deepest-push ys x in omega arith

-- the nodes of one part more
pub nodes-push : (xs : List Part) (x : Part) → nodes_of (xs ++ x ∷ []) ≡ nodes_of xs ++ x.0
nodes-push [] x = append-nil x.0
nodes-push (y ∷ ys) x = ap (λ l. y.0 ++ l) (nodes-push ys x)
    ∙ sym (append_assoc y.0 (nodes_of ys) x.0)

-- the nodes of two lists of parts, one behind the other
pub nodes-append : (xs ys : List Part) → nodes_of (xs ++ ys) ≡ nodes_of xs ++ nodes_of ys
nodes-append [] ys = refl
nodes-append (x ∷ xs) ys = ap (λ l. x.0 ++ l) (nodes-append xs ys)
    ∙ sym (append_assoc x.0 (nodes_of xs) (nodes_of ys))

-- the outline of the parts so far
pub record IsOutline (done : List Part) (children : List ℕ) (next depth : ℕ) : Type 0 where
  pub children_are : children ≡ starts 1 done
  pub next_is : next ≡ 1 + length (nodes_of done)
  pub depth_is : depth ≡ deepest done

pub outline-push : (done more : List Part) (x : Part) (children : List ℕ) (next depth : ℕ)
    → IsOutline done children next depth → more ≡ done ++ x ∷ []
    → IsOutline more (children ++ next ∷ []) (next + length x.0) (max depth x.1)
outline-push done more x children next depth so_far is = record {
  children_are = (λ i. so_far.children_are i ++ so_far.next_is i ∷ []) ∙ sym (starts-push 1 done x)
      ∙ ap (starts 1) (sym is);
  next_is = omega (
    arith,
    so_far.next_is,
    ap (λ l. length (nodes_of l)) is,
    ap length
        (nodes-push done x),
    length-append (nodes_of done) x.0,
  );
  depth_is = (λ i. max (so_far.depth_is i) x.1) ∙ sym (deepest-push done x) ∙ ap deepest (sym is);
}

module _ (parts : List Part) (k : ℕ) (x : Part) (inside : k < length parts)
    (is : x ≡ get_or parts k x) where
  one_more : take (k + 1) parts ≡ take k parts ++ x ∷ []
  one_more = take_more parts k x inside ∙ ap (λ y. take k parts ++ y ∷ []) (sym is)

  -- the parts up to one have no more nodes than all
  pub outline-within : (next : ℕ) → next ≡ 1 + length (nodes_of (take k parts))
      → next + length x.0 ≤ 1 + length (nodes_of parts)
  outline-within next next_is =
      let all : nodes_of parts ≡ nodes_of (take (k + 1) parts) ++ nodes_of (drop (k + 1) parts) =
      ap nodes_of (sym (take-append-drop (k + 1) parts))
      ∙ nodes-append (take (k + 1) parts) (drop (k + 1) parts) in
      omega (
        arith,
        next_is,
        ap length all,
        length-append (nodes_of (take (k + 1) parts))
            (nodes_of (drop (k + 1) parts)),
        ap (λ l. length (nodes_of l)) one_more,
        ap length
            (nodes-push (take k parts) x),
        length-append (nodes_of (take k parts)) x.0,
      )

  -- the outline of one part more
  pub outline-step : (children pushed : List ℕ) (next size depth deeper : ℕ)
      → IsOutline (take k parts) children next depth → pushed ≡ children ++ next ∷ []
      → size ≡ length x.0 → deeper ≡ max depth x.1
      → IsOutline (take (k + 1) parts) pushed (next + size) deeper
  outline-step children pushed next size depth deeper so_far pushed_is size_is deeper_is =
      let new = outline-push (take k parts) (take (k + 1) parts) x children next depth so_far
      one_more in
      record {
        children_are = pushed_is
            ∙ new.children_are;
        next_is = omega (arith, size_is, new.next_is);
        depth_is = deeper_is
            ∙ new.depth_is;
      }

nodes-take : (parts : List Part) (k : ℕ)
    → length (nodes_of (take k parts)) ≤ length (nodes_of parts)
nodes-take parts k =
    omega (
      arith,
      ap (λ l. length (nodes_of l)) (take-append-drop k parts),
      ap length
          (nodes-append (take k parts) (drop k parts)),
      length-append (nodes_of (take k parts))
          (nodes_of (drop k parts)),
    )

deepest-append : (xs ys : List Part) → deepest xs ≤ deepest (xs ++ ys)
deepest-append [] ys = omega arith
deepest-append (x ∷ xs) ys = let rest = deepest-append xs ys in omega (arith, rest)

deepest-take : (parts : List Part) (k : ℕ) → deepest (take k parts) ≤ deepest parts
deepest-take parts k = omega (
  arith,
  deepest-append (take k parts) (drop k parts),
  ap deepest
      (take-append-drop k parts),
)

-- parts of which the first are not small are not small
pub small-take : (parts : List Part) (k : ℕ) → IsSmall parts → IsSmall (take k parts)
small-take parts k is = record {
  few = omega (arith, is.few, nodes-take parts k);
  shallow = omega (arith, is.shallow, deepest-take parts k);
}

-- parts of which the first have too many nodes, or are too deep, are not small
pub too_large : (parts : List Part) (k : ℕ) (children : List ℕ) (next depth : ℕ)
    → IsOutline (take k parts) children next depth → (node_limit < next) ⊎ (depth_limit ≤ depth)
    → IsSmall parts → ⊥
too_large parts k children next depth outline (inl many) small =
    let few : length (nodes_of (take k parts)) < 256 = (small-take parts k small).few in
    let many' : 256 < next = many in
    absurd (omega (arith, few, many', outline.next_is))
too_large parts k children next depth outline (inr deep) small =
    let shallow : deepest (take k parts) < 32 = (small-take parts k small).shallow in
    let deep' : 32 ≤ depth = deep in
    absurd (omega (arith, shallow, deep', outline.depth_is))

-- one more part within the bounds
pub within-push : (parts : List Part) (k : ℕ) (x : Part) → k < length parts → x ≡ get_or parts k x
    → AllByRecursion IsWithin (take k parts) → IsWithin x
    → AllByRecursion IsWithin (take (k + 1) parts)
within-push parts k x inside is all here = subst (λ (l : List Part). AllByRecursion IsWithin l)
    (sym (one_more parts k x inside is)) (all-push IsWithin (take k parts) x all here)

-- the node over its outline and the nodes of its parts
pub over-outline : (node : Node) (parts slice : List Part) (children : List ℕ) (depth : ℕ)
    (nodes : Nodes) → slice ≡ parts → children ≡ starts 1 slice → depth ≡ deepest slice
    → nodes ≡ branch node children ∷ nodes_of parts → (nodes, depth + 1) ≡ over node parts
over-outline node parts slice children depth nodes same children_are depth_is nodes_are =
    let as_parts : (nodes, depth + 1) ≡ (
      branch node (starts 1 slice) ∷ nodes_of parts,
      deepest
          slice + 1,
    ) =
    λ i. ((nodes_are ∙ ap (λ l. branch node l ∷ nodes_of parts) children_are) i, depth_is i + 1) in
    as_parts ∙ ap (λ l. (branch node (starts 1 l) ∷ nodes_of parts, deepest l + 1)) same
